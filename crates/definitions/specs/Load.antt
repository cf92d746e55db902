-- Document 01, "Loading a stream": a whole stream on a tree, the rows that its commands leave, and the expected station.
use Rattle.std.specs.Prelude.{◌≡◌, cond, List, [], ◌∷◌, ℕ, zero, suc, ◌+◌, eqb, length, drop}
use Rattle.definitions.specs.Tree.{Tree}
use Rattle.definitions.specs.Sheet.{Rows}
use Rattle.definitions.specs.Stream.{Command, Next, ended, taken, refused, read_next}
use Rattle.definitions.specs.Edit.{refusal, tree_after, RowsAfter}

-- a command that was read is refused where one of its refusals holds on this tree
abbrev pub judged : Tree → Next → Next
judged t ended = ended
judged t (taken c size) = cond (eqb (refusal t c) 0) (taken c size) (refused (refusal t c))
judged t (refused k) = refused k

-- the next command of a stream on a tree
unfoldable pub next : Tree → List ℕ → Next
next t bytes = judged t (read_next bytes)

-- what became of a stream: bytes taken, the commands taken, 0 or the refusal, and the tree after them
pub record Outcome : Type 0 where
  pub bytes : ℕ
  pub commands : List Command
  pub number : ℕ
  pub tree : Tree

-- nothing more is taken
abbrev pub stopped : ℕ → Tree → Outcome
stopped k t = record { bytes = 0; commands = []; number = k; tree = t }

-- one command more, before the others
abbrev pub after : Command → ℕ → Outcome → Outcome
after c size o = record { bytes = size + o.bytes; commands = c ∷ o.commands; number = o.number; tree = o.tree }

-- what follows from what stands next: go does the rest
abbrev pub onward : Tree → Next → (Command → ℕ → Outcome) → Outcome
onward t ended go = stopped 0 t
onward t (taken c size) go = after c size (go c size)
onward t (refused k) go = stopped k t

-- a stream on a tree, command by command up to its end or the first that is refused; each takes a byte at least
unfoldable pub load_f : ℕ → Tree → List ℕ → Outcome
load_f zero t bytes = stopped 0 t
load_f (suc k) t bytes = onward t (next t bytes) (λ c size. load_f k (tree_after t c) (drop size bytes))

unfoldable pub load : Tree → List ℕ → Outcome
load t bytes = load_f (length bytes) t bytes

-- the rows that a list of taken commands leaves, done in order
abbrev pub RowsAfterAll : Tree → List Command → Rows → Rows → Type 0
RowsAfterAll t [] r last = last ≡ r
RowsAfterAll t (c ∷ cs) r last = (mid : Rows) × RowsAfter t c r mid × RowsAfterAll (tree_after t c) cs mid last

-- the tree after streams (document 01: the expected station; document 02, W-205, W-207: it takes 0x1A and 0x1B and refuses 21, and 6 for the
-- root, by the same rules), worked out from the opening's tree and the streams alone
unfoldable pub expected : Tree → List (List ℕ) → Tree
expected t [] = t
expected t (bytes ∷ rest) = expected (load t bytes).tree rest
