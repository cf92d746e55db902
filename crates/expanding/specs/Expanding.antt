-- What the expansion is lent, the steps of a path as they stand in two lists, and what is written.
use Rattle.std.specs.Prelude.{◌≡◌, false, List, [], ◌∷◌, ◌++◌, ℕ, zero, suc, ◌+◌, ◌≤◌, ◌<◌, length, get_or}
use Rattle.std.proofs.Math.Option.{Option}
use Rattle.std.proofs.lemmas.List.Edits.{sets}
use Rattle.definitions.specs.Limits.{nodes, commands}
use Rattle.definitions.specs.Tree.{Tree}
use Rattle.definitions.specs.Book.{tree_of, WellFormed}
use Rattle.definitions.specs.Sheet.{Rows, rows_of}
use Rattle.definitions.specs.Truth.{TrueSheet}
use Rattle.plantheory.specs.Expand.{chain_part, node_part, plan_part}
use Rattle.search.specs.Search.{name_of}

-- a well-formed book and a true sheet with no stale row
pub record Fresh (book sheet : List ℕ) : Type 0 where
  pub well_formed : WellFormed book
  pub true_sheet : TrueSheet (tree_of book) sheet
  pub fresh : (m : ℕ) → (rows_of sheet).stale m ≡ false

-- the plan to b that the names in two lists lead to
abbrev pub plan_of : (book sheet before by : List ℕ) → ℕ → List ℕ
plan_of book sheet before by b = plan_part (tree_of book) (rows_of sheet) (name_of nodes before) (name_of nodes by) b

-- the commands by which node n is left by x: its part for x, and x itself
abbrev pub leave_part : (ℕ → ℕ → List ℕ) → ℕ → ℕ → List ℕ
leave_part part n x = part n x ++ (x ∷ [])

-- Steps stand in two lists, the last step first: the node that is left, and the command given. The commands of the first k of them, in
-- the order in which they are given:
unfoldable pub steps_part : (ℕ → ℕ → List ℕ) → (left given : List ℕ) → ℕ → List ℕ
steps_part part left given zero = []
steps_part part left given (suc k) = leave_part part (get_or left k 0) (get_or given k 0) ++ steps_part part left given k

-- the lists have room for 256 steps, and k steps stand in them
pub record Steps (left given : List ℕ) (k : ℕ) : Type 0 where
  pub left_room : length left ≡ nodes
  pub given_room : length given ≡ nodes
  pub small : k ≤ nodes
  pub node : (i : ℕ) → i < k → get_or left i 0 < nodes
  pub command : (i : ℕ) → i < k → get_or given i 0 < commands

-- to the j steps that stand in the lists are added those by which the names lead to n; k steps stand in them then
pub record Traced (before by : ℕ → Option ℕ) (n j : ℕ) (left given : List ℕ) (k : ℕ) (left' given' : List ℕ) : Type 0 where
  pub more : j ≤ k
  pub steps : Steps left' given' k
  pub whole : (part : ℕ → ℕ → List ℕ)
      → steps_part part left' given' k ≡ chain_part nodes before by part n ++ steps_part part left given j

-- node n opens, for x, into the k steps of its machine's path, of which the last leaves the machine; into none where n has no part
pub record NodeOpens (t : Tree) (r : Rows) (n x k : ℕ) (left given : List ℕ) : Type 0 where
  pub steps : Steps left given k
  pub shut : k ≡ 0 → (d : ℕ) → node_part d t r n x ≡ []
  pub path : (k ≡ 0 → ⊥) → (d : ℕ) → steps_part (node_part d t r) left given k ≡ leave_part (node_part (suc d) t r) n x

-- the list is written over the bytes from a place on, where there is room for it, and the next place is the one after it
pub record CommandsWritten (before after : List ℕ) (at next : ℕ) (list : List ℕ) : Type 0 where
  pub next_place : next ≡ at + length list
  pub bytes : after ≡ sets before at list
