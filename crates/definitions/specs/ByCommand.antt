-- Document 02, W-209: the second layout of a book, its transitions by command; turning one layout into the other; and that every call gives the
-- same on either.
use Rattle.std.specs.Prelude.{◌≡◌, cond, List, [], ◌∷◌, ◌++◌, ℕ, zero, suc, ◌+◌, ◌*◌, ◌/◌, ◌%◌, eqb, length, get_or, take, drop}
use Rattle.definitions.specs.Basics.{as_it_is, tabulate}
use Rattle.definitions.specs.Limits.{nodes, commands, book_length}
use Rattle.definitions.specs.Book.{node_fields, node_base, hold_base, node_word}
use Rattle.definitions.specs.Answer.{Answer, asks, InOrder}
use Rattle.definitions.specs.Open.{Opening}
use Rattle.definitions.specs.Calls.{OpenSays, LoadAnswer, LoadSays, ExitSays, StepSays, PlanSays}
use Rattle.definitions.specs.Choose.{Choice, ChoiceSays, ChooseSays}
use Rattle.definitions.specs.Write.{WriteSays}
use Rattle.definitions.specs.Merge.{MergeSays}
use Rattle.definitions.specs.Walk.{OpenWalkersSay, WalkSays}

-- a list of a book's length turned; any other stays as it is
abbrev pub turned : (List ℕ → List ℕ) → List ℕ → List ℕ
turned f ws = cond (eqb (length ws) book_length) (f ws) ws

-- By command: the 256 transition words (document 02: arrow words) of command 0, then those of command 1, and so on; then the other words in their
-- old order: up to the nodes' records, owner and machine below of each node, and what stands behind the nodes
unfoldable pub by_command : List ℕ → List ℕ
by_command =
    turned (λ ws.
    tabulate (commands * nodes) (λ i. node_word ws (i % nodes) (2 + i / nodes))
    ++ (take node_base ws ++ (tabulate (nodes * 2) (λ i. node_word ws (i / 2) (i % 2)) ++ drop hold_base ws)))

-- the word of node n of a book by command, at a place of its record
abbrev pub word_by_command : List ℕ → ℕ → ℕ → ℕ
word_by_command vs n zero = get_or vs (commands * nodes + node_base + n * 2) 0
word_by_command vs n (suc zero) = get_or vs (commands * nodes + node_base + n * 2 + 1) 0
word_by_command vs n (suc (suc x)) = get_or vs (x * nodes + n) 0

-- and back, by node: document 01's layout. What stands behind the nodes has its place in both
unfoldable pub by_node : List ℕ → List ℕ
by_node =
    turned (λ vs.
    take node_base (drop (commands * nodes) vs)
    ++ (tabulate (nodes * node_fields) (λ i. word_by_command vs (i / node_fields) (i % node_fields)) ++ drop hold_base vs))

-- Turning writes from one lent list into another. It refuses 1 alone, writing nothing
abbrev pub TurnSays : (List ℕ → List ℕ) → List ℕ → List ℕ → ℕ → List ℕ → Type 0
TurnSays turn from out number out' =
    InOrder (asks 1 ((length from ≡ book_length) × (length out ≡ book_length)) ∷ [])
    (λ k. (number ≡ k) × (out' ≡ out)) ((number ≡ 0) × (out' ≡ turn from))

-- turning there and back changes no word, both ways round
abbrev pub TurnsBack : Type 0
TurnsBack = (ws : List ℕ) → (by_node (by_command ws) ≡ ws) × (by_command (by_node ws) ≡ ws)

-- ---- the same answers. A call on a book by command promises of the words that it is lent, turned by node, what the call by node promises of a
-- book; and so of a book that it leaves.

-- A call that is lent a book and gives something. By node it is lent ws, by command the same book: what it gives by command is allowed by node, and
-- what the documents fix of it is the same
abbrev pub SameGiven : {A B : Type 0} → (List ℕ → A → Type 0) → (A → B) → Type 0
SameGiven {A} says fixed =
    (ws : List ℕ) (a b : A) → says ws a → says (by_node (by_command ws)) b → says ws b × (fixed a ≡ fixed b)

-- a call that also leaves a book, in the layout of the call: by node ws', by command vs', which is ws' turned
abbrev pub SameLeft : {A B : Type 0} → (List ℕ → A → List ℕ → Type 0) → (A → B) → Type 0
SameLeft {A} says fixed =
    (ws ws' vs' : List ℕ) (a b : A) → says ws a ws' → says (by_node (by_command ws)) b (by_node vs')
    → says ws b (by_node vs') × (fixed a ≡ fixed b) × (vs' ≡ by_command ws')

-- Every call that is lent a book, with what is fixed of it: all that it gives and leaves; but of Load the answer and the book, its sheet being one that
-- document 01 allows for this book; and of Plan number and cost, its list being a cheapest one
pub record SameAnswers : Type 1 where
  pub opens : (o : Opening) (sheet : List ℕ) → SameLeft (λ ws ((number, sheet') : ℕ × List ℕ) ws'. OpenSays o ws sheet number ws' sheet') as_it_is
  pub loads : (sheet stream : List ℕ)
      → SameLeft (λ ws ((answer, sheet') : LoadAnswer × List ℕ) ws'. LoadSays ws sheet stream answer ws' sheet') (λ given. given.0)
  pub exits : (sheet : List ℕ) (m x : ℕ) → SameGiven (λ ws answer. ExitSays ws sheet m x answer) as_it_is
  pub steps : (s x : ℕ) → SameGiven (λ ws answer. StepSays ws s x answer) as_it_is
  pub plans : (sheet : List ℕ) (a b : ℕ) (buffer : List ℕ)
      → SameGiven (λ ws ((answer, buffer') : Answer × List ℕ). PlanSays ws sheet a b buffer answer buffer')
      (λ given. given.0.number ∷ take 1 given.0.values)
  pub writes : (out : List ℕ) → SameGiven (λ ws ((answer, out') : Answer × List ℕ). WriteSays ws out answer out') as_it_is
  pub choice : (a b : ℕ) (one two : List ℕ) → SameGiven (λ ws ((choice, number) : Choice × ℕ). ChoiceSays ws a b one two choice number) as_it_is
  pub chooses : {Place : Type 0} (a b : ℕ) (one two : List ℕ) (p q : Place)
      → SameGiven (λ ws ((part, number, place) : List ℕ × ℕ × Place). ChooseSays ws a b one two part number p q place) as_it_is
  -- one and two are the first two books by command; by node they are lent turned
  pub merges : (one two sheet : List ℕ)
      → SameLeft (λ ws ((number, sheet') : ℕ × List ℕ) ws'. MergeSays (by_node one) (by_node two) ws sheet number ws' sheet') as_it_is
  pub opens_walkers : (n k : ℕ) (states : List ℕ) → SameGiven (λ ws number. OpenWalkersSay ws n k states number) as_it_is
  pub walks : (n k : ℕ) (states : List ℕ) (w x : ℕ)
      → SameGiven (λ ws ((answer, states') : Answer × List ℕ). WalkSays ws n k states w x answer states') as_it_is
