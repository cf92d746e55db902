-- Document 01, "Opening", "Loading a stream" and "Exit, step and plan": what each call answers and leaves, on every input. The third value of
-- Step and the claim about it are of document 02 (W-202).
use Rattle.std.specs.Prelude.{◌≡◌, ◌⊎◌, true, false, List, [], ◌∷◌, ◌++◌, ℕ, ◌+◌, ◌-◌, ◌<◌, length, drop}
use Rattle.std.proofs.Math.Option.{none, some}
use Rattle.definitions.specs.Basics.{Distinct}
use Rattle.definitions.specs.Limits.{machines, nodes, commands, book_length, sheet_length}
use Rattle.definitions.specs.Tree.{Tree, UsedNode, path, states}
use Rattle.definitions.specs.Step.{enter, leaving_all, Arrival, step, acting, Lowest, Moves, passes}
use Rattle.definitions.specs.Costs.{LeastCost, ExitCost}
use Rattle.definitions.specs.Book.{encode, tree_of, WellFormed}
use Rattle.definitions.specs.Sheet.{Rows, rows_of, encode_rows}
use Rattle.definitions.specs.Truth.{TrueSheet}
use Rattle.definitions.specs.Load.{Outcome, load, RowsAfterAll}
use Rattle.definitions.specs.Open.{open_rows, TableLength, Opening, fresh, ladder, table, ComesOf}
use Rattle.definitions.specs.Answer.{Answer, gives, refuses, Refusal, refuse, asks, wants, wants_least, asks_room, InOrder}

-- both lists have as many words as a book and a sheet have
abbrev pub RightLengths : List ℕ → List ℕ → Type 0
RightLengths book sheet = (length book ≡ book_length) × (length sheet ≡ sheet_length)

-- the refusals that calls begin with: 1 (a wrong length), 2 (book not well formed) and, where a sheet is lent, 3 (sheet not true)
abbrev pub book_refusals : List ℕ → List Refusal → List Refusal
book_refusals book rest = asks 1 (length book ≡ book_length) ∷ asks 2 (WellFormed book) ∷ rest

abbrev pub sheet_refusals : List ℕ → List ℕ → List Refusal → List Refusal
sheet_refusals book sheet rest =
    asks 1 (RightLengths book sheet) ∷ asks 2 (WellFormed book) ∷ asks 3 (TrueSheet (tree_of book) sheet) ∷ rest

-- what an opening refuses: 1 (a wrong length, of a table too), then for a table 2 (no well-formed book comes of it)
abbrev pub open_refusals : Opening → List ℕ → List ℕ → List Refusal
open_refusals fresh book sheet = asks 1 (RightLengths book sheet) ∷ []
open_refusals ladder book sheet = asks 1 (RightLengths book sheet) ∷ []
open_refusals (table rows) book sheet = asks 1 (RightLengths book sheet × TableLength rows) ∷ asks 2 ((t : Tree) × ComesOf (table rows) t) ∷ []

-- Open fresh, Open ladder, and Open from a table (document 02, W-208): the number, and both lists after the call
abbrev pub OpenSays : Opening → List ℕ → List ℕ → ℕ → List ℕ → List ℕ → Type 0
OpenSays o book sheet number book' sheet' =
    InOrder (open_refusals o book sheet)
    (λ k. (number ≡ k) × (book' ≡ book) × (sheet' ≡ sheet))
    ((t : Tree) × ComesOf o t × (number ≡ 0) × (book' ≡ encode t) × (sheet' ≡ encode_rows (open_rows t)))

-- Load's answer: bytes taken, commands taken and 0 or the refusal
pub record LoadAnswer : Type 0 where
  pub bytes : ℕ
  pub commands : ℕ
  pub number : ℕ

-- what the taken commands of the stream leave, o being what becomes of the stream on the book's tree
pub record LoadDone (t : Tree) (r : Rows) (o : Outcome) (answer : LoadAnswer) (book' sheet' : List ℕ) : Type 0 where
  pub answered : answer ≡ record { bytes = o.bytes; commands = length o.commands; number = o.number }
  pub book : book' ≡ encode o.tree
  pub rows : Rows
  pub done : RowsAfterAll t o.commands r rows
  pub sheet : sheet' ≡ encode_rows rows

-- Load: its answer, and both lists after the call
abbrev pub LoadSays : List ℕ → List ℕ → List ℕ → LoadAnswer → List ℕ → List ℕ → Type 0
LoadSays book sheet stream answer book' sheet' =
    InOrder (sheet_refusals book sheet [])
    (λ k. (answer ≡ record { bytes = 0; commands = 0; number = k }) × (book' ≡ book) × (sheet' ≡ sheet))
    (LoadDone (tree_of book) (rows_of sheet) (load (tree_of book) stream) answer book' sheet')

-- Exit: the exit cost of machine m for x. It refuses also 6 (number out of range), 7 (not in use), 13 (that machine marked),
-- 16 (no way)
abbrev pub exit_refusals : Tree → Rows → ℕ → ℕ → List Refusal
exit_refusals t r m x =
    asks 6 ((m < machines) × (x < commands))
    ∷ wants 7 (t.start m)
    ∷ refuse 13 (r.stale m ≡ true) (r.stale m ≡ false)
    ∷ wants_least 16 (ExitCost t m x)
    ∷ []

abbrev pub ExitSays : List ℕ → List ℕ → ℕ → ℕ → Answer → Type 0
ExitSays book sheet m x answer =
    InOrder (sheet_refusals book sheet (exit_refusals (tree_of book) (rows_of sheet) m x))
    (λ k. answer ≡ refuses k)
    ((c : ℕ) × ExitCost (tree_of book) m x (some c) × (answer ≡ gives (c ∷ [])))

-- Step: the state, the cost and the acting node. It refuses also 6, 7, 14 (node not plain), 17 (the station stops)
abbrev pub step_refusals : Tree → ℕ → ℕ → List Refusal
step_refusals t s x =
    asks 6 ((s < nodes) × (x < commands)) ∷ wants 7 (t.owner s) ∷ asks 14 (t.below s ≡ none) ∷ wants 17 (step t s x) ∷ []

-- a step is given: the state and the cost, and the node whose transition was used (document 02, W-202)
abbrev pub GivesStep : Tree → ℕ → ℕ → Answer → Type 0
GivesStep t s x answer =
    (a : Arrival) × (step t s x ≡ some a) × (n : ℕ) × (acting t s x ≡ some n) × (answer ≡ gives (a.node ∷ a.cost ∷ n ∷ []))

abbrev pub StepSays : List ℕ → ℕ → ℕ → Answer → Type 0
StepSays book s x answer =
    InOrder (book_refusals book (step_refusals (tree_of book) s x)) (λ k. answer ≡ refuses k) (GivesStep (tree_of book) s x answer)

-- Node n acts for command x at state s, and a is where that leads and what it costs.
pub record Acts (t : Tree) (s x n : ℕ) (a : Arrival) : Type 0 where
  -- it is the state or holds it, has a transition for x that counts, and no node below it on the way up has one
  pub lowest : Lowest t x (path t s) n
  -- the target, entered, is the state of a; the cost of a is the transition's plus that of leaving each machine climbed past (document 02, W-207)
  pub enters : enter t lowest.transition.target ≡ some a.node
  pub costs : leaving_all t lowest.lower + lowest.transition.cost ≡ a.cost

-- the claim of W-202: the node that Step gives acts, for every book, state and command
abbrev pub StepActs : Type 0
StepActs =
    (book : List ℕ) (s x : ℕ) (a : Arrival) (n : ℕ) → StepSays book s x (gives (a.node ∷ a.cost ∷ n ∷ [])) → Acts (tree_of book) s x n a

-- a cheapest list from a to b: it moves the station there, passes no state twice, and no list that does costs less
pub record Plan (t : Tree) (a b cost : ℕ) (list : List ℕ) : Type 0 where
  pub moves : Moves t a b list cost
  pub simple : Distinct (passes t a list)
  pub least : LeastCost t a b (some cost)

-- the refusals that calls between two states share: 6, 7, 14
abbrev pub state_refusals : Tree → ℕ → ℕ → List Refusal → List Refusal
state_refusals t a b rest =
    asks 6 ((a < nodes) × (b < nodes))
    ∷ refuse 7 ((t.owner a ≡ none) ⊎ (t.owner b ≡ none)) (UsedNode t a × UsedNode t b)
    ∷ asks 14 ((t.below a ≡ none) × (t.below b ≡ none))
    ∷ rest

-- 13 (any machine marked)
abbrev pub none_stale : Rows → Refusal
none_stale r = refuse 13 ((m : ℕ) × (r.stale m ≡ true)) ((m : ℕ) → r.stale m ≡ false)

-- what Plan refuses on a tree and its rows, with room for so many commands: 13 (any machine marked), 6, 7, 14,
-- 15 (buffer shorter than states less 1), 16 (no way)
abbrev pub plan_refusals : Tree → Rows → ℕ → ℕ → ℕ → List Refusal
plan_refusals t r a b room =
    refuse 13 ((m : ℕ) × (r.stale m ≡ true)) ((m : ℕ) → r.stale m ≡ false)
    ∷ state_refusals t a b (asks_room 15 (states t - 1) room ∷ wants_least 16 (LeastCost t a b) ∷ [])

-- a plan is given: cost and count, and the commands at the front of the plan buffer, later bytes untouched
abbrev pub GivesPlan : Tree → ℕ → ℕ → List ℕ → Answer → List ℕ → Type 0
GivesPlan t a b buffer answer buffer' =
    (cost : ℕ) × (list : List ℕ) × Plan t a b cost list
    × (answer ≡ gives (cost ∷ length list ∷ []))
    × (buffer' ≡ list ++ drop (length list) buffer)

-- Plan: a plan, or a refusal and the buffer untouched
abbrev pub PlanSays : List ℕ → List ℕ → ℕ → ℕ → List ℕ → Answer → List ℕ → Type 0
PlanSays book sheet a b buffer answer buffer' =
    InOrder (sheet_refusals book sheet (plan_refusals (tree_of book) (rows_of sheet) a b (length buffer)))
    (λ k. (answer ≡ refuses k) × (buffer' ≡ buffer))
    (GivesPlan (tree_of book) a b buffer answer buffer')
