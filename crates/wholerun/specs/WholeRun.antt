-- Demand 3 as what one call answers and leaves: it opens, does a Load for each stream and one for a refresh alone, and asks Plan.
use Rattle.std.specs.Prelude.{◌≡◌, ◌⊎◌, true, false, List, [], ◌∷◌, ℕ, length}
use Rattle.definitions.specs.Limits.{plan_buffer}
use Rattle.definitions.specs.Tree.{Tree, is_state}
use Rattle.definitions.specs.Costs.{LeastCost}
use Rattle.definitions.specs.Book.{encode}
use Rattle.definitions.specs.Sheet.{rows_of}
use Rattle.definitions.specs.Truth.{TrueSheet}
use Rattle.definitions.specs.Load.{expected}
use Rattle.definitions.specs.Open.{Opening, ComesOf}
use Rattle.definitions.specs.Answer.{Answer, refuses, asks, wants_least, InOrder}
use Rattle.definitions.specs.Calls.{open_refusals, GivesPlan, state_refusals}
use Rattle.definitions.specs.Demand.{with_refresh, GoodPlan, NoWay}
use Rattle.wholerun.specs.Ends.{Rising, streams_of}

-- both lists are ready for Plan: they are those of this tree, with nothing stale
pub record PlanReady (t : Tree) (book sheet : List ℕ) : Type 0 where
  pub written : book ≡ encode t
  pub filled : TrueSheet t sheet
  pub fresh : (m : ℕ) → (rows_of sheet).stale m ≡ false

-- A holding made ready: opened, loaded with these streams and refreshed. It refuses what the opening refuses, writing nothing
abbrev pub PreparedSays : Opening → List (List ℕ) → List ℕ → List ℕ → ℕ → List ℕ → List ℕ → Type 0
PreparedSays o streams book sheet number book' sheet' =
    InOrder (open_refusals o book sheet)
    (λ k. (number ≡ k) × (book' ≡ book) × (sheet' ≡ sheet))
    ((t : Tree) × ComesOf o t × (number ≡ 0) × PlanReady (expected t (with_refresh streams)) book' sheet')

-- Plan's answer on a tree, with room for every plan: it refuses 6, 7, 14 or 16, or gives a plan
abbrev pub AnswersFor : Tree → ℕ → ℕ → List ℕ → Answer → List ℕ → Type 0
AnswersFor t a b buffer answer buffer' =
    InOrder (state_refusals t a b (wants_least 16 (LeastCost t a b) ∷ []))
    (λ k. (answer ≡ refuses k) × (buffer' ≡ buffer)) (GivesPlan t a b buffer answer buffer')

-- what demand 3 asks of Plan's answer for states a and b
abbrev pub Demanded : Tree → ℕ → ℕ → Answer → List ℕ → Type 0
Demanded t a b answer buffer' =
    is_state t a ≡ true → is_state t b ≡ true → GoodPlan t a b answer buffer' ⊎ NoWay t a b answer

-- what is left of the lists and answered, the station being t
pub record RunAnswered (t : Tree) (a b : ℕ) (buffer : List ℕ) (answer : Answer) (book' sheet' buffer' : List ℕ) : Type 0 where
  pub ready : PlanReady t book' sheet'
  pub answers : AnswersFor t a b buffer answer buffer'
  pub demanded : Demanded t a b answer buffer'

-- what the whole run answers: that it ran, with Plan's answer, or a refusal
pub data Run : Type 0 where
  ran : (answer : Answer) → Run
  refused : (number : ℕ) → Run

-- The whole run, on every input. It refuses 1 (a wrong length of the plan buffer), 99 (ends that do not rise from 0 to the number of bytes; no call
-- of documents 01 and 02 has this number), then what the opening refuses, with nothing changed. Else it ran: the lists hold the expected station of
-- all the streams, the refresh alone with them, and the answer is Plan's of it.
abbrev pub RunSays : Opening → List ℕ → List ℕ → List ℕ → List ℕ → ℕ → ℕ → List ℕ → Run → List ℕ → List ℕ → List ℕ → Type 0
RunSays opening book sheet bytes ends a b buffer run book' sheet' buffer' =
    InOrder (asks 1 (length buffer ≡ plan_buffer) ∷ asks 99 (Rising 0 ends (length bytes)) ∷ open_refusals opening book sheet)
    (λ k. (run ≡ refused k) × (book' ≡ book) × (sheet' ≡ sheet) × (buffer' ≡ buffer))
    ((t : Tree) × ComesOf opening t × ((answer : Answer) × (run ≡ ran answer)
    × RunAnswered (expected t (with_refresh (streams_of 0 ends bytes))) a b buffer answer book' sheet' buffer'))
