-- The public calls as C sees them: the number is returned, and what an answer gives is stored through pointers.
use Rattle.std.specs.Prelude.{◌≡◌, cond, List, [], ◌∷◌, ℕ, zero, suc, eqb, drop, Float, Some, None}
use Rattle.std.proofs.Math.Option.{Option, none, some}
use Rattle.std.specs.Prelude as core
use Rattle.importing.specs.declared.Reading as read
use Rattle.importing.specs.declared.Reading.TheVariants.{Taken, Waited}
use Rattle.definitions.specs.Answer.{Answer, gives, refuses, wants, InOrder}
use Rattle.definitions.specs.Calls.{LoadSays, ExitSays, StepSays, PlanSays}
use Rattle.definitions.specs.Write.{WriteSays}
use Rattle.definitions.specs.Ladder.{LadderSays}
use Rattle.definitions.specs.Import.{Reading, took, waited, ImportSays}
use Rattle.definitions.specs.Choose.{Choice, first, second, ChoiceSays}
use Rattle.definitions.specs.Walk.{WalkSays}

-- what words hold after the call that held `old` before it: the values that an answer gives, in their order; a refusal gives none
abbrev pub words_after : (values old : List ℕ) → List ℕ
words_after [] old = old
words_after (v ∷ vs) [] = []
words_after (v ∷ vs) (o ∷ old) = v ∷ words_after vs old

-- an answer is stored: its number is returned, and the words take its values
pub record Stored (answer : Answer) (old : List ℕ) (number : ℕ) (new : List ℕ) : Type 0 where
  pub returned : number ≡ answer.number
  pub words : new ≡ words_after answer.values old

-- a call returns what is said: an answer that the document allows, stored
pub record Returns (Says : Answer → Type 0) (old : List ℕ) (number : ℕ) (new : List ℕ) : Type 0 where
  pub answer : Answer
  pub says : Says answer
  pub stored : Stored answer old number new

-- Exit: the cost; Step: the state, the cost and the acting node (document 02, W-202); Plan: the cost and the count
abbrev pub ExitReturns : (book sheet : List ℕ) (m x cost number cost' : ℕ) → Type 0
ExitReturns book sheet m x cost number cost' = Returns (ExitSays book sheet m x) (cost ∷ []) number (cost' ∷ [])

abbrev pub StepReturns : (book : List ℕ) (s x next cost node number next' cost' node' : ℕ) → Type 0
StepReturns book s x next cost node number next' cost' node' =
    Returns (StepSays book s x) (next ∷ cost ∷ node ∷ []) number (next' ∷ cost' ∷ node' ∷ [])

abbrev pub PlanReturns : (book sheet : List ℕ) (a b : ℕ) (buffer : List ℕ) (cost count number : ℕ) (buffer' : List ℕ) (cost' count' : ℕ) → Type 0
PlanReturns book sheet a b buffer cost count number buffer' cost' count' =
    Returns (λ answer. PlanSays book sheet a b buffer answer buffer') (cost ∷ count ∷ []) number (cost' ∷ count' ∷ [])

-- a call that gives a list: its length
abbrev pub ListReturns : (Answer → List ℕ → Type 0) → (size number : ℕ) (out' : List ℕ) (size' : ℕ) → Type 0
ListReturns Says size number out' size' = Returns (λ answer. Says answer out') (size ∷ []) number (size' ∷ [])

-- Write, and the generator of ladders (document 02, W-208)
abbrev pub WriteReturns : (book out : List ℕ) (size number : ℕ) (out' : List ℕ) (size' : ℕ) → Type 0
WriteReturns book out = ListReturns (WriteSays book out)

abbrev pub LadderReturns : (depth : ℕ) (out : List ℕ) (size number : ℕ) (out' : List ℕ) (size' : ℕ) → Type 0
LadderReturns depth out = ListReturns (LadderSays depth out)

-- Load: the number and both counts, which are always stored
abbrev pub LoadReturns : List ℕ → List ℕ → List ℕ → ℕ → ℕ → ℕ → List ℕ → List ℕ → Type 0
LoadReturns book sheet stream number bytes commands book' sheet' =
    LoadSays book sheet stream (record { bytes = bytes; commands = commands; number = number }) book' sheet'

-- Choose as an answer: which list, 0 the first and 1 the second, and how many of its commands are used
abbrev pub choice_gives : Choice → ℕ → Answer
choice_gives (first k) zero = gives (0 ∷ k ∷ [])
choice_gives (second k) zero = gives (1 ∷ k ∷ [])
choice_gives choice (suc n) = refuses (suc n)

-- how many of its commands a choice has
abbrev pub count_of : Choice → ℕ
count_of (first k) = k
count_of (second k) = k

abbrev pub ChooseReturns : (book : List ℕ) (a b : ℕ) (one two : List ℕ) (list used number list' used' : ℕ) → Type 0
ChooseReturns book a b one two list used number list' used' =
    Returns (λ answer. (choice : Choice) × (k : ℕ) × ChoiceSays book a b one two choice k × (answer ≡ choice_gives choice k))
    (list ∷ used ∷ []) number (list' ∷ used' ∷ [])

-- the import of a reading: the number and the length, by the answer that document 02 gives (W-203)
abbrev pub TimingReturns : (n x v : ℕ) (reading : Reading) (dead : Float) (out : List ℕ) (size number : ℕ) (out' : List ℕ) (size' : ℕ) → Type 0
TimingReturns n x v reading dead out = ListReturns (ImportSays n x v reading dead out)

-- a reading of the library, if there is one
abbrev pub given_reading : core.Option read.Reading → Option Reading
given_reading (Some (Taken seconds)) = some (took seconds)
given_reading (Some (Waited seconds)) = some (waited seconds)
given_reading None = none

-- the reading that a kind and its seconds are: 0 seconds taken, 1 seconds waited without an end
abbrev pub reading_as : ℕ → Float → Option Reading
reading_as kind seconds = cond (eqb kind 0) (some (took seconds)) (cond (eqb kind 1) (some (waited seconds)) none)

-- the import with its reading by kind: another kind is refused with 6, and nothing is stored
abbrev pub ImportReturns : ℕ → ℕ → ℕ → ℕ → Float → Float → List ℕ → ℕ → ℕ → List ℕ → ℕ → Type 0
ImportReturns n x v kind seconds dead out size number out' size' =
    InOrder (wants 6 (reading_as kind seconds) ∷ [])
    (λ k. (number ≡ k) × (out' ≡ out) × (size' ≡ size))
    ((reading : Reading) × (reading_as kind seconds ≡ some reading) × TimingReturns n x v reading dead out size number out' size')

-- a walker command: the state stands in the walker's record, and the words take the values behind it, the cost and the acting node (W-206)
abbrev pub behind_state : Answer → Answer
behind_state answer = record { number = answer.number; values = drop 1 answer.values }

abbrev pub WalkReturns : (book : List ℕ) (n k : ℕ) (states : List ℕ) (w x cost acted number : ℕ) (states' : List ℕ) (cost' acted' : ℕ) → Type 0
WalkReturns book n k states w x cost acted number states' cost' acted' =
    Returns (λ behind. (answer : Answer) × WalkSays book n k states w x answer states' × (behind ≡ behind_state answer))
    (cost ∷ acted ∷ []) number (cost' ∷ acted' ∷ [])
