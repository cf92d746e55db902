-- The customer's demands 2 (its last clause) and 3, each as one statement; and the bounds on what Plan and Write give (document 02,
-- W-207, in place of document 01's).
use Rattle.std.specs.Prelude.{◌≡◌, ◌⊎◌, true, List, [], ◌∷◌, ◌++◌, ℕ, ◌-◌, ◌≤◌, ◌<◌, length, take}
use Rattle.definitions.specs.Basics.{All, Distinct}
use Rattle.definitions.specs.Limits.{plan_buffer, largest_plan_cost, longest_stream}
use Rattle.definitions.specs.Tree.{Tree, Sound, is_state, states}
use Rattle.definitions.specs.Step.{Moves, passes}
use Rattle.definitions.specs.Book.{WellFormed, tree_of}
use Rattle.definitions.specs.Sheet.{encode_rows}
use Rattle.definitions.specs.Truth.{TrueSheet}
use Rattle.definitions.specs.Load.{expected}
use Rattle.definitions.specs.Open.{Opening, ComesOf, open_rows}
use Rattle.definitions.specs.Answer.{Answer, gives, refuses}
use Rattle.definitions.specs.Calls.{OpenSays, LoadAnswer, LoadSays, Plan, PlanSays}
use Rattle.definitions.specs.Write.{written, WriteSays}

-- every element is a byte
abbrev pub Bytes : List ℕ → Type 0
Bytes = All (λ b. b < 256)

-- a list of Load calls, each with its stream: each gets the book and sheet that the one before left. `turn` gives a lent book by node: `as_it_is`
-- where it is lent by node, `by_node` where by command (document 02, W-209)
pub data Loads (turn : List ℕ → List ℕ) : List ℕ → List ℕ → List (List ℕ) → List ℕ → List ℕ → Type 0 where
  done : {book sheet : List ℕ} → Loads turn book sheet [] book sheet
  then : {book sheet stream mid mid_sheet book' sheet' : List ℕ} {streams : List (List ℕ)} {answer : LoadAnswer}
      → LoadSays (turn book) sheet stream answer (turn mid) mid_sheet → Loads turn mid mid_sheet streams book' sheet'
      → Loads turn book sheet (stream ∷ streams) book' sheet'

-- the stream that is a refresh alone
abbrev pub refresh_alone : List ℕ
refresh_alone = 0x18 ∷ []

-- a plan from a to b of this tree, read off the front of the buffer: it moves the station from a to b, passes no state twice, its
-- cost is the stated one, and every list that moves the station from a to b costs at least as much
pub record GoodPlan (t : Tree) (a b : ℕ) (answer : Answer) (buffer : List ℕ) : Type 0 where
  pub cost : ℕ
  pub count : ℕ
  pub stated : answer ≡ gives (cost ∷ count ∷ [])
  pub fits : length (take count buffer) ≡ count
  pub moves : Moves t a b (take count buffer) cost
  pub simple : Distinct (passes t a (take count buffer))
  pub least : (xs : List ℕ) (c : ℕ) → Moves t a b xs c → cost ≤ c

-- "no way": the refusal 16, and no list of commands moves the station from a to b
pub record NoWay (t : Tree) (a b : ℕ) (answer : Answer) : Type 0 where
  pub stated : answer ≡ refuses 16
  pub stuck : (xs : List ℕ) (c : ℕ) → Moves t a b xs c → ⊥

-- the streams of a list of Load calls that ends in a refresh alone
abbrev pub with_refresh : List (List ℕ) → List (List ℕ)
with_refresh streams = streams ++ (refresh_alone ∷ [])

-- Demand 3, one claim on the whole list of calls and the Plan after it, on either layout (document 02, W-209). Of an opening (W-208: also from a
-- table) and its tree, streams of bytes of which the last is a refresh alone, lists as opened, and lists that Load left for each stream in turn; of
-- any two states of the expected station of all these streams and any 255 bytes: Plan's answer is a good plan or "no way" of that station. `turn` is
-- as in Loads.
abbrev pub Demand3 : (List ℕ → List ℕ) → Type 0
Demand3 turn =
    (opening : Opening) (t : Tree) → ComesOf opening t → (streams : List (List ℕ)) → All Bytes streams
    → (lent lent_sheet opened opened_sheet book sheet : List ℕ)
    → OpenSays opening (turn lent) lent_sheet 0 (turn opened) opened_sheet
    → Loads turn opened opened_sheet (with_refresh streams) book sheet
    → let station = expected t (with_refresh streams) in
    (a b : ℕ) → is_state station a ≡ true → is_state station b ≡ true
    → (buffer : List ℕ) → length buffer ≡ plan_buffer → (answer : Answer) (buffer' : List ℕ) → PlanSays (turn book) sheet a b buffer answer buffer'
    → GoodPlan station a b answer buffer' ⊎ NoWay station a b answer

-- Demand 2, its last clause: the stream that Write gives for a book, loaded into any holding whose book is well formed and sheet true,
-- is taken whole and leaves the same book, every machine in use marked and all blank
abbrev pub SameBook : Type 0
SameBook =
    (book out out' other sheet book' sheet' : List ℕ) (size : ℕ) (answer : LoadAnswer) → WriteSays book out (gives (size ∷ [])) out'
    → WellFormed other → TrueSheet (tree_of other) sheet → LoadSays other sheet (take size out') answer book' sheet'
    → (answer.bytes ≡ size) × (answer.number ≡ 0) × (book' ≡ book) × (sheet' ≡ encode_rows (open_rows (tree_of book)))

-- a plan has at most the number of states less 1 commands and costs at most 255 × 8 × 65,535 = 133,691,400 (document 02, W-207)
abbrev pub PlanBounds : Type 0
PlanBounds =
    (t : Tree) → Sound t → (a b cost : ℕ) (list : List ℕ) → is_state t a ≡ true → Plan t a b cost list
    → (length list ≤ states t - 1) × (cost ≤ largest_plan_cost)

-- Write's stream has at most 34,938 bytes (document 02, W-207)
abbrev pub WriteBound : Type 0
WriteBound = (t : Tree) → Sound t → length (written t) ≤ longest_stream
