-- Document 01: what a call answers, and refusals in their order.
use Rattle.std.specs.Prelude.{◌≡◌, ◌⊎◌, List, [], ◌∷◌, ℕ, ◌≤◌, ◌<◌}
use Rattle.std.proofs.Math.Option.{Option, none, some}

-- an answer by document 01's number and values: 0 and what is given, or a refusal's number and nothing
pub record Answer : Type 0 where
  pub number : ℕ
  pub values : List ℕ

abbrev pub gives : List ℕ → Answer
gives vs = record { number = 0; values = vs }

abbrev pub refuses : ℕ → Answer
refuses k = record { number = k; values = [] }

-- one refusal of a call: its number, when it is met, and what holds where it is not
pub data Refusal : Type 1 where
  refuse : ℕ → (met passed : Type 0) → Refusal

-- the call asks for P, and is refused where P does not hold
abbrev pub asks : ℕ → Type 0 → Refusal
asks k P = refuse k (P → ⊥) P

-- the call asks for a value, and is refused where there is none
abbrev pub wants : {A : Type 0} → ℕ → Option A → Refusal
wants {A} k o = refuse k (o ≡ none) ((a : A) × (o ≡ some a))

-- the call asks for a least cost, and is refused where it is that there is none
abbrev pub wants_least : ℕ → (Option ℕ → Type 0) → Refusal
wants_least k Cost = refuse k (Cost none) ((c : ℕ) × Cost (some c))

-- the call asks for room for so many, and is refused where there is less
abbrev pub asks_room : ℕ → (needed room : ℕ) → Refusal
asks_room k needed room = refuse k (room < needed) (needed ≤ room)

-- refusals in their order: the first that is met is answered, and where each is passed the call is done
abbrev pub InOrder : List Refusal → (ℕ → Type 0) → Type 0 → Type 0
InOrder [] Refused Done = Done
InOrder (refuse k met passed ∷ rest) Refused Done = (met × Refused k) ⊎ (passed × InOrder rest Refused Done)
