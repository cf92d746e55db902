-- Document 02, W-211: where the road ends. After "no way", the list of all states that are reached.
use Rattle.std.specs.Prelude.{◌≡◌, Bool, true, false, List, [], ◌∷◌, ◌++◌, ℕ, ◌<◌, eqb, length, drop}
use Rattle.std.proofs.Math.Option.{none}
use Rattle.definitions.specs.Basics.{option, any_of, All, Rising}
use Rattle.definitions.specs.Limits.{commands}
use Rattle.definitions.specs.Tree.{Tree, Sound, states}
use Rattle.definitions.specs.Step.{step, Moves}
use Rattle.definitions.specs.Costs.{LeastCost}
use Rattle.definitions.specs.Book.{tree_of}
use Rattle.definitions.specs.Sheet.{Rows, rows_of}
use Rattle.definitions.specs.Answer.{Answer, gives, refuses, Refusal, refuse, asks_room, InOrder}
use Rattle.definitions.specs.Calls.{sheet_refusals, none_stale, state_refusals}

-- some list of commands reaches state s from a
abbrev pub Reached : Tree → ℕ → ℕ → Type 0
Reached t a s = (c : ℕ) × (xs : List ℕ) × Moves t a s xs c

-- whether a state is listed
abbrev pub lists : List ℕ → ℕ → Bool
lists list s = any_of (eqb s) list

-- the list is true: by rising node, each once; it holds a and lacks b; every command at a listed state stops or lands on a listed state; every
-- listed state is reached
pub record TrueReach (t : Tree) (a b : ℕ) (list : List ℕ) : Type 0 where
  pub rising : Rising list
  pub holds : lists list a ≡ true
  pub lacks : lists list b ≡ false
  pub closed : (s x : ℕ) → lists list s ≡ true → x < commands → option true (λ r. lists list r.node) (step t s x) ≡ true
  pub reached : All (Reached t a) list

-- what Reach refuses on a tree and its rows, with room for so many numbers: what Plan refuses before 16, but 15 where there is less room than
-- there are states; then 25 (there is a way)
abbrev pub reach_refusals : Tree → Rows → ℕ → ℕ → ℕ → List Refusal
reach_refusals t r a b room = none_stale r ∷ state_refusals t a b (asks_room 15 (states t) room ∷ refuse 25 (Reached t a b) (LeastCost t a b none) ∷ [])

-- Reach: the count, and the list at the front of the output, later numbers untouched; or a refusal and the output untouched
abbrev pub ReachSays : List ℕ → List ℕ → ℕ → ℕ → List ℕ → Answer → List ℕ → Type 0
ReachSays book sheet a b out answer out' =
    InOrder (sheet_refusals book sheet (reach_refusals (tree_of book) (rows_of sheet) a b (length out)))
    (λ k. (answer ≡ refuses k) × (out' ≡ out))
    ((list : List ℕ) × TrueReach (tree_of book) a b list × (answer ≡ gives (length list ∷ [])) × (out' ≡ list ++ drop (length list) out))

-- W-211's claim: of a true list, every state that is reached is listed; there is no way from a to b; and no other list is true
abbrev pub ReachShows : Type 0
ReachShows =
    (t : Tree) → Sound t → (a b : ℕ) (list : List ℕ) → TrueReach t a b list
    → ((s : ℕ) → Reached t a s → lists list s ≡ true) × LeastCost t a b none × ((other : List ℕ) → TrueReach t a b other → other ≡ list)
