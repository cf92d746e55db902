-- The node that acts: what Step gives names the one whose transition was used. Where leaving costs nothing a step costs what this transition does.
-- Assumes nothing.
use mathlib.Core.Path.{◌≡◌, refl, ap, subst, ◌∙◌}
use mathlib.Core.Option.{Option, none, some}
use mathlib.Core.List.{[], List, ◌∷◌}
use Prim.Native.Nat.{ℕ}
use native.Mathlib.Omega.{arith}
use Rattle.definitions.specs.Basics.{option}
use Rattle.definitions.specs.Tree.{Tree, Transition}
use Rattle.definitions.specs.Step.{enter, counting, leaving_all, Arrival, found_at, step, acting}
use Rattle.definitions.specs.Book.{tree_of}
use Rattle.definitions.specs.Calls.{Acts, StepActs}
use Rattle.definitions.proofs.Options.{some_same}
use Rattle.definitions.proofs.Path.{climb_on_path}
use Rattle.definitions.proofs.Simple.{step_stepped}
use Rattle.definitions.proofs.Answers.{given_step, step_given}

-- the node where the climb of a step ends acts
pub acting_acts : (t : Tree) (s x : ℕ) {a : Arrival} {n : ℕ} → step t s x ≡ some a → acting t s x ≡ some n → Acts t s x n a
unfolding acting
acting_acts t s x {a} {n} moved acts =
    let up = step_stepped t t.root s x moved in
    let f = climb_on_path t t.root s x up.finds in
    let same : up.node ≡ n = some_same (ap found_at up.finds) acts in
    subst (λ (u : ℕ). Acts t s x u a) same
    (record {
      lowest = f.lowest;
      enters = ap (enter t) f.leads ∙ up.enters;
      costs = f.costs;
    })

-- the claim of W-202
pub step_acts : StepActs
step_acts book s x a n says =
    let (moved, acts) = given_step (tree_of book) s x (step_given book s x says) in
    acting_acts (tree_of book) s x moved acts

-- ---- where leaving costs nothing (document 02, W-207)

module _ (t : Tree) (free : (m : ℕ) → t.leave m ≡ 0) where
  free_of : (o : Option ℕ) → option 0 t.leave o ≡ 0
  free_of none = refl
  free_of (some m) = free m

  free_all : (ns : List ℕ) → leaving_all t ns ≡ 0
  free_all [] = refl
  free_all (n ∷ ns) = omega (arith, free_of (t.owner n), free_all ns)

  -- a step's cost is that of its transition alone
  pub free_step : (s x n : ℕ) (a : Arrival) → step t s x ≡ some a → acting t s x ≡ some n
      → (b : Transition) × (counting t n x ≡ some b) × (b.cost ≡ a.cost)
  free_step s x n a moved acts =
      let up = acting_acts t s x moved acts in
      (up.lowest.transition, up.lowest.counts, omega (arith, up.costs, free_all up.lowest.lower))
