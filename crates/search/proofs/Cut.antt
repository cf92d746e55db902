-- Distances cut off at a bound. Where every move of a nearer node is accounted for, so is every move by the distances cut off: from a node that is
-- no nearer it leads to one that is no farther than the bound. Assumes nothing.
use mathlib.Core.Path.{◌≡◌, refl, sym, ◌∙◌, ap}
use mathlib.Core.Logic.{⊎_elim}
use mathlib.Core.Bool.{cond}
use mathlib.Core.Option.{Option, none, some}
use Prim.Native.Nat.{ℕ, ◌≤◌, ◌<◌}
use native.Mathlib.Omega.{arith}
use lib.Dec.{ltb}
use borrow.Author.Tests.{lt-ltb, le-ltb}
use Rattle.definitions.specs.Step.{Arrival}
use Rattle.definitions.proofs.Options.{some_same}
use Rattle.definitions.proofs.Runs.{Bounded}
use Rattle.definitions.proofs.Tests.{under_or_past}

-- a distance, and g where it is not there or more
cut_at : ℕ → Option ℕ → ℕ
cut_at g none = g
cut_at g (some d) = cond (ltb d g) d g

-- all distances, cut off at g
pub cut : ℕ → (ℕ → Option ℕ) → ℕ → Option ℕ
cut g distance v = some (cut_at g (distance v))

-- what is nearer stays, and the rest is g
cut_none : (g : ℕ) → cut_at g none ≡ g
unfolding cut_at
cut_none g = refl

cut_near : (g d : ℕ) → d < g → cut_at g (some d) ≡ d
unfolding cut_at
cut_near g d less = rw (lt-ltb d g less)

cut_far : (g d : ℕ) → g ≤ d → cut_at g (some d) ≡ g
unfolding cut_at
cut_far g d more = rw (le-ltb d g more)

-- so nothing is more than g, or more than it was
cut_most : (g : ℕ) (o : Option ℕ) → cut_at g o ≤ g
unfolding cut_at
cut_most g none = omega arith
cut_most g (some d) = ⊎_elim (λ less. omega (arith, cut_near g d less)) (λ more. omega (arith, cut_far g d more)) (under_or_past d g)

cut_less : (g d : ℕ) → cut_at g (some d) ≤ d
cut_less g d = ⊎_elim (λ less. omega (arith, cut_near g d less)) (λ more. omega (arith, cut_far g d more)) (under_or_past d g)

module _ (distance : ℕ → Option ℕ) (g : ℕ) where
  -- a node at the bound
  pub cut_at_lem : {v : ℕ} → distance v ≡ some g → cut g distance v ≡ some g
  unfolding cut
  cut_at_lem e = ap (λ (o : Option ℕ). some (cut_at g o)) e ∙ ap some (cut_far g g (omega arith))

  -- a node at no distance
  pub cut_start : {v : ℕ} → distance v ≡ some 0 → cut g distance v ≡ some 0
  unfolding cut
  cut_start e =
      let none_left : cut_at g (some 0) ≡ 0 = omega (arith, cut_less g 0) in
      ap (λ (o : Option ℕ). some (cut_at g o)) e ∙ ap some none_left

  -- a move that is accounted for where it leaves a nearer node
  pub cut_bounded : {u c : ℕ} (a : Arrival) → ((d : ℕ) → distance u ≡ some d → d < g → Bounded distance d a) → cut g distance u ≡ some c
      → Bounded (cut g distance) c a
  unfolding cut
  cut_bounded {u} {c} a near e = go (distance u) refl
    where
      far : g ≤ c → Bounded (cut g distance) c a
      far more = (cut_at g (distance a.node), refl, omega (arith, cut_most g (distance a.node)))

      go : (o : Option ℕ) → distance u ≡ o → Bounded (cut g distance) c a
      go none at = far (omega (arith, cut_none g, some_same (ap (λ (o : Option ℕ). some (cut_at g o)) (sym at) ∙ e) refl))
      go (some d) at =
          let same : c ≡ cut_at g (some d) = some_same (ap (λ (o : Option ℕ). some (cut_at g o)) (sym at) ∙ e) refl in
          ⊎_elim
          (λ less.
          let (b, there, le) = near d at less in
          (cut_at g (distance a.node), refl, omega (arith, ap (cut_at g) there, cut_less g b, cut_near g d less)))
          (λ more. far (omega (arith, cut_far g d more)))
          (under_or_past d g)
