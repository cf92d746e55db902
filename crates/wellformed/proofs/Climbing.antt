-- The climb of a machine to the root, one step at a time. Assumes nothing.
use mathlib.Core.Path.{◌≡◌, refl, ap}
use mathlib.Core.Logic.{◌↔◌}
use mathlib.Core.Option.{none, some}
use Prim.Native.Nat.{ℕ, zero, suc, ◌-◌, ◌≤◌}
use native.Mathlib.Omega.{arith}
use Rattle.definitions.specs.Basics.{iterate}
use Rattle.definitions.specs.Tree.{Tree, parent}
use Rattle.definitions.proofs.Options.{some_same, none_some}
use Rattle.wellformed.specs.Fits.{Climbs}

-- the root is there
pub climbs_here : (t : Tree) (k m : ℕ) → m ≡ t.root → Climbs t (suc k) m
unfolding iterate
climbs_here t k m e = (0, omega arith, ap some e)

-- any other machine has a step to take
pub climbs_last : (t : Tree) (k m : ℕ) → k ≡ 0 → (m ≡ t.root → ⊥) → Climbs t (suc k) m → ⊥
unfolding iterate
climbs_last t k m z other (zero, l, e) = other (some_same refl e)
climbs_last t k m z other (suc j, l, e) = absurd (omega arith)

-- and a machine above it
pub climbs_stuck : (t : Tree) (k m : ℕ) → (m ≡ t.root → ⊥) → parent t m ≡ none → Climbs t k m → ⊥
unfolding iterate
climbs_stuck t k m other top (zero, l, e) = other (some_same refl e)
climbs_stuck t k m other top (suc j, l, e) = none_some refl (rw top at e)

-- which climbs in one step less exactly where this one does
pub climbs_up : (t : Tree) (k m : ℕ) {p : ℕ} → 1 ≤ k → (m ≡ t.root → ⊥) → parent t m ≡ some p
    → Climbs t (suc (k - 1)) p ↔ Climbs t (suc k) m
unfolding iterate
climbs_up t k m {p} some_left other up = (from, to)
  where
    from : Climbs t (suc (k - 1)) p → Climbs t (suc k) m
    from (j, l, e) = (suc j, omega arith, rw up e)

    to : Climbs t (suc k) m → Climbs t (suc (k - 1)) p
    to (zero, l, e) = absurd (other (some_same refl e))
    to (suc j, l, e) = (j, omega arith, rw up at e)
