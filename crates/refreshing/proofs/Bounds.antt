-- How much a move costs at most, in a machine below which nothing is stale. Assumes nothing.
use mathlib.Core.Path.{◌≡◌, subst}
use mathlib.Core.Bool.{false}
use mathlib.Core.Option.{some}
use Prim.Native.Nat.{ℕ, suc, ◌≤◌}
use native.Mathlib.Omega.{arith}
use Rattle.definitions.specs.Tree.{Tree, Sound}
use Rattle.definitions.specs.Step.{Arrival}
use Rattle.definitions.specs.Sheet.{Rows}
use Rattle.definitions.specs.Truth.{move, TrueRows}
use Rattle.definitions.proofs.Path.{counting_range, Deep, deep, deep_below, deep_unique}
use Rattle.definitions.proofs.Local.{move_parts}
use Rattle.definitions.proofs.Simple.{counting_cost}
use Rattle.definitions.proofs.Reached.{own_exit_bound}
use Rattle.search.specs.Search.{largest_move}

-- a machine is not below itself
pub below_other : {t : Tree} → Sound t → {n m b : ℕ} → t.owner n ≡ some m → t.below n ≡ some b → b ≡ m → ⊥
below_other {t} s {n} {m} {b} own bel same =
    let (f, used) = s.owner_used n m own in
    let (k, small, way) = deep s used in
    omega (arith, deep_unique s way (subst (λ (p : ℕ). Deep t p (suc k)) same (deep_below s own bel way)))

module _ {t : Tree} (s : Sound t) (r : Rows) (rows : TrueRows t r) (n : ℕ) (fresh : (b : ℕ) → t.below n ≡ some b → r.stale b ≡ false) where
  -- a move costs at most 135,264,240
  pub move_bound : (x : ℕ) {b : Arrival} → move t r n x ≡ some b → b.cost ≤ largest_move
  move_bound x {b} e =
      let parts = move_parts t r n x e in
      let range = counting_range s n x parts.transition parts.has in
      omega (
        arith,
        own_exit_bound s r rows n fresh x parts.exit_cost range parts.exit,
        counting_cost s n x parts.transition parts.has,
        parts.exact,
      )
