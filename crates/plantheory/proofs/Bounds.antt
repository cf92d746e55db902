-- How much a move of the search costs at most: an exit cost and what is found. Assumes nothing.
use mathlib.Core.Path.{◌≡◌, subst}
use mathlib.Core.Bool.{Bool, false}
use mathlib.Core.Option.{some}
use Prim.Native.Nat.{ℕ, ◌*◌, ◌≤◌}
use native.Mathlib.Omega.{arith}
use Rattle.definitions.specs.Limits.{levels, largest_step_cost}
use Rattle.definitions.specs.Tree.{Tree, Sound}
use Rattle.definitions.specs.Step.{Arrival}
use Rattle.definitions.specs.Sheet.{Rows}
use Rattle.definitions.specs.Truth.{TrueRows}
use Rattle.definitions.proofs.Simple.{Cheap, climb_cheap}
use Rattle.definitions.proofs.Reached.{own_exit_bound}
use Rattle.plantheory.specs.Search.{plan_move}
use Rattle.plantheory.proofs.Landing.{plan_parts, plan_range}

module _ {t : Tree} (s : Sound t) (r : Rows) (rows : TrueRows t r) (fresh : (m : ℕ) → r.stale m ≡ false) where
  -- a move of the search costs at most 135,264,240
  pub plan_move_cost : (opened : ℕ → Bool) (q x : ℕ) {b : Arrival} → plan_move t r opened q x ≡ some b → b.cost ≤ 258 * largest_step_cost
  plan_move_cost opened q x {b} e =
      let parts = plan_parts t r opened q x e in
      let small : parts.cost ≤ largest_step_cost = subst (Cheap levels) parts.finds (climb_cheap s t.root q x) in
      omega (arith, own_exit_bound s r rows q (λ b bel. fresh b) x parts.exit_cost (plan_range s r opened q x e) parts.exit, parts.exact)
