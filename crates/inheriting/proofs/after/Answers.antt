-- `inheriting::after` meets its contract: the sum keeps the node, since a step costs little. Assumes nothing.
use mathlib.Core.Path.{◌∙◌, ap}
use Prim.Native.Nat.{ℕ, ◌+◌}
use native.Mathlib.Omega.{arith}
use Rattle.inheriting.specs.Inheriting.{way_of}
use Rattle.inheriting.proofs.Inheriting.{after_none, after_some}
use Rattle.inheriting.proofs.after.Goals as goal

pub returns-then-w-eq-NOTHING : goal.returns-then-w-eq-NOTHING
returns-then-w-eq-NOTHING c = after_none c.args.w c.args.l c.if-w-eq-NOTHING.true

pub overflow_add-result : goal.overflow_add-result
overflow_add-result c =
    omega (arith, (after_some c.args.w c.args.l c.if-w-eq-NOTHING.false c.requires (omega arith)).0, c.from.ensures)

pub returns : goal.returns
returns c =
    ap (λ (l : ℕ). way_of (c.args.w + l)) c.from.ensures ∙ (after_some c.args.w c.args.l c.if-w-eq-NOTHING.false c.requires (omega arith)).1
