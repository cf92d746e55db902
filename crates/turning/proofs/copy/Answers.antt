-- `turning::copy` meets its contract. The loop's invariant: so many words more are those of any list that the source agrees with. Assumes nothing.
use mathlib.Core.Path.{refl, ◌∙◌}
use Prim.Native.Nat.{◌+◌}
use native.Mathlib.Omega.{arith}
use lib.ListN.{get_or, length-set}
use Rattle.turning.proofs.Laws.{front_put, front_at}
use Rattle.turning.proofs.copy.Goals as goal

pub loop-i-init : goal.loop-i-init
loop-i-init c = (refl, λ f front same. front_at (omega arith) front)

pub loop-i-preserved : goal.loop-i-preserved
loop-i-preserved c =
    let to = c.args.to + c.loop-i.i in (
      length-set c.loop-i.out to (get_or c.args.from.now (c.args.at + c.loop-i.i) 0) ∙ c.loop-i.invariant.0,
      λ f front same.
          front_put to (c.args.to + (c.loop-i.i + 1)) (get_or c.args.from.now (c.args.at + c.loop-i.i) 0) refl (omega arith) (c.loop-i.invariant.1 f front same)
          (omega (arith, front.length, c.requires.1, c.loop-i-test.true)) (same c.loop-i.i c.loop-i-test.true),
    )

pub returns : goal.returns
returns c = λ f front same. front_at (omega (arith, c.loop-i-test.false)) (c.loop-i.invariant.1 f front same)
