-- `truesheet::settle` meets its contract. The loop's invariant: `v` is `left` steps from its start, and what is counted is counted right.
-- The measure is the steps that are left. Assumes nothing.
use native.Mathlib.Omega.{arith}
use Rattle.truesheet.proofs.Chains.{steps_down, counted_more}
use Rattle.truesheet.proofs.settle.Goals as goal

pub loop-counts-preserved : goal.loop-counts-preserved
loop-counts-preserved c =
    let l = c.loop-counts in
    let next = steps_down (omega arith) l.invariant.3 c.before-v.ensures in (
      c.requires.0.names l.v c.before-v.result next.0,
      omega arith,
      counted_more l.invariant.2 l.v l.left l.invariant.0 l.invariant.1 l.invariant.3,
      next.1,
    )
