-- `wholerun::load_all` meets its contract: what the streams that are left leave of what stands is what all of them leave. Assumes nothing.
use native.Mathlib.Omega.{arith}
use borrow.Author.Rules.{rules}
use Rattle.wholerun.proofs.Streams.{left_range, left_on, left_none}
use Rattle.wholerun.proofs.load_all.Goals as goal

pub slice_bounds-load-end : goal.slice_bounds-load-end
slice_bounds-load-end c = omega (arith, left_range c.loop-to.invariant c.loop-to-test.true)

pub loop-to-preserved : goal.loop-to-preserved
loop-to-preserved c = left_on c.loop-to.invariant c.loop-to-test.true c.load.ensures (search rules) (search rules)

pub returns : goal.returns
returns c = left_none c.loop-to.invariant c.loop-to-test.false
