-- `refreshing::refresh` meets its contract: below level l nothing is stale. Assumes nothing.
use native.Mathlib.Omega.{arith}
use Rattle.refreshing.proofs.Order.{below_none, below_all}
use Rattle.refreshing.proofs.refresh.Goals as goal

pub loop-l-init : goal.loop-l-init
loop-l-init c =
    let p = c.requires in
    below_none p.0.sound p.1

pub returns : goal.returns
returns c =
    below_all c.requires.0.sound c.loop-l.invariant (omega arith)
