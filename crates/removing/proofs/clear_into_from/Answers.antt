-- `removing::clear_into_from` meets its contract: after each turn the transitions into n are gone below x. Assumes nothing.
use native.Mathlib.Omega.{arith}
use Rattle.removing.proofs.Into.{from_more, from_all}
use Rattle.removing.proofs.clear_into_from.Goals as goal

pub loop-x-preserved : goal.loop-x-preserved
loop-x-preserved c =
    from_more c.args.book.now c.args.n c.args.k c.loop-x.x c.loop-x.invariant c.clear_into_at.ensures

pub returns : goal.returns
returns c = from_all c.args.book.now c.args.n c.args.k c.loop-x.x (omega arith) c.loop-x.invariant
