-- `refreshing::write_exits` meets its contract: the exits for the commands passed are written. Assumes nothing.
use native.Mathlib.Omega.{arith}
use Rattle.refreshing.proofs.Exits.{near_kept, exits_more}
use Rattle.refreshing.proofs.write_exits.Goals as goal

pub write_exit-requires : goal.write_exit-requires
write_exit-requires c =
    let p = c.requires in
    let done = c.loop-x.invariant in (
      record { well_formed = p.0.well_formed; long = done.leaves.length },
      p.1,
      near_kept p.0.well_formed.sound done.exit p.2,
      omega arith,
    )

pub loop-x-preserved : goal.loop-x-preserved
loop-x-preserved c =
    let p = c.requires in
    exits_more p.0.well_formed.sound (omega arith) p.2 c.loop-x.invariant c.write_exit.ensures
