-- `crossing::row` meets its contract: the entries passed have their moves, and the other rows are as they were. Assumes nothing.
use native.Mathlib.Omega.{arith}
use Rattle.stepping.proofs.Laws.{owner_told}
use Rattle.crossing.proofs.row.Goals as goal

pub entry-requires : goal.entry-requires
entry-requires c =
    let own = (owner_told c.args.book.now c.requires.0.well_formed c.args.n c.requires.3 c.owner-m.ensures).0 in
    (c.requires.0, c.requires.1, c.requires.2, own, omega arith, c.requires.4 c.owner-m.result own, c.loop-x.invariant.room)
