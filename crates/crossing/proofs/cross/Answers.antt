-- `crossing::cross` meets its contract: the tables take the moves, and the rest is the search's. Assumes nothing.
use mathlib.Core.Path.{refl}
use native.Mathlib.Omega.{arith}
use Rattle.search.proofs.Tables.{blank_tables}
use Rattle.crossing.proofs.Searched.{cross_ready, cross_done}
use Rattle.crossing.proofs.cross.Goals as goal

pub tables-requires : goal.tables-requires
tables-requires c =
    let able = c.requires.0 in (
      record { well_formed = able.well_formed; long = able.true_sheet.length },
      able.from_used,
      able.to_used,
      record { target_room = refl; price_room = refl },
      blank_tables 4096 _ (omega arith),
    )

pub search-requires : goal.search-requires
search-requires c =
    let room = c.requires.1 in (
      cross_ready c.requires.0 c.tables.ensures (record { target_room = c.tables.auto.target; price_room = c.tables.auto.price }),
      record { dist_room = omega (arith, room.dist_room); before_room = omega (arith, room.before_room); by_room = omega (arith, room.by_room) },
    )

pub returns : goal.returns
returns c =
    let room = c.requires.1 in
    cross_done c.requires.0 c.tables.ensures
    (record {
      dist_room = omega (arith, c.search.auto.dist, room.dist_room);
      before_room = omega (arith, c.search.auto.before, room.before_room);
      by_room = omega (arith, c.search.auto.by, room.by_room);
    })
    c.search.ensures
