-- `refreshing::find` meets its contract: the machine's nodes get their places, the tables their moves, and the rest is the search's.
-- Assumes nothing.
use native.Mathlib.Omega.{arith}
use Rattle.refreshing.proofs.Machine.{start_told, search_ready, searched_found}
use Rattle.refreshing.proofs.find.Goals as goal

pub word-source-requires : goal.word-source-requires
word-source-requires c =
    let p = c.requires in
    omega (arith, (start_told p.0.sound p.3 c.start.ensures).1, c.gather-k.ensures.places_room)

pub search-requires : goal.search-requires
search-requires c =
    let p = c.requires in
    let tabled = c.tables in
    let g = c.gather-k.ensures in
    let room = p.7 in (
      rw c.word-source.ensures
          (search_ready p.0.sound p.1.rows (start_told p.0.sound p.3 c.start.ensures).0 p.3 g
          (record { target_room = omega (arith, tabled.auto.target, p.6); price_room = omega (arith, tabled.auto.price, p.6) })
          tabled.ensures),
      record { dist_room = omega (arith, g.many, room); before_room = omega (arith, g.many, room); by_room = omega (arith, g.many, room) },
    )

pub returns : goal.returns
returns c =
    let room = c.requires.7 in
    searched_found c.gather-k.ensures c.tables.ensures c.start.ensures c.word-source.ensures
    (record {
      dist_room = omega (arith, c.search.auto.dist, room);
      before_room = omega (arith, c.search.auto.before, room);
      by_room = omega (arith, c.search.auto.by, room);
    })
    c.search.ensures
