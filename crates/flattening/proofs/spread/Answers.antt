-- `flattening::spread` meets its contract: the tables take the steps, and the rest is the search's. Assumes nothing.
use mathlib.Core.Path.{refl}
use native.Mathlib.Omega.{arith}
use Rattle.definitions.specs.Book.{tree_of}
use Rattle.definitions.proofs.Simple.{state_test}
use Rattle.search.proofs.Tables.{blank_tables}
use Rattle.flattening.proofs.Spreading.{spread_ready, spread_least}
use Rattle.flattening.proofs.spread.Goals as goal

pub flatten-requires : goal.flatten-requires
flatten-requires c =
    let able = c.requires.0 in
    (able.well_formed, record { target_room = refl; price_room = refl }, blank_tables 4096 _ (omega arith))

pub search-requires : goal.search-requires
search-requires c =
    let s = c.requires.0.well_formed.sound in
    let (m, own) = c.requires.0.from_used in (
      spread_ready s c.flatten.ensures (record { target_room = c.flatten.auto.target; price_room = c.flatten.auto.price }) (s.node_range c.args.a m own),
      record { dist_room = omega (arith, c.requires.1); before_room = omega arith; by_room = omega arith },
    )

pub returns : goal.returns
returns c =
    let t = tree_of c.args.book.now in
    let s = c.requires.0.well_formed.sound in
    let (m, own) = c.requires.0.from_used in
    record { least = spread_least s c.flatten.ensures (s.node_range c.args.a m own) (state_test t own c.requires.0.from_plain) c.search.ensures.certificate }
