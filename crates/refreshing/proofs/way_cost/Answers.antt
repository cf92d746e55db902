-- `refreshing::way_cost` meets its contract: a node that is reached, has no transition and is left. Assumes nothing.
use Rattle.definitions.specs.Sheet.{rows_of}
use Rattle.refreshing.proofs.Exits.{near_there, way_unreached, way_taken, way_left}
use Rattle.refreshing.proofs.way_cost.Goals as goal

pub returns-then-d-eq-UNREACHED : goal.returns-then-d-eq-UNREACHED
returns-then-d-eq-UNREACHED c =
    let a = c.args in
    way_unreached (rows_of a.sheet.now) a.n a.x a.d c.if-d-eq-UNREACHED.true

pub leave-way-requires : goal.leave-way-requires
leave-way-requires c =
    let p = c.requires in
    (p.0, p.1, p.3, near_there p.2 c.if-d-eq-UNREACHED.false)

pub returns-then-counting : goal.returns-then-counting
returns-then-counting c =
    let a = c.args in
    way_taken (rows_of a.sheet.now) a.n a.x a.d c.requires.0.well_formed.sound c.counting.ensures c.if-counting.true

pub returns : goal.returns
returns c =
    let a = c.args in
    way_left (rows_of a.sheet.now) a.n a.x a.d c.requires.0.well_formed.sound c.requires.2 c.if-d-eq-UNREACHED.false
    c.counting.ensures c.if-counting.false c.leave-way.ensures
