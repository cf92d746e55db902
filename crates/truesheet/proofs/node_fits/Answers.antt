-- `truesheet::node_fits` meets its contract: not in use, of a stale machine, or of another. Assumes nothing.
use Rattle.definitions.specs.Sheet.{rows_of}
use Rattle.truesheet.proofs.Nodes.{node_unused, owner_machine, node_stale, node_filled}
use Rattle.truesheet.proofs.node_fits.Goals as goal

pub returns-then-m-eq-ABSENT : goal.returns-then-m-eq-ABSENT
returns-then-m-eq-ABSENT c =
    node_unused c.requires.0.well_formed.sound c.args.n c.owner-m.ensures (rows_of c.args.sheet.now) c.node_blank.result
    c.if-m-eq-ABSENT.true c.node_blank.ensures

pub stale-requires : goal.stale-requires
stale-requires c =
    let p = c.requires.0 in
    (p.long, owner_machine p.well_formed.sound c.args.n c.owner-m.ensures c.if-m-eq-ABSENT.false)

pub returns-then-stale-eq1 : goal.returns-then-stale-eq1
returns-then-stale-eq1 c =
    node_stale c.requires.0.well_formed.sound c.args.n c.owner-m.ensures c.if-m-eq-ABSENT.false c.node_blank-then-stale-eq1.result
    c.stale.ensures c.if-stale-eq1.true c.node_blank-then-stale-eq1.ensures

pub filled_fits-requires : goal.filled_fits-requires
filled_fits-requires c =
    let p = c.requires.0 in
    (p, owner_machine p.well_formed.sound c.args.n c.owner-m.ensures c.if-m-eq-ABSENT.false, c.requires.1)

pub returns : goal.returns
returns c =
    node_filled c.requires.0.well_formed.sound c.args.n c.owner-m.ensures c.if-m-eq-ABSENT.false c.filled_fits.result
    c.stale.ensures c.if-stale-eq1.false c.filled_fits.ensures
