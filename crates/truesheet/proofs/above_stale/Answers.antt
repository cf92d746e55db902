-- `truesheet::above_stale` meets its contract: the machine above is the one that the holding node belongs to. Assumes nothing.
use Rattle.definitions.specs.Sheet.{rows_of}
use Rattle.truesheet.proofs.Machines.{above_none, above_node, above_machine, above_decides}
use Rattle.truesheet.proofs.above_stale.Goals as goal

pub returns-then-h-eq-ABSENT : goal.returns-then-h-eq-ABSENT
returns-then-h-eq-ABSENT c =
    above_none c.requires.0.well_formed.sound c.args.m c.holder-h.ensures (rows_of c.args.sheet.now) c.if-h-eq-ABSENT.true

pub owner-requires : goal.owner-requires
owner-requires c =
    let w = c.requires.0.well_formed in
    (w.length, above_node w.sound c.args.m c.holder-h.ensures c.if-h-eq-ABSENT.false)

pub stale-requires : goal.stale-requires
stale-requires c =
    let p = c.requires.0 in
    (p.long, above_machine p.well_formed.sound c.args.m c.holder-h.ensures c.if-h-eq-ABSENT.false c.owner.ensures)

pub returns : goal.returns
returns c =
    above_decides c.requires.0.well_formed.sound c.args.m c.holder-h.ensures c.if-h-eq-ABSENT.false
    c.owner.ensures c.stale.ensures
