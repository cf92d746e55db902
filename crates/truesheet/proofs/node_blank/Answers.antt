-- `truesheet::node_blank` meets its contract: all three words say nothing. Assumes nothing.
use Rattle.sheet.proofs.Reading.{rows_of_read}
use Rattle.truesheet.proofs.Nodes.{blank_reached, blank_before, blank_decides}
use Rattle.truesheet.proofs.node_blank.Goals as goal

pub returns-then-cost : goal.returns-then-cost
returns-then-cost c =
    let a = c.args in
    blank_reached (rows_of_read a.sheet.now) a.n c.cost.ensures c.if-cost.true

pub returns-then-before-ne-ABSENT : goal.returns-then-before-ne-ABSENT
returns-then-before-ne-ABSENT c =
    let a = c.args in
    blank_before (rows_of_read a.sheet.now) a.n c.cost.ensures c.before-2.ensures c.if-before-ne-ABSENT.true

pub returns : goal.returns
returns c =
    let a = c.args in
    blank_decides (rows_of_read a.sheet.now) a.n c.cost.ensures c.before-2.ensures c.by.ensures c.if-before-ne-ABSENT.false
    c.if-cost.false
