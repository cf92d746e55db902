-- `truesheet::start_fits` meets its contract: cost 0, and both names say nothing. Assumes nothing.
use Rattle.sheet.proofs.Reading.{rows_of_read}
use Rattle.truesheet.proofs.Nodes.{start_reached, start_before, start_decides}
use Rattle.truesheet.proofs.start_fits.Goals as goal

pub returns-then-cost-ne0 : goal.returns-then-cost-ne0
returns-then-cost-ne0 c =
    let a = c.args in
    start_reached (rows_of_read a.sheet.now) a.n c.cost.ensures c.if-cost-ne0.true

pub returns-then-before-ne-ABSENT : goal.returns-then-before-ne-ABSENT
returns-then-before-ne-ABSENT c =
    let a = c.args in
    start_before (rows_of_read a.sheet.now) a.n c.cost.ensures c.before-2.ensures c.if-before-ne-ABSENT.true

pub returns : goal.returns
returns c =
    let a = c.args in
    start_decides (rows_of_read a.sheet.now) a.n c.cost.ensures c.before-2.ensures c.by.ensures c.if-before-ne-ABSENT.false
    c.if-cost-ne0.false
