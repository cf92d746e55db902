-- `truesheet::exit_blank` meets its contract: both words say nothing. Assumes nothing.
use Rattle.sheet.proofs.Reading.{rows_of_read}
use Rattle.truesheet.proofs.Machines.{exit_there, exit_blank}
use Rattle.truesheet.proofs.exit_blank.Goals as goal

pub returns-then-exit : goal.returns-then-exit
returns-then-exit c =
    let a = c.args in
    exit_there (rows_of_read a.sheet.now) a.m a.x c.exit.ensures c.if-exit.true

pub returns : goal.returns
returns c =
    let a = c.args in
    exit_blank (rows_of_read a.sheet.now) a.m a.x c.exit.ensures c.if-exit.false c.last.ensures
