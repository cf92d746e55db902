-- `truesheet::exit_fits` meets its contract: no exit and no last node, or an exit that has one. Assumes nothing.
use Rattle.definitions.specs.Book.{tree_of}
use Rattle.sheet.proofs.Reading.{rows_of_read}
use Rattle.truesheet.proofs.Machines.{exit_none, exit_some}
use Rattle.truesheet.proofs.exit_fits.Goals as goal

pub returns-then-c : goal.returns-then-c
returns-then-c c =
    let a = c.args in
    exit_none (tree_of a.book.now) (rows_of_read a.sheet.now) a.m a.x c.exit-c.ensures c.if-c.true
    c.last.ensures

pub returns : goal.returns
returns c =
    let a = c.args in
    exit_some (tree_of a.book.now) (rows_of_read a.sheet.now) a.m a.x c.exit-c.ensures c.ended.result
    c.if-c.false c.ended.ensures
