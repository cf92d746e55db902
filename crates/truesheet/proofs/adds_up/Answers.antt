-- `truesheet::adds_up` meets its contract: a cost and an own exit cost that are there, in 64 bits. Assumes nothing.
use Rattle.definitions.specs.Book.{tree_of}
use Rattle.sheet.proofs.Reading.{rows_of_read}
use Rattle.truesheet.proofs.Exits.{adds_blank, adds_decides}
use Rattle.truesheet.proofs.adds_up.Goals as goal

pub returns-then-d : goal.returns-then-d
returns-then-d c =
    let a = c.args in
    adds_blank (tree_of a.book.now) (rows_of_read a.sheet.now) a.u a.x a.w a.c c.cost-d.ensures
    c.if-d.true

pub returns : goal.returns
returns c =
    let a = c.args in
    adds_decides (tree_of a.book.now) (rows_of_read a.sheet.now) a.u a.x a.w a.c c.cost-d.ensures
    c.if-d.false c.own_exit.ensures c.in-Some.is c.from.ensures c.from-2.ensures
    c.from-3.ensures
