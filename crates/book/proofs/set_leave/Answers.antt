-- `book::set_leave` meets its contract: a store among the leaving costs. Assumes nothing.
use Rattle.book.proofs.Stores.{leave_holds}
use Rattle.book.proofs.set_leave.Goals as goal

pub returns : goal.returns
returns c =
    let a = c.args in
    leave_holds a.book.now a.m a.v c.requires.0 c.requires.1
