-- `book::set_hold` meets its contract: a store among the holds. Assumes nothing.
use Rattle.book.proofs.Stores.{hold_holds}
use Rattle.book.proofs.set_hold.Goals as goal

pub returns : goal.returns
returns c =
    let a = c.args in
    hold_holds a.book.now a.n a.v c.requires.0 c.requires.1
