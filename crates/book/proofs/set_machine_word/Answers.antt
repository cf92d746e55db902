-- `book::set_machine_word` meets its contract: a store into a machine's record. Assumes nothing.
use Rattle.book.proofs.Stores.{machine_holds}
use Rattle.book.proofs.set_machine_word.Goals as goal

pub returns : goal.returns
returns c =
    let a = c.args in
    machine_holds a.book.now a.m a.k a.v c.requires.0 c.requires.1 c.requires.2
