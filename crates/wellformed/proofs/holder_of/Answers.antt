-- `wellformed::holder_of` meets its contract: a book says nothing of a number past the limit. Assumes nothing.
use Rattle.definitions.specs.Book.{tree_of}
use Rattle.book.proofs.Said.{outside}
use Rattle.wellformed.proofs.Reading.{tree_of_read}
use Rattle.wellformed.proofs.holder_of.Goals as goal

pub returns-else-m-lt-MACHINES : goal.returns-else-m-lt-MACHINES
returns-else-m-lt-MACHINES c =
    let a = c.args in
    outside ((tree_of a.book.now).holder a.m) ((tree_of_read a.book.now).holder a.m) c.if-m-lt-MACHINES.false
