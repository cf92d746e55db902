-- `wellformed::below_of` meets its contract: a book says nothing of a number past the limit. Assumes nothing.
use Rattle.definitions.specs.Book.{tree_of}
use Rattle.book.proofs.Said.{outside}
use Rattle.wellformed.proofs.Reading.{tree_of_read}
use Rattle.wellformed.proofs.below_of.Goals as goal

pub returns-else-n-lt-NODES : goal.returns-else-n-lt-NODES
returns-else-n-lt-NODES c =
    let a = c.args in
    outside ((tree_of a.book.now).below a.n) ((tree_of_read a.book.now).below a.n) c.if-n-lt-NODES.false
