-- `book::set_node_word` meets its contract: a store into a node's record. Assumes nothing.
use Rattle.book.proofs.Stores.{node_holds}
use Rattle.book.proofs.set_node_word.Goals as goal

pub returns : goal.returns
returns c =
    let a = c.args in
    node_holds a.book.now a.n a.k a.v c.requires.0 c.requires.1 c.requires.2
