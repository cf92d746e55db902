-- `sheet::set_node_row_word` meets its contract: a store into a node's row. Assumes nothing.
use Rattle.sheet.proofs.Stores.{node_store}
use Rattle.sheet.proofs.set_node_row_word.Goals as goal

pub returns : goal.returns
returns c =
    let a = c.args in
    node_store a.sheet.now a.n a.k a.v c.requires.0 c.requires.1 c.requires.2
