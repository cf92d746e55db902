-- `writing::node_hold` meets its contract: the node's word is 1, or nothing is stored. Assumes nothing.
use Rattle.definitions.specs.Book.{tree_of}
use Rattle.storing.proofs.Laws.{stored_none, stored_is}
use Rattle.writing.proofs.Laws.{hold_none, hold_node}
use Rattle.writing.proofs.node_hold.Goals as goal

pub returns-then-hold-ne1 : goal.returns-then-hold-ne1
returns-then-hold-ne1 c =
    let t = tree_of c.args.book.now in
    stored_none c.args.out.now c.args.at (hold_none t c.args.n c.hold.ensures c.if-hold-ne1.true)

pub returns : goal.returns
returns c =
    let t = tree_of c.args.book.now in
    stored_is c.put_node_byte.ensures (hold_node t c.args.n c.hold.ensures c.if-hold-ne1.false)
