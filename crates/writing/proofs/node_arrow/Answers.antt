-- `writing::node_arrow` meets its contract: a word that is not blank says target and cost. Assumes nothing.
use Rattle.definitions.specs.Book.{tree_of}
use Rattle.definitions.proofs.Words.{no_transition, some_transition}
use Rattle.storing.proofs.Laws.{stored_none, stored_is}
use Rattle.writing.proofs.Laws.{arrow_none, arrow_node}
use Rattle.writing.proofs.node_arrow.Goals as goal

pub returns-then-w : goal.returns-then-w
returns-then-w c =
    let t = tree_of c.args.book.now in
    let free = no_transition t c.requires.0.sound c.args.n c.args.x c.transition-w.ensures c.if-w.true in
    stored_none c.args.out.now c.args.at (arrow_none t c.args.n c.args.x free)

pub returns : goal.returns
returns c =
    let t = tree_of c.args.book.now in
    let has = some_transition t c.requires.0.sound c.args.n c.args.x c.transition-w.ensures c.if-w.false in
    stored_is c.put_arrow.ensures (arrow_node t c.args.n c.args.x has)
