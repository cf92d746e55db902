-- `bycommand::seen_by_node` meets its contract: a list of another length has no second layout. Assumes nothing.
use mathlib.Core.Path.{sym}
use Rattle.definitions.proofs.Turned.{node_other}
use Rattle.bycommand.proofs.seen_by_node.Goals as goal

pub returns-then-book-ne-TURNED : goal.returns-then-book-ne-TURNED
returns-then-book-ne-TURNED c = sym (node_other c.args.book.now c.if-book-ne-TURNED.true)
