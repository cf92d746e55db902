-- `sheet::before` meets its contract: the node before a node is the second word of its row. Assumes nothing.
use Rattle.definitions.specs.Sheet.{node_row}
use Rattle.sheet.proofs.before.Goals as goal

pub returns : goal.returns
unfolding node_row
returns c = c.node_row_word.ensures
