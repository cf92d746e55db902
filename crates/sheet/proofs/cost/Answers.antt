-- `sheet::cost` meets its contract: a node's cost is the first word of its row. Assumes nothing.
use Rattle.definitions.specs.Sheet.{node_row}
use Rattle.sheet.proofs.cost.Goals as goal

pub returns : goal.returns
unfolding node_row
returns c = c.node_row_word.ensures
