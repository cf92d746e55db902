-- `sheet::by` meets its contract: the command before a node is the third word of its row. Assumes nothing.
use Rattle.definitions.specs.Sheet.{node_row}
use Rattle.sheet.proofs.by.Goals as goal

pub returns : goal.returns
unfolding node_row
returns c = c.node_row_word.ensures
