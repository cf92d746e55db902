-- `sheet::node_row_word` meets its contract: the index is the one that the layout gives. Assumes nothing.
use mathlib.Core.Path.{sym}
use Rattle.definitions.specs.Sheet.{node_row_word}
use Rattle.definitions.proofs.Words.{rows_of_node}
use Rattle.sheet.proofs.node_row_word.Goals as goal

pub returns : goal.returns
unfolding node_row_word
returns c =
    let a = c.args in
    let p = c.requires in
    sym (rows_of_node a.sheet.now a.n a.k p.1 p.2)
