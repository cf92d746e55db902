-- `crossing::rows` meets its contract: the rows passed have their moves, and the others none. Assumes nothing.
use Rattle.definitions.specs.Book.{tree_of}
use Rattle.definitions.specs.Sheet.{rows_of}
use Rattle.search.proofs.Tables.{TabledTo}
use Rattle.crossing.specs.Parts.{is_open, open_move}
use Rattle.crossing.proofs.rows.Given as goal

abbrev pub invariant-loop-n : goal.invariant-loop-n
invariant-loop-n l = TabledTo (open_move (tree_of l.book) (rows_of l.sheet) (is_open l.opened)) l.n l.target l.price
