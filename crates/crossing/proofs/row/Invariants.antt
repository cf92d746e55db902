-- `crossing::row` meets its contract: the entries passed have their moves, and the other rows are as they were. Assumes nothing.
use Rattle.definitions.specs.Book.{tree_of}
use Rattle.definitions.specs.Sheet.{rows_of}
use Rattle.search.proofs.Tables.{RowTo}
use Rattle.crossing.specs.Parts.{land_move}
use Rattle.crossing.proofs.row.Given as goal

abbrev pub invariant-loop-x : goal.invariant-loop-x
invariant-loop-x l = RowTo (land_move (tree_of l.book) (rows_of l.sheet) l.lands l.n) l.n l.x l.initial.target l.initial.price l.target l.price
