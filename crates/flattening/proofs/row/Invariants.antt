-- `flattening::row` meets its contract: the entries passed have their steps, and the other rows are as they were. Assumes nothing.
use Rattle.definitions.specs.Book.{tree_of}
use Rattle.definitions.specs.Step.{step}
use Rattle.search.proofs.Tables.{RowTo}
use Rattle.flattening.proofs.row.Given as goal

abbrev pub invariant-loop-x : goal.invariant-loop-x
invariant-loop-x l = RowTo (step (tree_of l.book) l.n) l.n l.x l.initial.target l.initial.price l.target l.price
