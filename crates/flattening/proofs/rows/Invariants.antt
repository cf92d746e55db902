-- `flattening::rows` meets its contract: the rows passed have their moves, and the others none. Assumes nothing.
use Rattle.definitions.specs.Book.{tree_of}
use Rattle.search.proofs.Tables.{TabledTo}
use Rattle.flattening.specs.Flattening.{flat_move}
use Rattle.flattening.proofs.rows.Given as goal

abbrev pub invariant-loop-n : goal.invariant-loop-n
invariant-loop-n l = TabledTo (flat_move (tree_of l.book)) l.n l.target l.price
