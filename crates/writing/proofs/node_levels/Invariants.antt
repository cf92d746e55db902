-- `writing::node_levels` meets its contract: the levels of the nodes passed stand in the list. Assumes nothing.
use Rattle.definitions.specs.Book.{tree_of}
use Rattle.writing.specs.Meaning.{Levels}
use Rattle.writing.proofs.node_levels.Given as goal

abbrev pub invariant-loop-n : goal.invariant-loop-n
invariant-loop-n l = Levels (tree_of l.book) l.n l.list
