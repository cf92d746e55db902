-- The level of the node falls.
use Rattle.definitions.specs.Tree.{level}
use Rattle.definitions.specs.Book.{tree_of}
use Rattle.crossing.proofs.+inherit_above.Given as goal

abbrev pub decreases-inherit_above : goal.decreases-inherit_above
decreases-inherit_above l = level (tree_of l.book.now) l.n
