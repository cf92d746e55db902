-- `refreshing::gather` meets its contract: the nodes passed that belong to the machine have their places. Assumes nothing.
use Rattle.definitions.specs.Book.{tree_of}
use Rattle.refreshing.specs.Parts.{Gathered}
use Rattle.refreshing.proofs.gather.Given as goal

abbrev pub invariant-loop-n : goal.invariant-loop-n
invariant-loop-n l = Gathered (tree_of l.book) l.m l.n l.k l.members l.places
