-- `refreshing::cheapest` meets its contract: the cheapest way out from the nodes at the places passed. Assumes nothing.
use Rattle.definitions.specs.Book.{tree_of}
use Rattle.definitions.specs.Sheet.{rows_of}
use Rattle.search.specs.Parts.{at}
use Rattle.refreshing.specs.Parts.{distances, Cheapest}
use Rattle.refreshing.proofs.cheapest.Given as goal

abbrev pub invariant-loop-j : goal.invariant-loop-j
invariant-loop-j l = Cheapest (tree_of l.book) (rows_of l.sheet) (at l.members) (distances l.dist) l.x l.j l.cost l.node
