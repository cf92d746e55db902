-- `marking::blank_nodes` meets its contract: after each turn the nodes of the list's machines below n are blank. Assumes nothing.
use Rattle.definitions.specs.Book.{tree_of}
use Rattle.book.specs.Chosen.{chosen, up_to}
use Rattle.marking.specs.Stale.{owned_by, LeavesBlank}
use Rattle.marking.proofs.blank_nodes.Given as goal

abbrev pub invariant-loop-n : goal.invariant-loop-n
invariant-loop-n l = LeavesBlank l.initial.sheet l.sheet (up_to (owned_by (tree_of l.book) (chosen l.list)) l.n)
