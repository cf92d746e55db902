-- `marking::mark_over` meets its contract: the machines over n are those listed and those over the node in hand, and each turn goes one
-- level up. Assumes nothing.
use Rattle.definitions.specs.Tree.{UsedNode, level, over}
use Rattle.definitions.specs.Book.{tree_of}
use Rattle.marking.proofs.Climb.{Climbing}
use Rattle.marking.proofs.mark_over.Given as goal

abbrev pub invariant-loop-list : goal.invariant-loop-list
invariant-loop-list l = UsedNode (tree_of l.book) l.k × Climbing (tree_of l.book) l.initial.sheet l.sheet l.n l.list (λ p. over (tree_of l.book) p l.k)

abbrev pub decreases-loop-list : goal.decreases-loop-list
decreases-loop-list l = level (tree_of l.book) l.k
