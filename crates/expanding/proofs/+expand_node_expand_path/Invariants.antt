-- A node is opened into a path one level lower, and a path into nodes of its own level, so the measure of a path lies between those of two levels
-- of nodes. The steps of a path that are not walked yet are those of the places below k.
use Rattle.std.proofs.Common.{◌+◌}
use Rattle.definitions.specs.Book.{tree_of}
use Rattle.definitions.specs.Sheet.{rows_of}
use Rattle.plantheory.specs.Expand.{node_part}
use Rattle.expanding.specs.Expanding.{steps_part}
use Rattle.expanding.proofs.Writing.{Onward}
use Rattle.expanding.proofs.+expand_node_expand_path.Given as goal

abbrev pub decreases-expand_node : goal.decreases-expand_node
decreases-expand_node l = l.depth + l.depth

abbrev pub decreases-expand_path : goal.decreases-expand_path
decreases-expand_path l = l.depth + l.depth + 1

abbrev pub invariant-expand_path-loop-k : goal.invariant-expand_path-loop-k
invariant-expand_path-loop-k l =
    Onward l.initial.buffer l.at (steps_part (node_part l.depth (tree_of l.book) (rows_of l.sheet)) l.left l.given l.count) l.buffer l.next
    (steps_part (node_part l.depth (tree_of l.book) (rows_of l.sheet)) l.left l.given l.k)
