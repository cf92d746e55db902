-- `stepping::climb` meets its contract: the climb from the state comes to the node in hand, having left machines at this cost, and each turn goes
-- one level up. What was left costs at most 65,535 for each level. Assumes nothing.
use Prim.Native.Nat.{◌+◌, ◌*◌, ◌-◌, ◌≤◌}
use Rattle.definitions.specs.Limits.{costs, largest_step_cost}
use Rattle.definitions.specs.Tree.{level}
use Rattle.definitions.specs.Book.{tree_of}
use Rattle.stepping.proofs.Climbing.{ClimbedTo}
use Rattle.stepping.proofs.climb.Given as goal

abbrev pub invariant-loop-cost : goal.invariant-loop-cost
invariant-loop-cost l = ClimbedTo (tree_of l.book) l.s l.x l.n l.left × (l.left + level (tree_of l.book) l.n * (costs - 1) ≤ largest_step_cost)

abbrev pub decreases-loop-cost : goal.decreases-loop-cost
decreases-loop-cost l = level (tree_of l.book) l.n
