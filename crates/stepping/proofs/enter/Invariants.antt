-- `stepping::enter` meets its contract: the node in hand is entered where the first was, and each turn goes one level down. Assumes nothing.
use mathlib.Core.Path.{◌≡◌}
use Prim.Native.Nat.{◌-◌}
use Rattle.definitions.specs.Limits.{levels}
use Rattle.definitions.specs.Tree.{UsedNode, level}
use Rattle.definitions.specs.Book.{tree_of}
use Rattle.definitions.specs.Step.{enter}
use Rattle.stepping.proofs.enter.Given as goal

abbrev pub invariant-loop-n : goal.invariant-loop-n
invariant-loop-n l = UsedNode (tree_of l.book) l.v × (enter (tree_of l.book) l.n ≡ enter (tree_of l.book) l.v)

abbrev pub decreases-loop-n : goal.decreases-loop-n
decreases-loop-n l = levels - level (tree_of l.book) l.v
