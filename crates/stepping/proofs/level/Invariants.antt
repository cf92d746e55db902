-- `stepping::level` meets its contract: what is counted and the level of the node in hand make up one more than the level. Assumes nothing.
use mathlib.Core.Path.{◌≡◌}
use Prim.Native.Nat.{suc, ◌+◌}
use Rattle.definitions.specs.Tree.{UsedNode, level}
use Rattle.definitions.specs.Book.{tree_of}
use Rattle.stepping.proofs.level.Given as goal

abbrev pub invariant-loop-n : goal.invariant-loop-n
invariant-loop-n l = UsedNode (tree_of l.book) l.at × (l.count + level (tree_of l.book) l.at ≡ suc (level (tree_of l.book) l.n))

abbrev pub decreases-loop-n : goal.decreases-loop-n
decreases-loop-n l = level (tree_of l.book) l.at
