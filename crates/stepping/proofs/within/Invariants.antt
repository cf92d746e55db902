-- `stepping::within` meets its contract: to be within n is the same of the node in hand and of d, and each turn goes one level up.
-- Assumes nothing.
use mathlib.Core.Path.{◌≡◌}
use Prim.Native.Nat.{◌<◌}
use Rattle.definitions.specs.Limits.{nodes}
use Rattle.definitions.specs.Tree.{level, within}
use Rattle.definitions.specs.Book.{tree_of}
use Rattle.stepping.proofs.within.Given as goal

abbrev pub invariant-loop-k : goal.invariant-loop-k
invariant-loop-k l = (l.k < nodes) × (within (tree_of l.book) l.n l.d ≡ within (tree_of l.book) l.n l.k)

abbrev pub decreases-loop-k : goal.decreases-loop-k
decreases-loop-k l = level (tree_of l.book) l.k
