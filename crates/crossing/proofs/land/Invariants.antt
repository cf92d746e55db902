-- `crossing::land` meets its contract: the node in hand lands where the first does, and each turn goes one level down. Assumes nothing.
use mathlib.Core.Path.{◌≡◌}
use Prim.Native.Nat.{◌-◌}
use Rattle.definitions.specs.Limits.{levels}
use Rattle.definitions.specs.Tree.{UsedNode, level}
use Rattle.definitions.specs.Book.{tree_of}
use Rattle.plantheory.specs.Search.{land}
use Rattle.crossing.specs.Parts.{is_open}
use Rattle.crossing.proofs.land.Given as goal

abbrev pub invariant-loop-v : goal.invariant-loop-v
invariant-loop-v l = UsedNode (tree_of l.book) l.w × (land (tree_of l.book) (is_open l.opened) l.v ≡ land (tree_of l.book) (is_open l.opened) l.w)

abbrev pub decreases-loop-v : goal.decreases-loop-v
decreases-loop-v l = levels - level (tree_of l.book) l.w
