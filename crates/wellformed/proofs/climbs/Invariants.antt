-- `wellformed::climbs` meets its contract. The loop's invariant: the machine at hand climbs in the steps that are left exactly where the
-- first one climbs at all. The measure is the steps that are left. Assumes nothing.
use mathlib.Core.Logic.{◌↔◌}
use Prim.Native.Nat.{suc}
use Rattle.definitions.specs.Limits.{levels}
use Rattle.definitions.specs.Book.{tree_of}
use Rattle.wellformed.specs.Fits.{Climbs}
use Rattle.wellformed.proofs.climbs.Given as goal

abbrev pub invariant-loop-at : goal.invariant-loop-at
invariant-loop-at l = Climbs (tree_of l.book) (suc l.left) l.at ↔ Climbs (tree_of l.book) levels l.m

abbrev pub decreases-loop-at : goal.decreases-loop-at
decreases-loop-at l = l.left
