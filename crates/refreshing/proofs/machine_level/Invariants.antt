-- `refreshing::machine_level` meets its contract: the machines passed and the level of the last of them make up the level. Assumes nothing.
use Prim.Native.Nat.{◌-◌}
use Rattle.definitions.specs.Limits.{levels}
use Rattle.definitions.specs.Book.{tree_of}
use Rattle.refreshing.proofs.Levels.{Climbed}
use Rattle.refreshing.proofs.machine_level.Given as goal

abbrev pub invariant-loop-m : goal.invariant-loop-m
invariant-loop-m l = Climbed (tree_of l.book) l.m l.p l.count

abbrev pub decreases-loop-m : goal.decreases-loop-m
decreases-loop-m l = levels - l.count
