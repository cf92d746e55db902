-- `refreshing::machine_levels` meets its contract: the levels of the machines passed stand in the list. Assumes nothing.
use Rattle.definitions.specs.Book.{tree_of}
use Rattle.refreshing.specs.Refresh.{MachineLevels}
use Rattle.refreshing.proofs.machine_levels.Given as goal

abbrev pub invariant-loop-m : goal.invariant-loop-m
invariant-loop-m l = MachineLevels (tree_of l.book) l.m l.list
