-- `refreshing::fill_level` meets its contract: the machines passed that are of the level are filled. Assumes nothing.
use Rattle.definitions.specs.Book.{tree_of}
use Rattle.refreshing.specs.Refresh.{LevelFilled}
use Rattle.refreshing.proofs.fill_level.Given as goal

abbrev pub invariant-loop-m : goal.invariant-loop-m
invariant-loop-m l = LevelFilled (tree_of l.book) l.l l.m l.initial.sheet l.sheet
