-- `refreshing::refresh` meets its contract: below level l nothing is stale. Assumes nothing.
use Rattle.definitions.specs.Book.{tree_of}
use Rattle.refreshing.specs.Refresh.{FilledBelow}
use Rattle.refreshing.proofs.refresh.Given as goal

abbrev pub invariant-loop-l : goal.invariant-loop-l
invariant-loop-l l = FilledBelow (tree_of l.book) l.l l.initial.sheet l.sheet
