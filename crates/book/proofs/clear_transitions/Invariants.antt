-- `book::clear_transitions` meets its contract: after each turn the transitions below x are cleared. Assumes nothing.
use Rattle.book.specs.Fields.{Holds}
use Rattle.book.proofs.Stores.{cleared_tree}
use Rattle.book.proofs.clear_transitions.Given as goal

abbrev pub invariant-loop-x : goal.invariant-loop-x
invariant-loop-x l = Holds l.book (cleared_tree l.initial.book l.n l.x)
