-- `removing::clear_into_from` meets its contract: after each turn the transitions into n are gone below x. Assumes nothing.
use Rattle.book.specs.Fields.{Holds}
use Rattle.removing.proofs.Into.{from_to}
use Rattle.removing.proofs.clear_into_from.Given as goal

abbrev pub invariant-loop-x : goal.invariant-loop-x
invariant-loop-x l = Holds l.book (from_to l.initial.book l.n l.k l.x)
