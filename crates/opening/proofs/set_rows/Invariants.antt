-- `opening::set_rows` meets its contract: the book has the rows passed. Assumes nothing.
use Rattle.definitions.specs.Limits.{absent}
use Rattle.book.specs.Fields.{Holds}
use Rattle.opening.specs.Rows.{grown}
use Rattle.opening.proofs.set_rows.Given as goal

abbrev pub invariant-loop-n : goal.invariant-loop-n
invariant-loop-n l = Holds l.book (grown l.rows l.n absent)
