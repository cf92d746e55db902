-- `choosing::used_part` meets its contract: what is used from the state in hand on, with the commands passed before it, is what is used of
-- the whole list. Assumes nothing.
use Rattle.definitions.specs.Book.{tree_of}
use Rattle.choosing.proofs.Laws.{Upto}
use Rattle.choosing.proofs.used_part.Given as goal

abbrev pub invariant-loop-i : goal.invariant-loop-i
invariant-loop-i l = Upto (tree_of l.book) l.a l.b l.looked l.s l.i l.cost
