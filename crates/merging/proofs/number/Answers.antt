-- `merging::number` meets its contract. Assumes nothing.
use borrow.Author.Tests.{eq-eqb, ne_eqb}
use Rattle.definitions.specs.Book.{number}
use Rattle.merging.proofs.number.Goals as goal

pub returns-then-w-eq-ABSENT : goal.returns-then-w-eq-ABSENT
unfolding number
returns-then-w-eq-ABSENT c = rw (eq-eqb _ _ c.if-w-eq-ABSENT.true)

pub returns-else-w-eq-ABSENT : goal.returns-else-w-eq-ABSENT
unfolding number
returns-else-w-eq-ABSENT c = rw (ne_eqb _ _ c.if-w-eq-ABSENT.false)
