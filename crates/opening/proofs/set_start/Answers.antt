-- `opening::set_start` meets its contract: the start is written exactly where the row says that its node is one. Assumes nothing.
use mathlib.Core.Path.{refl}
use native.Mathlib.Omega.{arith}
use borrow.Author.Tests.{lt-ltb, le-ltb, ne_eqb, eq-eqb}
use Rattle.definitions.specs.Limits.{machines, absent}
use Rattle.definitions.specs.Book.{number}
use Rattle.opening.specs.Writes.{with_started}
use Rattle.opening.proofs.set_start.Goals as goal

pub returns-then-start-ne1 : goal.returns-then-start-ne1
unfolding with_started
returns-then-start-ne1 c =
    rw (ne_eqb c.args.start 1 c.if-start-ne1.true) (record { length = c.requires.0; tree = refl })

pub returns-then-owner-lt-MACHINES : goal.returns-then-owner-lt-MACHINES
unfolding with_started number
returns-then-owner-lt-MACHINES c =
    let a = c.args in
    rw (eq-eqb a.start 1 c.if-start-ne1.false, lt-ltb a.owner machines c.if-owner-lt-MACHINES.true)
    (rw (ne_eqb a.n absent (omega arith)) at c.set_start.ensures)

pub returns-else-owner-lt-MACHINES : goal.returns-else-owner-lt-MACHINES
unfolding with_started
returns-else-owner-lt-MACHINES c =
    rw (eq-eqb c.args.start 1 c.if-start-ne1.false, le-ltb c.args.owner machines c.if-owner-lt-MACHINES.false)
    (record { length = c.requires.0; tree = refl })
