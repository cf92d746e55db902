-- `opening::set_holder` meets its contract: the holder is written exactly where there is a machine below. Assumes nothing.
use mathlib.Core.Path.{refl}
use native.Mathlib.Omega.{arith}
use borrow.Author.Tests.{lt-ltb, le-ltb, ne_eqb}
use Rattle.definitions.specs.Limits.{machines, absent}
use Rattle.definitions.specs.Book.{number}
use Rattle.opening.specs.Writes.{with_held}
use Rattle.opening.proofs.set_holder.Goals as goal

pub returns-then-below-lt-MACHINES : goal.returns-then-below-lt-MACHINES
unfolding with_held number
returns-then-below-lt-MACHINES c =
    let a = c.args in
    rw (lt-ltb a.below machines c.if-below-lt-MACHINES.true) (rw (ne_eqb a.n absent (omega arith)) at c.set_holder.ensures)

pub returns-else-below-lt-MACHINES : goal.returns-else-below-lt-MACHINES
unfolding with_held
returns-else-below-lt-MACHINES c =
    rw (le-ltb c.args.below machines c.if-below-lt-MACHINES.false) (record { length = c.requires.0; tree = refl })
