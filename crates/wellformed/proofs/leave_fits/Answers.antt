-- `wellformed::leave_fits` meets its contract: 0 fits, and less than 65,536 at a machine in use that is not the root. Assumes nothing.
use Rattle.wellformed.proofs.Reading.{tree_of_read}
use Rattle.wellformed.proofs.Deciding.{leave_unused, leave_decides}
use Rattle.wellformed.proofs.leave_fits.Goals as goal

pub returns-then-start-eq-ABSENT : goal.returns-then-start-eq-ABSENT
returns-then-start-eq-ABSENT c =
    let a = c.args in
    leave_unused (tree_of_read a.book.now) a.m c.leave-c.ensures c.if-c-eq0.false c.start.ensures c.if-start-eq-ABSENT.true

pub returns : goal.returns
returns c =
    let a = c.args in
    leave_decides (tree_of_read a.book.now) a.m c.leave-c.ensures c.if-c-eq0.false c.if-c-ge65536.false c.start.ensures
    c.if-start-eq-ABSENT.false c.root.ensures
