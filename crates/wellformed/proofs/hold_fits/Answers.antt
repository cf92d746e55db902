-- `wellformed::hold_fits` meets its contract: 0 fits, and 1 at a node in use that is not a start. Assumes nothing.
use Rattle.wellformed.proofs.Reading.{tree_of_read}
use Rattle.wellformed.proofs.Deciding.{hold_unused, hold_decides}
use Rattle.wellformed.proofs.hold_fits.Goals as goal

pub returns-then-m-eq-ABSENT : goal.returns-then-m-eq-ABSENT
returns-then-m-eq-ABSENT c =
    let a = c.args in
    hold_unused (tree_of_read a.book.now) a.n c.hold-h.ensures c.if-h-eq0.false c.owner-m.ensures c.if-m-eq-ABSENT.true

pub returns : goal.returns
returns c =
    let a = c.args in
    hold_decides (tree_of_read a.book.now) a.n c.requires.1 c.hold-h.ensures c.if-h-ne1.false c.owner-m.ensures c.if-m-eq-ABSENT.false
    c.start_of.ensures
