-- `wellformed::transition_fits` meets its contract: the upper half of the word is the target. Assumes nothing.
use Rattle.wellformed.proofs.Reading.{tree_of_read}
use Rattle.wellformed.proofs.Deciding.{transition_unused, transition_blank, transition_decides}
use Rattle.wellformed.proofs.transition_fits.Goals.{then-w, else-w}
use Rattle.wellformed.proofs.transition_fits.Goals as goal

pub returns-then-m-eq-ABSENT : goal.returns-then-m-eq-ABSENT
returns-then-m-eq-ABSENT c =
    let a = c.args in
    transition_unused (tree_of_read a.book.now) a.n a.x c.transition-w.ensures c.requires.3 c.if-m-eq-ABSENT.true

pub returns : goal.returns
returns c =
    let a = c.args in
    let read = tree_of_read a.book.now in
    elim c.if-w.branch [
      | then-w v ↦ transition_blank read a.n a.x c.transition-w.ensures c.requires.3 c.owner_of.ensures v.if-w.true v.v-is
      | else-w v ↦ transition_decides read a.n a.x c.transition-w.ensures c.requires.3 c.owner_of.ensures c.if-m-eq-ABSENT.false v.if-w.false v.v-is
    ]
