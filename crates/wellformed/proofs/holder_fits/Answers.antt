-- `wellformed::holder_fits` meets its contract: each test settles one thing that is asked of the holder. Assumes nothing.
use Rattle.book.proofs.Said.{unsaid_all}
use Rattle.wellformed.proofs.Reading.{tree_of_read}
use Rattle.wellformed.proofs.Deciding.{holder_other, holder_unused, holder_decides}
use Rattle.wellformed.proofs.holder_fits.Goals as goal

pub returns-then-h-eq-ABSENT : goal.returns-then-h-eq-ABSENT
returns-then-h-eq-ABSENT c =
    let a = c.args in
    λ n e. absurd (unsaid_all ((tree_of_read a.book.now).holder a.m) c.holder-h.ensures c.if-h-eq-ABSENT.true n e)

pub returns-then-below_of-m : goal.returns-then-below_of-m
returns-then-below_of-m c =
    let a = c.args in
    holder_other (tree_of_read a.book.now) a.m c.holder-h.ensures
    c.if-h-eq-ABSENT.false c.below_of.ensures c.if-below_of-m.true

pub returns-then-owner_of-eq-ABSENT : goal.returns-then-owner_of-eq-ABSENT
returns-then-owner_of-eq-ABSENT c =
    let a = c.args in
    holder_unused (tree_of_read a.book.now) a.m c.holder-h.ensures
    c.if-h-eq-ABSENT.false c.owner_of.ensures c.if-owner_of-eq-ABSENT.true

pub returns : goal.returns
returns c =
    let a = c.args in
    holder_decides (tree_of_read a.book.now) a.m c.requires.1 c.holder-h.ensures
    c.if-h-eq-ABSENT.false c.below_of.ensures
    c.if-below_of-m.false c.owner_of.ensures c.if-owner_of-eq-ABSENT.false c.start.ensures
