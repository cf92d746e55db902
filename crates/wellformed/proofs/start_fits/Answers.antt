-- `wellformed::start_fits` meets its contract: the start node is the machine's own, and `climbs` decides the climb. Assumes nothing.
use Rattle.book.proofs.Said.{unsaid_all}
use Rattle.wellformed.proofs.Reading.{tree_of_read}
use Rattle.wellformed.proofs.Deciding.{start_other, start_decides}
use Rattle.wellformed.proofs.start_fits.Goals as goal

pub returns-then-s-eq-ABSENT : goal.returns-then-s-eq-ABSENT
returns-then-s-eq-ABSENT c =
    let a = c.args in
    λ s e. absurd (unsaid_all ((tree_of_read a.book.now).start a.m) c.start-s.ensures c.if-s-eq-ABSENT.true s e)

pub returns-then-owner_of-m : goal.returns-then-owner_of-m
returns-then-owner_of-m c =
    let a = c.args in
    start_other (tree_of_read a.book.now) a.m c.start-s.ensures
    c.if-s-eq-ABSENT.false c.owner_of.ensures c.if-owner_of-m.true

pub returns : goal.returns
returns c =
    let a = c.args in
    start_decides (tree_of_read a.book.now) a.m c.climbs.result c.requires.1
    c.start-s.ensures c.if-s-eq-ABSENT.false c.owner_of.ensures
    c.if-owner_of-m.false c.climbs.ensures
