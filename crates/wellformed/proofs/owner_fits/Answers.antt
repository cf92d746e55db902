-- `wellformed::owner_fits` meets its contract: a machine is in use where it has a start node. Assumes nothing.
use Rattle.book.proofs.Said.{unsaid_all}
use Rattle.wellformed.proofs.Reading.{tree_of_read}
use Rattle.wellformed.proofs.Deciding.{owner_decides}
use Rattle.wellformed.proofs.owner_fits.Goals as goal

pub returns-then-m-eq-ABSENT : goal.returns-then-m-eq-ABSENT
returns-then-m-eq-ABSENT c =
    let a = c.args in
    λ m e. absurd (unsaid_all ((tree_of_read a.book.now).owner a.n) c.owner-m.ensures c.if-m-eq-ABSENT.true m e)

pub returns : goal.returns
returns c =
    let a = c.args in
    owner_decides (tree_of_read a.book.now) a.n c.owner-m.ensures c.if-m-eq-ABSENT.false
    c.start_of.ensures
