-- `wellformed::below_fits` meets its contract: the machine below names the node as its holder. Assumes nothing.
use Rattle.book.proofs.Said.{unsaid_all}
use Rattle.wellformed.proofs.Reading.{tree_of_read}
use Rattle.wellformed.proofs.Deciding.{below_decides}
use Rattle.wellformed.proofs.below_fits.Goals as goal

pub returns-then-b-eq-ABSENT : goal.returns-then-b-eq-ABSENT
returns-then-b-eq-ABSENT c =
    let a = c.args in
    λ m e. absurd (unsaid_all ((tree_of_read a.book.now).below a.n) c.below-b.ensures c.if-b-eq-ABSENT.true m e)

pub returns : goal.returns
returns c =
    let a = c.args in
    below_decides (tree_of_read a.book.now) a.n c.requires.1
    c.below-b.ensures c.if-b-eq-ABSENT.false c.holder_of.ensures
