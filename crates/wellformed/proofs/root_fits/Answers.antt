-- `wellformed::root_fits` meets its contract: the two words that it looks at are the root's start and holder. Assumes nothing.
use Rattle.wellformed.proofs.Reading.{tree_of_read}
use Rattle.wellformed.proofs.Deciding.{root_unused, root_decides}
use Rattle.wellformed.proofs.root_fits.Goals as goal

pub returns-then-start_of-eq-ABSENT : goal.returns-then-start_of-eq-ABSENT
returns-then-start_of-eq-ABSENT c =
    let ws = c.args.book.now in
    root_unused (tree_of_read ws) c.root-root.ensures c.start_of.ensures c.if-start_of-eq-ABSENT.true

pub returns : goal.returns
returns c =
    let ws = c.args.book.now in
    root_decides (tree_of_read ws) c.root-root.ensures c.start_of.ensures
    c.if-start_of-eq-ABSENT.false c.holder_of.ensures
