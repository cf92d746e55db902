-- `opening::open_book` meets its contract: the rows are written into a cleared book, and then the root. Assumes nothing.
use Rattle.opening.proofs.Says.{book_rooted}
use Rattle.opening.proofs.open_book.Goals as goal

pub returns : goal.returns
returns c =
    let root = c.root-r in
    book_rooted c.args.rows.now root.result c.set_rows.ensures root.ensures c.set_root.ensures
