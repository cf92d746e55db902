-- `printing::open_book` meets its contract: both lengths are right. Assumes nothing.
use borrow.Author.Rules.{rules}
use Rattle.printing.proofs.Opened.{opened_fresh}
use Rattle.printing.proofs.open_book.Goals as goal

pub returns : goal.returns
returns c = opened_fresh (search rules) (search rules) c.open_fresh.ensures
