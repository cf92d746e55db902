-- `opening::open_rows` meets its contract: the sheet's marks are those of the book that is written. Assumes nothing.
use mathlib.Core.Path.{sym, ◌∙◌, ap}
use Rattle.definitions.specs.Book.{encode}
use Rattle.definitions.proofs.Words.{encode_tree_of}
use Rattle.opening.proofs.open_rows.Goals as goal

pub returns-clause-book : goal.returns-clause-book
returns-clause-book c =
    let written = c.open_book.ensures in
    sym (encode_tree_of c.open_book.new.book written.length) ∙ ap encode written.tree
