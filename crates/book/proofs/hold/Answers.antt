-- `book::hold` meets its contract: the index is the one that the layout gives. Assumes nothing.
use mathlib.Core.Path.{sym}
use Rattle.definitions.specs.Book.{hold_word}
use Rattle.definitions.proofs.Words.{tree_of_hold}
use Rattle.book.proofs.hold.Goals as goal

pub returns : goal.returns
unfolding hold_word
returns c = sym (tree_of_hold c.args.book.now c.args.n c.requires.1)
