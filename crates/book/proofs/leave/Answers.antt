-- `book::leave` meets its contract: the index is the one that the layout gives. Assumes nothing.
use mathlib.Core.Path.{sym}
use Rattle.definitions.specs.Book.{leave_word}
use Rattle.definitions.proofs.Words.{tree_of_leave}
use Rattle.book.proofs.leave.Goals as goal

pub returns : goal.returns
unfolding leave_word
returns c = sym (tree_of_leave c.args.book.now c.args.m c.requires.1)
