-- `book::root` meets its contract: the root is the first word. Assumes nothing.
use mathlib.Core.Path.{refl}
use Rattle.definitions.specs.Book.{tree_of}
use Rattle.book.proofs.root.Goals as goal

pub returns : goal.returns
unfolding tree_of
returns c = refl
