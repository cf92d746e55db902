-- `writing::has_room` meets its contract: no stream is longer than the longest, and any other length is compared. Assumes nothing.
use native.Mathlib.Omega.{arith}
use borrow.Author.Tests.{le-leb}
use Rattle.definitions.specs.Book.{tree_of}
use Rattle.samebook.proofs.Bound.{write_bound}
use Rattle.writing.proofs.has_room.Goals as goal

pub returns-then-len-ge-LONGEST : goal.returns-then-len-ge-LONGEST
returns-then-len-ge-LONGEST c =
    rw (le-leb _ c.args.len c.if-len-ge-LONGEST.true) (omega (arith, write_bound (tree_of c.args.book.now) c.requires.sound))
