-- `writing::write` meets its contract: the stream's length is a word. Assumes nothing.
use mathlib.Core.List.{[]}
use mathlib.Core.Path.{refl}
use native.Mathlib.Omega.{arith}
use Rattle.definitions.specs.Book.{tree_of}
use Rattle.definitions.specs.Calls.{book_refusals}
use Rattle.refusals.proofs.Judging.{judged_ok}
use Rattle.samebook.proofs.Bound.{write_bound}
use Rattle.writing.proofs.write.Goals as goal

pub overflow_cast-result : goal.overflow_cast-result
overflow_cast-result c =
    let well = (judged_ok (book_refusals c.args.book.now []) c.judge.ensures c.in_ok-judge.was refl).1.0 in
    omega (arith, c.write_stream-n.ensures.0, write_bound (tree_of c.args.book.now) well.sound)
