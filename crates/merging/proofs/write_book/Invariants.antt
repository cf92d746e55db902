-- `merging::write_book` meets its contract. The loop's invariant: the book has the records of the nodes under `n`. Assumes nothing.
use Rattle.definitions.specs.Limits.{machines}
use Rattle.book.specs.Recorded.{Recorded}
use Rattle.merging.specs.Merging.{rooted_tree}
use Rattle.merging.proofs.write_book.Given as goal

abbrev pub invariant-loop-n : goal.invariant-loop-n
invariant-loop-n l = Recorded l.book (rooted_tree l.first l.second l.h.root l.h.first l.h.second l.h.top) machines l.n 0
