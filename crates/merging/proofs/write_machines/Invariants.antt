-- `merging::write_machines` meets its contract. The loop's invariant: the book has the records of the machines under `m`. Assumes nothing.
use Rattle.book.specs.Recorded.{Recorded}
use Rattle.merging.specs.Merging.{rooted_tree}
use Rattle.merging.proofs.write_machines.Given as goal

abbrev pub invariant-loop-m : goal.invariant-loop-m
invariant-loop-m l = Recorded l.book (rooted_tree l.first l.second l.h.root l.h.first l.h.second l.h.top) l.m 0 0
