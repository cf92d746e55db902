-- `merging::marks` meets its contract. The loop's invariant: the list has what it should under `k`. Assumes nothing.
use mathlib.Core.Bool.{cond}
use Rattle.definitions.specs.Book.{tree_of}
use Rattle.numbering.specs.Tests.{FrontWords}
use Rattle.merging.specs.Merging.{size_of, used_of}
use Rattle.merging.proofs.marks.Given as goal

abbrev pub invariant-loop-k : goal.invariant-loop-k
invariant-loop-k g l = FrontWords (size_of l.kind) l.k (λ i. cond (used_of l.kind (tree_of l.book) i) 1 0) l.marks
