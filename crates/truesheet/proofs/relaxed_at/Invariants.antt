-- `truesheet::relaxed_at` meets its contract. The loop's invariant: the node is relaxed by commands below `x`. Assumes nothing.
use Prim.Native.Nat.{ℕ, ◌<◌}
use Rattle.definitions.specs.Book.{tree_of}
use Rattle.definitions.specs.Sheet.{rows_of}
use Rattle.truesheet.specs.Fits.{RelaxedBy}
use Rattle.truesheet.proofs.relaxed_at.Given as goal

abbrev pub invariant-loop-x : goal.invariant-loop-x
invariant-loop-x l = (k : ℕ) → k < l.x → RelaxedBy (tree_of l.book) (rows_of l.sheet) l.m l.n l.c k
