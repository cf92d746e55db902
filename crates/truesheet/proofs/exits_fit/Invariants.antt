-- `truesheet::exits_fit` meets its contract. The loop's invariant: what stands for commands below `x` fits. Assumes nothing.
use Prim.Native.Nat.{ℕ, ◌<◌}
use Rattle.definitions.specs.Book.{tree_of}
use Rattle.definitions.specs.Sheet.{rows_of}
use Rattle.truesheet.specs.Fits.{ExitFits}
use Rattle.truesheet.proofs.exits_fit.Given as goal

abbrev pub invariant-loop-x : goal.invariant-loop-x
invariant-loop-x l = (k : ℕ) → k < l.x → ExitFits (tree_of l.book) (rows_of l.sheet) l.m k
