-- `truesheet::machine_blank` meets its contract. The loop's invariant: nothing stands in the row for commands below `x`. Assumes nothing.
use Prim.Native.Nat.{ℕ, ◌<◌}
use Rattle.definitions.specs.Sheet.{rows_of}
use Rattle.truesheet.specs.Fits.{BlankExit}
use Rattle.truesheet.proofs.machine_blank.Given as goal

abbrev pub invariant-loop-x : goal.invariant-loop-x
invariant-loop-x l = (k : ℕ) → k < l.x → BlankExit (rows_of l.sheet) l.m k
