-- `truesheet::machines_fit` meets its contract. The loop's invariant: the machines below `m` fit. Assumes nothing.
use Prim.Native.Nat.{ℕ, ◌<◌}
use Rattle.definitions.specs.Book.{tree_of}
use Rattle.truesheet.specs.Fits.{MachineRowFits}
use Rattle.truesheet.proofs.machines_fit.Given as goal

abbrev pub invariant-loop-m : goal.invariant-loop-m
invariant-loop-m l = (k : ℕ) → k < l.m → MachineRowFits (tree_of l.book) l.sheet k
