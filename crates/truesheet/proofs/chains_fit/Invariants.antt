-- `truesheet::chains_fit` meets its contract. The loop's invariant: the names of nodes below `n` lead to a start, and what is counted is
-- counted right. Assumes nothing.
use Prim.Native.Nat.{ℕ, ◌<◌}
use Rattle.definitions.specs.Sheet.{rows_of}
use Rattle.truesheet.specs.Fits.{ChainFits, Counted}
use Rattle.truesheet.proofs.chains_fit.Given as goal

abbrev pub invariant-loop-n : goal.invariant-loop-n
invariant-loop-n l = Counted (rows_of l.sheet) l.counts × ((k : ℕ) → k < l.n → ChainFits (rows_of l.sheet) k)
