-- `wellformed::nodes_fit` meets its contract. The loop's invariant: the nodes below `n` fit. Assumes nothing.
use Prim.Native.Nat.{ℕ, ◌<◌}
use Rattle.definitions.specs.Book.{tree_of}
use Rattle.wellformed.specs.Fits.{NodeFits}
use Rattle.wellformed.proofs.nodes_fit.Given as goal

abbrev pub invariant-loop-n : goal.invariant-loop-n
invariant-loop-n l = (k : ℕ) → k < l.n → NodeFits (tree_of l.book) k
