-- `wellformed::transitions_fit` meets its contract. The loop's invariant: the transitions for commands below `x` fit. Assumes nothing.
use Prim.Native.Nat.{ℕ, ◌<◌}
use Rattle.definitions.specs.Book.{tree_of}
use Rattle.wellformed.specs.Fits.{TransitionFits}
use Rattle.wellformed.proofs.transitions_fit.Given as goal

abbrev pub invariant-loop-x : goal.invariant-loop-x
invariant-loop-x l = (k : ℕ) → k < l.x → TransitionFits (tree_of l.book) l.n k
