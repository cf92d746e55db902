-- `flattening::entered` meets its contract: the nodes passed have the state where they are entered. Assumes nothing.
use Prim.Native.Nat.{ℕ, ◌<◌}
use Rattle.definitions.specs.Book.{tree_of}
use Rattle.search.specs.Parts.{at}
use Rattle.flattening.specs.Flattening.{EnteredAt}
use Rattle.flattening.proofs.entered.Given as goal

abbrev pub invariant-loop-n : goal.invariant-loop-n
invariant-loop-n l = (v : ℕ) → v < l.n → EnteredAt (tree_of l.book) v (at l.lands v)
