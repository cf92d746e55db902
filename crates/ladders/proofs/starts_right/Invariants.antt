-- `ladders::starts_right` meets its contract. The loop's invariant: the rows before `n` have their starts right. Assumes nothing.
use Prim.Native.Nat.{ℕ, ◌<◌}
use Rattle.definitions.specs.Book.{tree_of}
use Rattle.ladders.specs.Meaning.{StartRight}
use Rattle.ladders.proofs.starts_right.Given as goal

abbrev pub invariant-loop-n : goal.invariant-loop-n
invariant-loop-n l = (k : ℕ) → k < l.n → StartRight (tree_of l.book) l.rows k
