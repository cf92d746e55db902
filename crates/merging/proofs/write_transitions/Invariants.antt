-- `merging::write_transitions` meets its contract. The loop's invariant: the book has the node's transitions for the commands under `x`. Assumes
-- nothing.
use mathlib.Core.Path.{◌≡◌}
use Prim.Native.Nat.{ℕ, ◌+◌}
use lib.ListN.{length}
use Rattle.definitions.specs.Limits.{machines, book_length}
use Rattle.book.specs.Recorded.{Recorded}
use Rattle.merging.specs.Merging.{rooted_tree}
use Rattle.merging.proofs.write_transitions.Given as goal

abbrev pub invariant-loop-x : goal.invariant-loop-x
invariant-loop-x l =
    (length l.book ≡ book_length)
    × ((r a b s : ℕ) → Recorded l.initial.book (rooted_tree l.first l.second r a b s) machines l.n 2
    → Recorded l.book (rooted_tree l.first l.second r a b s) machines l.n (l.x + 2))
