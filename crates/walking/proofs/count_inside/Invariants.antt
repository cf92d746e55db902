-- `walking::count_inside` meets its contract: those counted and those from the index on are all. Assumes nothing.
use mathlib.Core.Path.{◌≡◌}
use Prim.Native.Nat.{◌+◌, ◌≤◌}
use lib.ListN.{drop}
use Rattle.definitions.specs.Book.{tree_of}
use Rattle.definitions.specs.Walk.{inside}
use Rattle.walking.proofs.count_inside.Given as goal

abbrev pub invariant-loop-s : goal.invariant-loop-s
invariant-loop-s l =
    (l.count ≤ l.s-index) × (l.count + inside (tree_of l.book) l.n (drop l.s-index l.states) ≡ inside (tree_of l.book) l.n l.states)
