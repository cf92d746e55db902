-- `judging::any_lowest` meets its contract. The loop's invariant: no machine below `m` stands at the lowest level. Assumes nothing.
use mathlib.Core.Path.{◌≡◌}
use mathlib.Core.Bool.{false}
use Prim.Native.Nat.{ℕ, ◌<◌}
use Rattle.definitions.specs.Basics.{option}
use Rattle.definitions.specs.Book.{tree_of}
use Rattle.definitions.specs.Edit.{lowest}
use Rattle.judging.proofs.any_lowest.Given as goal

abbrev pub invariant-loop-m : goal.invariant-loop-m
invariant-loop-m l = (k : ℕ) → k < l.m → option false (lowest (tree_of l.book)) ((tree_of l.book).start k) ≡ false
