-- `inheriting::inherit` meets its contract: the words passed say what the machine inherits, and those that were right still are. Assumes nothing.
use mathlib.Core.Path.{◌≡◌}
use Prim.Native.Nat.{◌<◌}
use Rattle.definitions.specs.Book.{tree_of}
use Rattle.inheriting.specs.Inheriting.{Handed}
use Rattle.inheriting.proofs.inherit.Given as goal

abbrev pub invariant-loop-y : goal.invariant-loop-y
invariant-loop-y l = Handed (tree_of l.book) l.lands (λ q x. (q ≡ l.m) × (x < l.y)) l.initial.up l.up
