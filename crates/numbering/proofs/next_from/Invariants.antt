-- `numbering::next_from` meets its contract. The loop's invariant: no number from i up to k has the word. Assumes nothing.
use mathlib.Core.Path.{◌≡◌}
use Rattle.definitions.specs.Basics.{count_below}
use Rattle.numbering.specs.Tests.{has}
use Rattle.numbering.proofs.next_from.Given as goal

abbrev pub invariant-loop-k : goal.invariant-loop-k
invariant-loop-k l = count_below l.k (has l.list l.v) ≡ count_below l.i (has l.list l.v)
