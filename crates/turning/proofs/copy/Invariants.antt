-- `turning::copy` meets its contract. The loop's invariant: so many words more are those of any list that the source agrees with. Assumes nothing.
use mathlib.Core.Path.{◌≡◌}
use mathlib.Core.List.{List}
use Prim.Native.Nat.{ℕ, ◌+◌, ◌<◌}
use lib.ListN.{length, get_or}
use Rattle.turning.specs.Fronts.{Front}
use Rattle.turning.proofs.copy.Given as goal

abbrev pub invariant-loop-i : goal.invariant-loop-i
invariant-loop-i l =
    (length l.out ≡ length l.fn.out)
    × ((f : List ℕ) → Front l.to f l.fn.out → ((j : ℕ) → j < l.count → get_or l.from (l.at + j) 0 ≡ get_or f (l.to + j) 0) → Front (l.to + l.i) f l.out)
