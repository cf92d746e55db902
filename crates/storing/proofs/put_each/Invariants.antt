-- `storing::put_each` meets its contract. The loop's invariant: the pieces before `i` are stored. Assumes nothing.
use mathlib.Core.List.{List}
use Prim.Native.Nat.{ℕ}
use Rattle.definitions.specs.Basics.{joined}
use Rattle.storing.specs.Stored.{Stored, StoresEach}
use Rattle.storing.proofs.put_each.Given as goal

abbrev pub invariant-loop-i : goal.invariant-loop-i
invariant-loop-i g l =
    (piece : ℕ → List g.row.T.Denot) → StoresEach g.F.Fn l.fn.step piece l.fn.count l.fn.at
    → Stored l.fn.out l.fn.at (joined l.i piece) l.p l.out
