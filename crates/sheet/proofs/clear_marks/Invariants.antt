-- `sheet::clear_marks` meets its contract: the marks of the machines passed are 0. Assumes nothing.
use Prim.Native.Nat.{ℕ, ◌<◌}
use Rattle.sheet.specs.Fields.{IsMark}
use Rattle.sheet.proofs.clear_marks.Given as goal

abbrev pub invariant-loop-m : goal.invariant-loop-m
invariant-loop-m l = (i : ℕ) → i < l.m → IsMark l.sheet i
