-- `sheet::clear_marks` meets its contract: the marks of the machines passed are 0. Assumes nothing.
use mathlib.Core.Path.{sym, subst}
use mathlib.Core.List.{List}
use Prim.Native.Nat.{ℕ}
use native.Mathlib.Omega.{arith}
use Rattle.sheet.specs.Fields.{IsMark}
use Rattle.sheet.proofs.Stores.{mark_put}
use Rattle.sheet.proofs.clear_marks.Goals as goal

pub loop-m-preserved : goal.loop-m-preserved
loop-m-preserved c =
    let loop = c.loop-m in
    λ i h.
    subst (λ (ws : List ℕ). IsMark ws i) (sym c.set_machine_row_word.ensures)
    (mark_put loop.sheet loop.m 0 (omega arith) (omega arith) (omega arith) i (λ other. loop.invariant i (omega arith)))
