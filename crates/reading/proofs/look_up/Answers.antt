-- `reading::look_up` meets its contract: the opcode has no place, one behind the column's end, or one in the column. Assumes nothing.
use mathlib.Core.Path.{sym}
use Prim.Native.Nat.{◌<◌}
use lib.ListN.{length}
use native.Mathlib.Omega.{arith}
use Rattle.std.proofs.lemmas.Grind.{common_steps}
use Rattle.reading.proofs.Column.{entry_in, entry_behind, no_entry}
use Rattle.reading.proofs.look_up.Goals as goal

pub returns-in_err-locate : goal.returns-in_err-locate
returns-in_err-locate c =
    let a = c.args in
    rw c.from_residual.ensures (sym (no_entry a.column.now a.op (sym c.in_err-locate.ensures)))

pub returns-in_err-size : goal.returns-in_err-size
returns-in_err-size c =
    let a = c.args in
    rw c.from_residual-in_err-size.ensures (sym (entry_behind a.column.now a.op (sym c.in_ok-locate.ensures) (grind (arith, common_steps, c.in_err-size.ensures))))

pub returns : goal.returns
returns c =
    let inside : c.in_ok-locate.field-0 < length c.args.column.now = grind (arith, common_steps, c.in_ok-size.ensures) in
    let e = entry_in c.args.column.now c.args.op (sym c.in_ok-locate.ensures) inside in
    grind (arith, common_steps, c.in_ok-size.ensures.lookup.1)
