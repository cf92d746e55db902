-- `lines::put_no` meets its contract: the parts of the line one after the other. Assumes nothing.
use Prim.Native.Nat.{◌<◌, ◌^◌}
use native.Mathlib.Omega.{arith}
use Rattle.lines.proofs.Digits.{decimal_length}
use Rattle.lines.proofs.Written.{no_written}
use Rattle.lines.proofs.put_no.Goals as goal

pub put-requires : goal.put-requires
put-requires c =
    omega (
      arith,
      c.put-second.ensures.place,
      c.put-refusal.ensures.place,
      c.put_number-last.ensures.place,
      decimal_length c.from.result (omega arith),
    )

pub returns : goal.returns
returns c =
    let small : c.from.result < 2 ^ 32 = omega arith in
    rw (← c.number.ensures, ← c.from.ensures)
    (no_written c.requires c.from.result small c.put-second.ensures c.put-refusal.ensures c.put_number-last.ensures c.put.ensures)
