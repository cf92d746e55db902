-- `lines::put_stop` meets its contract: the parts of the line one after the other. Assumes nothing.
use Prim.Native.Nat.{◌<◌, ◌^◌}
use native.Mathlib.Omega.{arith}
use Rattle.lines.proofs.Digits.{decimal_length}
use Rattle.lines.proofs.Written.{stop_written}
use Rattle.lines.proofs.put_stop.Goals as goal

pub put_number-last-requires : goal.put_number-last-requires
put_number-last-requires c =
    omega (
      arith,
      c.put_stop_word-refusal.ensures.place,
      c.put_number-offset.ensures.place,
      decimal_length c.from.result (omega arith),
    )

pub put-requires : goal.put-requires
put-requires c =
    omega (
      arith,
      c.put_stop_word-refusal.ensures.place,
      c.put_number-offset.ensures.place,
      c.put_number-last.ensures.place,
      decimal_length c.from.result (omega arith),
      decimal_length c.args.at c.ranges.at.fits,
    )

pub returns : goal.returns
returns c =
    let small : c.from.result < 2 ^ 32 = omega arith in
    rw (← c.number.ensures, ← c.from.ensures)
    (stop_written c.requires c.from.result c.args.at small c.ranges.at.fits c.put_stop_word-refusal.ensures
    c.put_number-offset.ensures c.put_number-last.ensures c.put.ensures)
