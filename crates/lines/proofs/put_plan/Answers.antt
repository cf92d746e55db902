-- `lines::put_plan` meets its contract: the parts of the line one after the other. Assumes nothing.
use native.Mathlib.Omega.{arith}
use lib.ListN.{get_or}
use Rattle.lines.proofs.Digits.{decimal_short, decimal_byte}
use Rattle.lines.proofs.Written.{numbers_place, plan_written}
use Rattle.lines.proofs.put_plan.Goals as goal

pub put_number-listed-requires : goal.put_number-listed-requires
put_number-listed-requires c =
    omega (arith, c.put_decimal-counted.ensures.place, decimal_short 9 c.args.cost (omega (arith, c.ranges.cost)))

pub put_numbers-last-requires : goal.put_numbers-last-requires
put_numbers-last-requires c =
    (omega (arith, c.put_decimal-counted.ensures.place, c.put_number-listed.ensures.place, decimal_short 9 c.args.cost (omega (arith, c.ranges.cost)), decimal_short 2 c.args.count (omega (arith, c.requires.1))), c.requires.1, c.requires.2)

pub put-requires : goal.put-requires
put-requires c =
    let bytes = c.args.commands.now in
    let byte = c.shared_slice_known-1.given in
    omega (
      arith,
      c.put_decimal-counted.ensures.place,
      c.put_number-listed.ensures.place,
      decimal_short 9 c.args.cost (omega (arith, c.ranges.cost)),
      decimal_short 2 c.args.count (omega (arith, c.requires.1)),
      numbers_place 3 bytes c.args.count c.requires.2 (λ j. decimal_byte (get_or bytes j 0) (omega (arith, byte j))) c.put_numbers-last.ensures,
    )

pub returns : goal.returns
returns c =
    let byte = c.shared_slice_known-1.given in
    plan_written c.requires.0 c.args.cost c.args.commands.now c.args.count c.ranges.cost.fits c.requires.1 c.requires.2
    (λ j. omega (arith, byte j)) c.put_decimal-counted.ensures c.put_number-listed.ensures c.put_numbers-last.ensures
    c.put.ensures
