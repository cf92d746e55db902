-- `lines::put_numbers` meets its contract: what is stored so far is the numbers passed. Assumes nothing.
use native.Mathlib.Omega.{arith}
use lib.ListN.{get_or}
use Rattle.lines.proofs.Digits.{decimal_byte}
use Rattle.lines.proofs.Written.{numbers_start, numbers_on, numbers_place}
use Rattle.lines.proofs.put_numbers.Goals as goal

pub loop-i-init : goal.loop-i-init
loop-i-init c =
    let a = c.args in
    numbers_start a.list.now a.at a.bytes.now

pub put_number-p-requires : goal.put_number-p-requires
put_number-p-requires c =
    let l = c.loop-i in
    let bytes = c.args.bytes.now in
    omega (
      arith,
      numbers_place 3 bytes l.i (omega arith) (λ j. decimal_byte (get_or bytes j 0) (omega (arith, c.shared_slice_known-in-loop-i-1.given j))) l.invariant,
    )

pub loop-i-preserved : goal.loop-i-preserved
loop-i-preserved c =
    let l = c.loop-i in
    numbers_on c.args.bytes.now l.i (omega arith) l.invariant c.from.ensures c.put_number-p.ensures
