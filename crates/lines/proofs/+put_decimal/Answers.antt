-- `lines::put_decimal` meets its contract: a number under 10 is one digit, and another is its tenth and then its last. Assumes nothing.
use Rattle.std.proofs.Common.{◌/◌, sym, arith}
use Rattle.storing.proofs.Laws.{stored_is, stored_then}
use Rattle.lines.proofs.Digits.{decimal_one, decimal_on, decimal_short}
use Rattle.lines.proofs.+put_decimal.Goals as goal

pub returns-then-n-lt10 : goal.returns-then-n-lt10
returns-then-n-lt10 t c = stored_is c.put.ensures (sym (decimal_one c.args.n c.if-n-lt10.true))

pub put-requires-2 : goal.put-requires-2
put-requires-2 t c =
    let n = c.args.n in
    omega (arith, c.put_decimal-last.ensures.place, decimal_short 18 (n / 10) (omega (arith, c.ranges.n)), c.requires)

pub returns : goal.returns
returns t c =
    stored_is (stored_then c.put_decimal-last.ensures c.put-2.ensures) (sym (decimal_on c.args.n c.ranges.n.fits c.if-n-lt10.false))
