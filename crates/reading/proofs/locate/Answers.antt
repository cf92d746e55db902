-- `reading::locate` meets its contract: an opcode from 0x10 to 0x18, one past 0x19, 0x19, or one below 0x10. Assumes nothing.
use mathlib.Core.Path.{sym}
use native.Mathlib.Omega.{arith}
use Rattle.reading.proofs.Column.{place_from, place_on, place_below, place_gap}
use Rattle.reading.proofs.locate.Goals as goal

pub returns-in-16-to-24 : goal.returns-in-16-to-24
returns-in-16-to-24 c = sym (place_from c.args.op c.in-16-to-24.if-op-lt16-own.false c.in-16-to-24.if-op-lt25-own.true)

pub returns-in-26-to-4294967295 : goal.returns-in-26-to-4294967295
returns-in-26-to-4294967295 c =
    let other = c.in-26-to-4294967295.in_default-own.rest.1 in
    sym (place_on c.args.op (omega (arith, c.in-26-to-4294967295.if-op-lt25-own.false)))

pub returns-in-0-to-15 : goal.returns-in-0-to-15
returns-in-0-to-15 c = sym (place_gap c.args.op c.in-0-to-15.in-0-to-15-own.keys1)

pub returns-in-0-to-15-2 : goal.returns-in-0-to-15-2
returns-in-0-to-15-2 c = sym (place_below c.args.op c.in-0-to-15.if-op-lt16-own.true)
