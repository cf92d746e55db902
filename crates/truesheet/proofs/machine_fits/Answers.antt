-- `truesheet::machine_fits` meets its contract: by its mark and by whether it is in use. Assumes nothing.
use mathlib.Core.Path.{◌≡◌}
use native.Mathlib.Omega.{arith}
use Rattle.book.proofs.Decide.{passed}
use Rattle.truesheet.proofs.Machines.{machine_unused, machine_filled, stale_unused, machine_stale}
use Rattle.std.proofs.lemmas.Bool.{not_from_true}
use Rattle.truesheet.proofs.machine_fits.Goals as goal

pub returns-then-start-eq-ABSENT : goal.returns-then-start-eq-ABSENT
returns-then-start-eq-ABSENT c =
    machine_unused c.requires.0.well_formed.sound c.args.m c.stale-mark.ensures c.start.ensures c.machine_blank.result
    c.if-mark-eq0.true c.if-start-eq-ABSENT.true c.machine_blank.ensures

pub returns-then-mark-eq0 : goal.returns-then-mark-eq0
returns-then-mark-eq0 c =
    machine_filled c.requires.0.well_formed.sound c.args.m c.stale-mark.ensures c.start.ensures c.exits_fit.result
    c.if-mark-eq0.true c.if-start-eq-ABSENT.false c.exits_fit.ensures

pub returns-then-start-eq-ABSENT-2 : goal.returns-then-start-eq-ABSENT-2
returns-then-start-eq-ABSENT-2 c =
    let one : c.stale-mark.result ≡ 1 = omega arith in
    stale_unused c.requires.0.well_formed.sound c.args.m c.stale-mark.ensures c.start-2.ensures one c.if-start-eq-ABSENT-2.true

pub returns : goal.returns
returns c =
    let one : c.stale-mark.result ≡ 1 = omega arith in
    machine_stale c.requires.0.well_formed.sound c.args.m c.stale-mark.ensures c.start-2.ensures one c.machine_blank-2.result
    c.if-start-eq-ABSENT-2.false (passed c.above_stale.result c.above_stale.ensures (not_from_true _ c.if-not-above_stale.false))
    c.machine_blank-2.ensures
