-- `refreshing::machine_level` meets its contract: the machines passed and the level of the last of them make up the level. Assumes nothing.
use native.Mathlib.Omega.{arith}
use Rattle.refreshing.proofs.Levels.{level_unused, climbed_first, climbed_top}
use Rattle.refreshing.proofs.Levels.{climbed_holder, climbed_below, climbed_up}
use Rattle.refreshing.proofs.machine_level.Goals as goal

pub returns-then-start-eq-ABSENT : goal.returns-then-start-eq-ABSENT
returns-then-start-eq-ABSENT c =
    level_unused c.requires.0.sound c.args.m c.start.ensures c.if-start-eq-ABSENT.true

pub loop-m-init : goal.loop-m-init
loop-m-init c = climbed_first c.start.ensures c.if-start-eq-ABSENT.false

pub returns-then-h-eq-ABSENT : goal.returns-then-h-eq-ABSENT
returns-then-h-eq-ABSENT c =
    climbed_top c.requires.0.sound c.loop-m.invariant c.holder-h.ensures c.if-h-eq-ABSENT.true

pub owner-p-requires : goal.owner-p-requires
owner-p-requires c =
    (c.requires.0.length, climbed_holder c.requires.0.sound c.loop-m.invariant c.holder-h.ensures c.if-h-eq-ABSENT.false)

pub overflow_add-count : goal.overflow_add-count
overflow_add-count c =
    omega (arith, climbed_below c.requires.0.sound c.loop-m.invariant c.holder-h.ensures c.if-h-eq-ABSENT.false)

pub loop-m-smaller : goal.loop-m-smaller
loop-m-smaller c =
    omega (arith, climbed_below c.requires.0.sound c.loop-m.invariant c.holder-h.ensures c.if-h-eq-ABSENT.false)

pub loop-m-preserved : goal.loop-m-preserved
loop-m-preserved c =
    climbed_up c.requires.0.sound c.loop-m.invariant c.holder-h.ensures c.if-h-eq-ABSENT.false c.owner-p.ensures
