-- `expanding::trace` meets its contract: the steps are noted one by one, and there is room for each. Assumes nothing.
use native.Mathlib.Omega.{arith}
use Rattle.expanding.proofs.Tracing.{tracing_none, tracing_room, tracing_next, tracing_over, tracing_noted, tracing_done}
use Rattle.expanding.proofs.trace.Goals as goal

pub loop-n-init : goal.loop-n-init
loop-n-init c =
    tracing_none c.requires.2 c.requires.3 c.requires.4

pub returns-then-u-eq-ABSENT : goal.returns-then-u-eq-ABSENT
returns-then-u-eq-ABSENT c =
    let now = c.loop-n.invariant in
    tracing_done now (tracing_over now c.name-u.ensures c.if-u-eq-ABSENT.true)

pub note-requires : goal.note-requires
note-requires c =
    let now = c.loop-n.invariant in
    let room = tracing_room now (tracing_next now c.name-u.ensures c.if-u-eq-ABSENT.false) in
    (omega (arith, now.steps.left_room), omega (arith, now.steps.given_room))

pub loop-n-smaller : goal.loop-n-smaller
loop-n-smaller c =
    let now = c.loop-n.invariant in
    omega (arith, tracing_room now (tracing_next now c.name-u.ensures c.if-u-eq-ABSENT.false))

pub loop-n-preserved : goal.loop-n-preserved
loop-n-preserved c =
    let now = c.loop-n.invariant in
    tracing_noted now (tracing_next now c.name-u.ensures c.if-u-eq-ABSENT.false) c.name.ensures
    c.note.ensures.0 c.note.ensures.1
