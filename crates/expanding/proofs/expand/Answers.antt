-- `expanding::expand` meets its contract: the steps traced from b are the plan's, and their commands stand at the front. Assumes nothing.
use mathlib.Core.Path.{ap, subst}
use native.Mathlib.Omega.{arith}
use lib.ListN.{length}
use Rattle.expanding.specs.Expanding.{CommandsWritten}
use Rattle.expanding.proofs.Writing.{written_front}
use Rattle.expanding.proofs.Short.{plan_steps}
use Rattle.expanding.proofs.expand.Goals as goal

pub expand_path-end-requires : goal.expand_path-end-requires
expand_path-end-requires c =
    let p = c.requires in
    let (same, short) = plan_steps c.args.before.now c.args.by.now p.0 c.trace-count.ensures in
    (p.0, c.trace-count.ensures.steps, omega (arith, p.4, ap length same))

pub overflow_cast-result : goal.overflow_cast-result
overflow_cast-result c =
    let (same, short) = plan_steps c.args.before.now c.args.by.now c.requires.0 c.trace-count.ensures in
    omega (arith, c.expand_path-end.ensures.next_place, ap length same, short)

pub returns : goal.returns
returns c =
    let (same, short) = plan_steps c.args.before.now c.args.by.now c.requires.0 c.trace-count.ensures in
    written_front (subst (CommandsWritten _ _ _ _) same c.expand_path-end.ensures) c.requires.4
