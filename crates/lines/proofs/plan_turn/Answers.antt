-- `lines::plan_turn` meets its contract: the plan is cut short, or its line is given. Assumes nothing.
use Rattle.lines.proofs.Turns.{plan_cut, plan_whole}
use Rattle.lines.proofs.plan_turn.Goals as goal

pub returns-then-input-at-lt-PLAN_SIZE : goal.returns-then-input-at-lt-PLAN_SIZE
returns-then-input-at-lt-PLAN_SIZE c =
    let p = c.requires in
    plan_cut p.2 p.3 c.if-input-at-lt-PLAN_SIZE.true c.stop_turn.ensures

pub returns : goal.returns
returns c =
    let p = c.requires in
    plan_whole p.2 p.3 c.if-input-at-lt-PLAN_SIZE.false c.operand_pair-a.ensures.0 c.operand_pair-b.ensures.0
    c.plan_line-size.ensures
