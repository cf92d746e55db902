-- `judging::judge` meets its contract: each command by its own function, and refresh is always taken. Assumes nothing.
use Rattle.judging.proofs.judge.Goals as goal

pub returns-in-Begin : goal.returns-in-Begin
returns-in-Begin c = rw c.in-Begin.is (c.judge_begin.ensures _)

pub returns-in-Arrow : goal.returns-in-Arrow
returns-in-Arrow c = rw c.in-Arrow.is (c.judge_arrow.ensures _)

pub returns-in-Leave : goal.returns-in-Leave
returns-in-Leave c = rw c.in-Leave.is (c.judge_leave.ensures _)
