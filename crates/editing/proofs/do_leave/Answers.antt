-- `editing::do_leave` meets its contract: the machines over the start node are marked, and the charge is written. Assumes nothing.
use Rattle.editing.proofs.Done.{leave_done, leave_taken, start_used}
use Rattle.editing.proofs.do_leave.Goals as goal

pub start-requires : goal.start-requires
start-requires c =
    (c.requires.formed.length, (leave_taken c.requires).machine_range)

pub touch-requires : goal.touch-requires
touch-requires c =
    (c.requires.formed, c.requires.filled, start_used c.requires.formed.sound c.args.m (leave_taken c.requires).machine_used c.start.ensures)

pub set_leave-requires : goal.set_leave-requires
set_leave-requires c =
    (c.requires.formed.length, (leave_taken c.requires).machine_range)

pub returns : goal.returns
returns c =
    leave_done c.requires c.start.ensures c.touch.ensures c.set_leave.ensures
