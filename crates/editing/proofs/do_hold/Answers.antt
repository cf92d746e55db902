-- `editing::do_hold` meets its contract: the machines over the node are marked, and its hold is written. Assumes nothing.
use Rattle.editing.proofs.Done.{hold_done, hold_taken}
use Rattle.editing.proofs.do_hold.Goals as goal

pub touch-requires : goal.touch-requires
touch-requires c =
    (c.requires.formed, c.requires.filled, (hold_taken c.requires).node_used)

pub set_hold-requires : goal.set_hold-requires
set_hold-requires c =
    let taken = hold_taken c.requires in
    (c.requires.formed.length, taken.node_range)

pub returns : goal.returns
returns c =
    hold_done c.requires c.touch.ensures c.set_hold.ensures
