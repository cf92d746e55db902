-- `editing::do_add` meets its contract: the machines over the start node are marked, and the new node gets its owner. Assumes nothing.
use Rattle.editing.proofs.Done.{add_done, add_taken, start_used}
use Rattle.editing.proofs.do_add.Goals as goal

pub start-requires : goal.start-requires
start-requires c =
    (c.requires.formed.length, (add_taken c.requires).machine_range)

pub touch-requires : goal.touch-requires
touch-requires c =
    (c.requires.formed, c.requires.filled, start_used c.requires.formed.sound c.args.m (add_taken c.requires).machine_used c.start.ensures)

pub set_owner-requires : goal.set_owner-requires
set_owner-requires c =
    (c.requires.formed.length, (add_taken c.requires).node_range)

pub returns : goal.returns
returns c =
    add_done c.requires c.start.ensures c.touch.ensures c.set_owner.ensures
