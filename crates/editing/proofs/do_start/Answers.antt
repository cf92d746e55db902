-- `editing::do_start` meets its contract: the machines over the node are marked, and its machine gets it for its start. Assumes nothing.
use Rattle.editing.proofs.Done.{start_done, start_owner, start_taken}
use Rattle.editing.proofs.do_start.Goals as goal

pub touch-requires : goal.touch-requires
touch-requires c =
    (c.requires.formed, c.requires.filled, (start_taken c.requires).node_used)

pub owner-m-requires : goal.owner-m-requires
owner-m-requires c =
    (c.requires.formed.length, (start_taken c.requires).node_range)

pub set_start-requires : goal.set_start-requires
set_start-requires c =
    (c.requires.formed.length, (start_owner c.requires c.owner-m.ensures).1)

pub returns : goal.returns
returns c =
    start_done c.requires c.owner-m.ensures c.touch.ensures c.set_start.ensures
