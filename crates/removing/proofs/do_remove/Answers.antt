-- `removing::do_remove` meets its contract: marking first, then the list of the machines that go, then the nodes, and last those machines.
-- Assumes nothing.
use Rattle.removing.proofs.Done.{remove_taken, remove_done}
use Rattle.removing.proofs.do_remove.Goals as goal

pub touch-requires : goal.touch-requires
touch-requires c =
    (c.requires.formed, c.requires.filled, (remove_taken c.requires).node_used)

pub remove_nodes-requires : goal.remove_nodes-requires
remove_nodes-requires c =
    (c.requires.formed, c.touch.ensures.length, (remove_taken c.requires).node_used, c.machines_within-gone.ensures)

pub returns : goal.returns
returns c =
    remove_done c.requires c.touch.ensures c.machines_within-gone.result c.machines_within-gone.ensures
    c.remove_nodes.ensures
    c.clear_machines.ensures
