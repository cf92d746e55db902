-- `editing::do_clear` meets its contract: the machines over the node are marked, and one transition is cleared. Assumes nothing.
use Rattle.editing.proofs.Done.{clear_done, clear_taken}
use Rattle.editing.proofs.do_clear.Goals as goal

pub touch-requires : goal.touch-requires
touch-requires c =
    (c.requires.formed, c.requires.filled, (clear_taken c.requires).node_used)

pub set_transition-requires : goal.set_transition-requires
set_transition-requires c =
    let taken = clear_taken c.requires in
    (c.requires.formed.length, taken.node_range, taken.command_range)

pub returns : goal.returns
returns c =
    clear_done c.requires c.touch.ensures c.set_transition.ensures
