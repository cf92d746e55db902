-- `editing::do_arrow` meets its contract: the machines over the node are marked, and one transition is written. Assumes nothing.
use native.Mathlib.Omega.{arith}
use Rattle.editing.proofs.Done.{arrow_done, arrow_taken, arrow_used}
use Rattle.editing.proofs.do_arrow.Goals as goal

pub touch-requires : goal.touch-requires
touch-requires c =
    (c.requires.0.formed, c.requires.0.filled, arrow_used c.requires.0)

pub overflow_mul-v : goal.overflow_mul-v
overflow_mul-v c =
    omega (arith, c.requires.1, (arrow_taken c.requires.0).target_range)

pub overflow_add-v : goal.overflow_add-v
overflow_add-v c =
    omega (arith, c.requires.1, (arrow_taken c.requires.0).target_range)

pub set_transition-requires : goal.set_transition-requires
set_transition-requires c =
    let taken = arrow_taken c.requires.0 in
    (c.requires.0.formed.length, taken.node_range, taken.command_range)

pub returns : goal.returns
returns c =
    arrow_done c.requires.0 c.requires.1 c.touch.ensures c.set_transition.ensures
