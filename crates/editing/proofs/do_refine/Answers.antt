-- `editing::do_refine` meets its contract: the machines over the node and the new one are marked, and four words of the book are written.
-- Assumes nothing.
use native.Mathlib.Omega.{arith}
use Rattle.editing.proofs.Done.{refine_done, refine_taken}
use Rattle.editing.proofs.do_refine.Goals as goal

pub touch-requires : goal.touch-requires
touch-requires c =
    (c.requires.formed, c.requires.filled, (refine_taken c.requires).node_used)

pub set_stale-requires : goal.set_stale-requires
set_stale-requires c =
    (c.touch.ensures.length, (refine_taken c.requires).machine_range, omega arith)

pub set_owner-requires : goal.set_owner-requires
set_owner-requires c =
    (c.requires.formed.length, (refine_taken c.requires).first_range)

pub set_below-requires : goal.set_below-requires
set_below-requires c =
    (c.set_owner.ensures.length, (refine_taken c.requires).node_range)

pub set_start-requires : goal.set_start-requires
set_start-requires c =
    (c.set_below.ensures.length, (refine_taken c.requires).machine_range)

pub set_holder-requires : goal.set_holder-requires
set_holder-requires c =
    (c.set_start.ensures.length, (refine_taken c.requires).machine_range)

pub returns : goal.returns
returns c =
    refine_done c.requires
    c.touch.ensures c.set_stale.ensures c.set_owner.ensures c.set_below.ensures
    c.set_start.ensures c.set_holder.ensures
