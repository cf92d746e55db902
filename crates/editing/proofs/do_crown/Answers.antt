-- `editing::do_crown` meets its contract: the new machine is marked, and five words of the book are written. Assumes nothing.
use native.Mathlib.Omega.{arith}
use Rattle.editing.proofs.Done.{crown_done, crown_taken, root_range}
use Rattle.editing.proofs.do_crown.Goals as goal

pub set_stale-requires : goal.set_stale-requires
set_stale-requires c =
    (c.requires.filled.length, (crown_taken c.requires).machine_range, omega arith)

pub set_owner-requires : goal.set_owner-requires
set_owner-requires c =
    (c.requires.formed.length, (crown_taken c.requires).node_range)

pub set_below-requires : goal.set_below-requires
set_below-requires c =
    (c.set_owner.ensures.length, (crown_taken c.requires).node_range)

pub set_start-requires : goal.set_start-requires
set_start-requires c =
    (c.set_below.ensures.length, (crown_taken c.requires).machine_range)

pub set_holder-requires : goal.set_holder-requires
set_holder-requires c =
    (c.set_start.ensures.length, root_range c.requires c.root-old.ensures)

pub returns : goal.returns
returns c =
    crown_done c.requires
    c.set_stale.ensures c.root-old.ensures c.set_owner.ensures c.set_below.ensures
    c.set_start.ensures c.set_holder.ensures c.set_root.ensures
