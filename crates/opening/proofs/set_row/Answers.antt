-- `opening::set_row` meets its contract: its stores are those of one row more. Assumes nothing.
use native.Mathlib.Numerals.{add-one}
use Rattle.opening.proofs.Growth.{row_written}
use Rattle.opening.proofs.set_row.Goals as goal

pub returns : goal.returns
returns c =
    let owner = c.row-owner in
    let below = c.row-below in
    let lower = c.lower in
    rw (add-one c.args.n)
    (row_written c.args.rows.now c.args.n c.requires.1 owner.result below.result c.row.result
    lower.result owner.ensures below.ensures c.row.ensures lower.ensures c.requires.2
    c.set_owner.ensures c.set_below.ensures c.set_holder.ensures c.set_start.ensures
    c.set_link.ensures)
