-- `sheet::blank_node_row` meets its contract: three stores, one after the other. Assumes nothing.
use mathlib.Core.Option.{none}
use Rattle.definitions.specs.Book.{number}
use Rattle.definitions.specs.Sheet.{cost_of}
use Rattle.sheet.specs.Fields.{with_before, with_by}
use Rattle.sheet.proofs.Stores.{leaves_then}
use Rattle.sheet.proofs.blank_node_row.Goals as goal

pub returns : goal.returns
unfolding cost_of number
returns c =
    let n = c.args.n in
    leaves_then (λ r. with_by r n none)
    (leaves_then (λ r. with_before r n none) c.set_cost.ensures c.set_before.ensures)
    c.set_by.ensures
