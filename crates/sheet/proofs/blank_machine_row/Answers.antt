-- `sheet::blank_machine_row` meets its contract: after each turn the row is blank below command x. Assumes nothing.
use native.Mathlib.Omega.{arith}
use Rattle.definitions.specs.Book.{number}
use Rattle.definitions.specs.Sheet.{cost_of}
use Rattle.sheet.proofs.Stores.{blanking_more, blanking_all}
use Rattle.sheet.proofs.blank_machine_row.Goals as goal

pub loop-x-preserved : goal.loop-x-preserved
unfolding cost_of number
loop-x-preserved c =
    blanking_more c.args.sheet.now c.args.m c.loop-x.x c.loop-x.invariant c.set_exit.ensures c.set_last.ensures

pub returns : goal.returns
returns c = blanking_all c.args.sheet.now c.args.m c.loop-x.x (omega arith) c.loop-x.invariant
