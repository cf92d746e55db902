-- `sheet::blank_machine_row` meets its contract: after each turn the row is blank below command x. Assumes nothing.
use Rattle.sheet.specs.Fields.{Leaves}
use Rattle.sheet.proofs.Stores.{blanked_to}
use Rattle.sheet.proofs.blank_machine_row.Given as goal

abbrev pub invariant-loop-x : goal.invariant-loop-x
invariant-loop-x l = Leaves l.initial.sheet l.sheet (blanked_to l.initial.sheet l.m l.x)
