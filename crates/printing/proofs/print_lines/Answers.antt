-- `printing::print_lines` meets its contract: each turn goes on further in the input, on a well-formed book and a true sheet, and has one line
-- more; at the end the turns made are all of them. Assumes nothing.
use mathlib.Core.Path.{◌∙◌}
use Rattle.printing.proofs.Runs.{run_on, run_over}
use Rattle.printing.proofs.print_lines.Goals as goal

pub loop-size-preserved : goal.loop-size-preserved
loop-size-preserved c = let i = c.loop-size.invariant in (c.next_line.auto.list ∙ i.0, run_on i.1 c.in-Some.ensures)

pub returns : goal.returns
returns c = run_over c.loop-size.invariant.1 c.in_default.ensures
