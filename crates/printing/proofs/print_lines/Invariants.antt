-- `printing::print_lines` meets its contract: each turn goes on further in the input, on a well-formed book and a true sheet, and has one line
-- more; at the end the turns made are all of them. Assumes nothing.
use mathlib.Core.Path.{◌≡◌}
use Prim.Native.Nat.{◌-◌}
use lib.ListN.{length}
use Rattle.definitions.specs.Book.{tree_of}
use Rattle.definitions.specs.Sheet.{rows_of}
use Rattle.lines.specs.Meaning.{longest_line}
use Rattle.printing.proofs.Runs.{Running}
use Rattle.printing.proofs.print_lines.Given as goal

abbrev pub invariant-loop-size : goal.invariant-loop-size
invariant-loop-size l =
    (length l.line ≡ longest_line) × Running l.input (tree_of l.initial.book) (rows_of l.initial.sheet) l.count l.at l.book l.sheet

abbrev pub decreases-loop-size : goal.decreases-loop-size
decreases-loop-size l = length l.input - l.at
