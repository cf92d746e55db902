-- `opening::open_sheet` meets its contract: the rows of the machines passed, and then of the nodes passed, are an opening's. Assumes nothing.
use Rattle.definitions.specs.Limits.{machines}
use Rattle.definitions.specs.Book.{tree_of}
use Rattle.definitions.specs.Sheet.{rows_of}
use Rattle.sheet.specs.Fields.{Marks}
use Rattle.opening.proofs.Blank.{Opened}
use Rattle.opening.proofs.open_sheet.Given as goal

abbrev pub invariant-loop-m : goal.invariant-loop-m
invariant-loop-m l = Marks l.sheet × Opened (tree_of l.book) (rows_of l.sheet) l.m 0

abbrev pub invariant-loop-n : goal.invariant-loop-n
invariant-loop-n l = Marks l.sheet × Opened (tree_of l.book) (rows_of l.sheet) machines l.n
