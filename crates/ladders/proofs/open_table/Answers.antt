-- `ladders::open_table` meets its contract: what comes of the rows is written. Assumes nothing.
use mathlib.Core.Logic.{inr}
use native.Mathlib.Omega.{arith}
use Rattle.ladders.proofs.Laws.{rows_done}
use Rattle.ladders.proofs.open_table.Goals as goal

pub returns : goal.returns
returns c =
    let right = c.if-not-right_length.ensures in
    let comes = c.if-not-opens.ensures in
    inr (((omega arith, omega arith), right), inr (comes, rows_done _ comes c.open_rows.ensures.book c.open_rows.ensures.sheet))
