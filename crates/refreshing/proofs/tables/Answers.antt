-- `refreshing::tables` meets its contract: the entries passed have the moves of the nodes at their places. Assumes nothing.
use native.Mathlib.Omega.{arith}
use Rattle.search.proofs.Tables.{entries_more}
use Rattle.refreshing.proofs.tables.Goals as goal

pub loop-j-preserved : goal.loop-j-preserved
loop-j-preserved c =
    entries_more c.loop-j.invariant c.table_entry-e.result.target c.table_entry-e.result.price (omega (arith, c.requires.1.1.many))
    (rw c.word.ensures at c.table_entry-e.ensures)
