-- `refreshing::tables` meets its contract: the entries passed have the moves of the nodes at their places. Assumes nothing.
use Rattle.definitions.specs.Book.{tree_of}
use Rattle.definitions.specs.Sheet.{rows_of}
use Rattle.search.specs.Parts.{at}
use Rattle.search.proofs.Tables.{EntriesTo}
use Rattle.refreshing.specs.Parts.{member_move}
use Rattle.refreshing.proofs.tables.Given as goal

abbrev pub invariant-loop-j : goal.invariant-loop-j
invariant-loop-j l = EntriesTo (member_move (tree_of l.book) (rows_of l.sheet) (at l.members) (at l.places)) l.j l.target l.price
