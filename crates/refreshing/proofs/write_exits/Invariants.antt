-- `refreshing::write_exits` meets its contract: the exits for the commands passed are written. Assumes nothing.
use Rattle.definitions.specs.Book.{tree_of}
use Rattle.refreshing.specs.Parts.{ExitsWritten}
use Rattle.refreshing.proofs.write_exits.Given as goal

abbrev pub invariant-loop-x : goal.invariant-loop-x
invariant-loop-x l = ExitsWritten (tree_of l.book) l.m l.k l.x l.members l.dist l.initial.sheet l.sheet
