-- `flattening::inherit_all` meets its contract: the machines of the levels passed have their rows. Assumes nothing.
use Rattle.definitions.specs.Book.{tree_of}
use Rattle.flattening.specs.Flattening.{LevelRows}
use Rattle.flattening.proofs.inherit_all.Given as goal

abbrev pub invariant-loop-l : goal.invariant-loop-l
invariant-loop-l l = LevelRows (tree_of l.book) l.lands l.up l.l
