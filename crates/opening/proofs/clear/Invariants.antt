-- `opening::clear` meets its contract: the machines passed, and then the nodes passed, are unused. Assumes nothing.
use Rattle.definitions.specs.Limits.{machines}
use Rattle.definitions.specs.Book.{tree_of}
use Rattle.opening.proofs.Blank.{Cleared}
use Rattle.opening.proofs.clear.Given as goal

abbrev pub invariant-loop-m : goal.invariant-loop-m
invariant-loop-m l = Cleared (tree_of l.book) l.m 0

abbrev pub invariant-loop-n : goal.invariant-loop-n
invariant-loop-n l = Cleared (tree_of l.book) machines l.n
