-- `crossing::open_above` meets its contract: what is opened, with the machines over the node in hand, stays the same, and each turn goes
-- one level up. Assumes nothing.
use Rattle.definitions.specs.Tree.{level}
use Rattle.definitions.specs.Book.{tree_of}
use Rattle.crossing.proofs.Opening.{Walking}
use Rattle.crossing.proofs.open_above.Given as goal

abbrev pub invariant-loop-s : goal.invariant-loop-s
invariant-loop-s l = Walking (tree_of l.book) l.initial.opened l.opened l.s l.n

abbrev pub decreases-loop-s : goal.decreases-loop-s
decreases-loop-s l = level (tree_of l.book) l.n
