-- `crossing::land_above` meets its contract: of the nodes that hold a machine above the first node, those passed have where they land, and each
-- turn goes one level up. Assumes nothing.
use Rattle.definitions.specs.Tree.{level}
use Rattle.definitions.specs.Book.{tree_of}
use Rattle.crossing.specs.Parts.{is_open}
use Rattle.crossing.proofs.Landing.{LandingWalk}
use Rattle.crossing.proofs.land_above.Given as goal

abbrev pub invariant-loop-s : goal.invariant-loop-s
invariant-loop-s l = LandingWalk (tree_of l.book) (is_open l.opened) l.s l.n l.initial.lands l.lands

abbrev pub decreases-loop-s : goal.decreases-loop-s
decreases-loop-s l = level (tree_of l.book) l.n
