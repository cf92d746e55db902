-- `search::pick` meets its contract: best is the place of a nearest node among those passed. Assumes nothing.
use Rattle.search.specs.Parts.{at}
use Rattle.search.proofs.Picking.{Best}
use Rattle.search.proofs.pick.Given as goal

abbrev pub invariant-loop-i : goal.invariant-loop-i
invariant-loop-i l = Best (at l.dist) (at l.order) l.n l.i l.best l.least
