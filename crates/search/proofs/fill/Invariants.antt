-- `search::fill` meets its contract: below the node in hand the words are blank, and from it on they are as they were. Assumes nothing.
use Rattle.definitions.specs.Limits.{absent}
use Rattle.search.specs.Search.{unreached}
use Rattle.search.specs.Parts.{at}
use Rattle.search.proofs.Filling.{Upto}
use Rattle.search.proofs.fill.Given as goal

abbrev pub invariant-loop-v : goal.invariant-loop-v
invariant-loop-v l =
    Upto unreached l.v (at l.initial.dist) (at l.dist)
    × Upto absent l.v (at l.initial.before) (at l.before)
    × Upto absent l.v (at l.initial.by) (at l.by)
