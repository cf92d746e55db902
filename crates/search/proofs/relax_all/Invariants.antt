-- `search::relax_all` meets its contract: the moves of the commands passed are relaxed. Assumes nothing.
use Rattle.search.specs.Search.{row_move}
use Rattle.search.specs.Parts.{at, labels, Relaxed, Listing, Grown}
use Rattle.search.proofs.relax_all.Given as goal

abbrev pub invariant-loop-x : goal.invariant-loop-x
invariant-loop-x l =
    Relaxed (row_move l.target l.price l.u) l.u l.x (labels l.initial.dist l.initial.before l.initial.by) (labels l.dist l.before l.by)
    × Listing (at l.dist) (at l.order) l.listed
    × Grown (at l.initial.dist) (at l.dist) (at l.initial.order) (at l.order) l.count l.listed
