-- `numbering::after` meets its contract: the number of the next rank is the lowest one past it. Assumes nothing.
use Rattle.numbering.proofs.Laws.{ranked_after, none_after}
use Rattle.numbering.proofs.after.Goals as goal

pub returns-then-k-list : goal.returns-then-k-list
returns-then-k-list c =
    λ j at. ranked_after c.args.list.now c.args.v j c.args.k c.next_from.result c.requires c.if-k-list.true c.next_from.ensures at

pub returns : goal.returns
returns c =
    λ j at. none_after c.args.list.now c.args.v j c.args.k c.if-k-list.false at
