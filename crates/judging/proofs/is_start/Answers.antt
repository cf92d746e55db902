-- `judging::is_start` meets its contract: the start node of the owner is the node. Assumes nothing.
use Rattle.stepping.proofs.Laws.{owner_told}
use Rattle.judging.proofs.Laws.{start_told}
use Rattle.judging.proofs.is_start.Goals as goal

pub start-requires : goal.start-requires
start-requires c =
    (c.requires.0.length, (owner_told c.args.book.now c.requires.0 c.args.n c.requires.1 c.owner.ensures).1)

pub returns : goal.returns
returns c =
    start_told c.args.book.now c.requires.0 c.args.n c.requires.1 c.owner.ensures c.start.ensures
