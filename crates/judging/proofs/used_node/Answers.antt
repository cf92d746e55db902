-- `judging::used_node` meets its contract: a word says whether a number is there. Assumes nothing.
use Rattle.judging.proofs.Laws.{node_told}
use Rattle.judging.proofs.used_node.Goals as goal

pub returns : goal.returns
returns c =
    node_told c.args.book.now c.requires.0 c.args.n c.owner.ensures
