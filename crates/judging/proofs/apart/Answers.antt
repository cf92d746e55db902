-- `judging::apart` meets its contract: the owners of the two nodes differ or not. Assumes nothing.
use Rattle.judging.proofs.Laws.{apart_told}
use Rattle.judging.proofs.apart.Goals as goal

pub returns : goal.returns
returns c =
    apart_told c.args.book.now c.requires.0 c.args.n c.requires.1 c.args.v c.requires.2
    c.owner-2.ensures c.owner.ensures
