-- `judging::refined` meets its contract: a word says whether a number is there. Assumes nothing.
use Rattle.judging.proofs.Laws.{refined_told}
use Rattle.judging.proofs.refined.Goals as goal

pub returns : goal.returns
returns c =
    refined_told c.args.book.now c.requires.0 c.args.n c.below.ensures
