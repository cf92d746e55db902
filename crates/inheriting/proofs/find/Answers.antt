-- `inheriting::find` meets its contract: the node's own transition, its target landed, or what the machine inherits. Assumes nothing.
use Rattle.inheriting.proofs.Inheriting.{find_first}
use Rattle.inheriting.proofs.find.Goals as goal

pub returns : goal.returns
returns c =
    find_first c.args.book.now c.requires.0 c.args.lands.now c.args.n c.args.x c.requires.3 c.counting-w.ensures c.requires.1 _
    (c.requires.5 c.args.x c.requires.4) c.way-own.ensures c.unless_none.ensures
