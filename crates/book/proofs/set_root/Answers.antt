-- `book::set_root` meets its contract: the root is the first word. Assumes nothing.
use Rattle.book.proofs.Stores.{root_holds}
use Rattle.book.proofs.set_root.Goals as goal

pub returns : goal.returns
returns c = root_holds c.args.book.now c.args.m c.requires
