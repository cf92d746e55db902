-- `beginning::do_begin` meets its contract: all is emptied, and then root, start node, owner and mark are written. Assumes nothing.
use Rattle.beginning.proofs.Laws.{begin_done}
use Rattle.beginning.proofs.do_begin.Goals as goal

pub returns : goal.returns
returns c =
    begin_done c.args.m c.args.n c.requires.2 c.requires.3 c.args.book.now c.args.sheet.now c.empty.ensures
    c.set_root.ensures c.set_start.ensures c.set_owner.ensures c.set_stale.ensures
