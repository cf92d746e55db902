-- `marking::touch` meets its contract: nothing is done where the first machine is stale already; else those over n that are not are
-- marked, and then their nodes' rows are blanked. Assumes nothing.
use Rattle.marking.proofs.Climb.{machine_range, idle_told, touched_told}
use Rattle.marking.proofs.touch.Goals as goal

pub stale-requires : goal.stale-requires
stale-requires c =
    (c.requires.1.length, machine_range c.args.book.now c.requires.0 c.requires.1 c.args.n c.requires.2 c.owner-m.ensures)

pub returns-then-stale-eq1 : goal.returns-then-stale-eq1
returns-then-stale-eq1 c =
    idle_told c.args.book.now c.requires.0 c.requires.1 c.args.n c.requires.2 c.owner-m.ensures c.stale.ensures
    c.if-stale-eq1.true

pub returns : goal.returns
returns c =
    touched_told c.args.book.now c.requires.0 c.args.n c.requires.2 c.mark_over-list.result c.requires.1 c.mark_over-list.ensures
    c.blank_nodes.ensures
