-- `judging::lowest_machine` meets its contract: the start node tells. Assumes nothing.
use Rattle.judging.proofs.Laws.{no_machine_told, start_used, start_lowest}
use Rattle.judging.proofs.lowest_machine.Goals as goal

pub returns-then-s-eq-ABSENT : goal.returns-then-s-eq-ABSENT
returns-then-s-eq-ABSENT c =
    no_machine_told c.args.book.now c.requires.0 c.args.m c.start-s.ensures c.if-s-eq-ABSENT.true

pub lowest-requires : goal.lowest-requires
lowest-requires c =
    (c.requires.0, start_used c.args.book.now c.requires.0 c.args.m c.start-s.ensures c.if-s-eq-ABSENT.false)

pub returns : goal.returns
returns c =
    start_lowest c.args.book.now c.requires.0 c.args.m c.start-s.ensures c.if-s-eq-ABSENT.false c.lowest.ensures
