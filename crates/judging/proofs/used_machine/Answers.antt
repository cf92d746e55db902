-- `judging::used_machine` meets its contract: a word says whether a number is there. Assumes nothing.
use Rattle.judging.proofs.Laws.{machine_told}
use Rattle.judging.proofs.used_machine.Goals as goal

pub returns : goal.returns
returns c =
    machine_told c.args.book.now c.requires.0 c.args.m c.start.ensures
