-- `sheet::stale` meets its contract: the mark is the first word of a machine's row. Assumes nothing.
use Rattle.sheet.proofs.Stores.{mark_word}
use Rattle.sheet.proofs.stale.Goals as goal

pub returns : goal.returns
returns c =
    mark_word c.args.sheet.now c.args.m c.machine_row_word.result c.requires.1 c.machine_row_word.ensures
