-- `sheet::set_stale` meets its contract: the mark is the first word of a machine's row. Assumes nothing.
use Rattle.sheet.proofs.Stores.{mark_store}
use Rattle.sheet.proofs.set_stale.Goals as goal

pub returns : goal.returns
returns c =
    let w = c.set_machine_row_word.ensures in
    let a = c.args in
    rw w (mark_store a.sheet.now a.m a.b c.requires.0 c.requires.1 c.requires.2)
