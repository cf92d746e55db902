-- `sheet::set_exit` meets its contract: a machine's exit costs stand after its mark. Assumes nothing.
use Rattle.sheet.proofs.Stores.{exit_store}
use Rattle.sheet.proofs.set_exit.Goals as goal

pub returns : goal.returns
returns c =
    let w = c.set_machine_row_word.ensures in
    let a = c.args in
    rw w (exit_store a.sheet.now a.m a.x a.v c.requires.0 c.requires.1 c.requires.2)
