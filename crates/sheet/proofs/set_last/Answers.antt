-- `sheet::set_last` meets its contract: a machine's last nodes stand after its exit costs. Assumes nothing.
use Rattle.sheet.proofs.Stores.{last_store}
use Rattle.sheet.proofs.set_last.Goals as goal

pub returns : goal.returns
returns c =
    let w = c.set_machine_row_word.ensures in
    let a = c.args in
    rw w (last_store a.sheet.now a.m a.x a.v c.requires.0 c.requires.1 c.requires.2)
