-- `sheet::last` meets its contract: a machine's last nodes stand after its exit costs. Assumes nothing.
use mathlib.Core.Path.{◌∙◌}
use Rattle.sheet.proofs.Stores.{last_word}
use Rattle.sheet.proofs.last.Goals as goal

pub returns : goal.returns
returns c =
    c.machine_row_word.ensures ∙ last_word c.args.sheet.now c.args.m c.args.x c.requires.1 c.requires.2
