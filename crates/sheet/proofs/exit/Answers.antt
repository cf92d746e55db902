-- `sheet::exit` meets its contract: a machine's exit costs stand after its mark. Assumes nothing.
use mathlib.Core.Path.{◌∙◌}
use Rattle.sheet.proofs.Stores.{exit_word}
use Rattle.sheet.proofs.exit.Goals as goal

pub returns : goal.returns
returns c =
    c.machine_row_word.ensures ∙ exit_word c.args.sheet.now c.args.m c.args.x c.requires.1 c.requires.2
