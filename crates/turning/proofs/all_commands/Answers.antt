-- `turning::all_commands` meets its contract. The loop's invariant: the words of commands under x are written. Assumes nothing.
use mathlib.Core.Path.{sym, ◌∙◌}
use Rattle.definitions.proofs.Turned.{command_length}
use Rattle.turning.proofs.Laws.{front_none}
use Rattle.turning.proofs.all_commands.Goals as goal

pub loop-x-init : goal.loop-x-init
loop-x-init c = front_none (c.requires.1 ∙ sym (command_length c.args.from.now c.requires.0))
