-- `turning::turn_by_command` meets its contract: the sections of a book by command, one after the other. Assumes nothing.
use mathlib.Core.Path.{sym, ◌∙◌}
use Rattle.definitions.specs.ByCommand.{by_command}
use Rattle.definitions.proofs.Turned.{command_length, command_front, command_behind}
use Rattle.turning.proofs.Laws.{front_all, at_zero}
use Rattle.turning.proofs.turn_by_command.Goals as goal

pub owners-requires : goal.owners-requires
owners-requires c =
    let ws = c.args.from.now in
    (c.requires.0, c.copy.ensures (by_command ws) c.all_commands.ensures (λ i h. at_zero ws i ∙ sym (command_front ws c.requires.0 i h)))

pub returns : goal.returns
returns c =
    let ws = c.args.from.now in
    front_all (sym (command_length ws c.requires.0))
    (c.copy-2.ensures (by_command ws) c.owners.ensures (λ i h. sym (command_behind ws c.requires.0 i)))
