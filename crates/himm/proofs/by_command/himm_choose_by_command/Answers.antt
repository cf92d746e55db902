-- `himm::by_command::himm_choose_by_command` meets its contract: what `bycommand::choice` says, stored. Assumes nothing.
use Rattle.definitions.specs.ByCommand.{by_node}
use Rattle.himm.proofs.Laws.{choice_fits}
use Rattle.himm.proofs.by_command.himm_choose_by_command.Goals as goal

pub chosen-requires : goal.chosen-requires
chosen-requires c =
    let a = c.args in
    choice_fits (by_node a.book.now) a.from a.to a.first.now a.second.now c.choice.result c.choice.ensures
