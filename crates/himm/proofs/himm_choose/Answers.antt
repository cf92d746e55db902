-- `himm::himm_choose` meets its contract: what `choosing::choice` says, stored. Assumes nothing.
use Rattle.himm.proofs.Laws.{choice_fits}
use Rattle.himm.proofs.himm_choose.Goals as goal

pub chosen-requires : goal.chosen-requires
chosen-requires c =
    let a = c.args in
    choice_fits a.book.now a.from a.to a.first.now a.second.now c.choice.result c.choice.ensures
