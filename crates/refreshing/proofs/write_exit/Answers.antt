-- `refreshing::write_exit` meets its contract: the cheapest way out, in its two words. Assumes nothing.
use Rattle.refreshing.proofs.Exits.{exit_fits}
use Rattle.refreshing.proofs.write_exit.Goals as goal

pub cost_word-requires : goal.cost_word-requires
cost_word-requires c =
    let p = c.requires in
    exit_fits p.3 p.2 c.cheapest-way.ensures
