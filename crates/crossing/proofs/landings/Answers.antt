-- `crossing::landings` meets its contract: a node that holds none of the opened machines lands where it is, and the two walks pass the others.
-- Assumes nothing.
use mathlib.Core.Path.{◌∙◌}
use Rattle.crossing.proofs.Landing.{landings_both}
use Rattle.crossing.proofs.landings.Goals as goal

pub returns : goal.returns
returns c =
    landings_both c.args.book.now c.requires.0 c.args.opened.now c.args.a c.args.b c.requires.4
    (c.land_above-2.auto.lands ∙ c.land_above.auto.lands ∙ c.itself.auto.lands ∙ c.requires.5) c.itself.ensures
    c.land_above.ensures c.land_above-2.ensures
