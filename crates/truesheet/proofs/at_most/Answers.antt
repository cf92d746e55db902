-- `truesheet::at_most` meets its contract: a word that is not blank says its cost. Assumes nothing.
use Rattle.truesheet.proofs.Exits.{at_most_blank, at_most_decides}
use Rattle.truesheet.proofs.at_most.Goals as goal

pub returns-then-c-eq-BLANK : goal.returns-then-c-eq-BLANK
returns-then-c-eq-BLANK c = at_most_blank c.args.k c.if-c-eq-BLANK.true

pub returns : goal.returns
returns c = at_most_decides c.args.k c.if-c-eq-BLANK.false c.from.ensures
