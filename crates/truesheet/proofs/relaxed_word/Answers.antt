-- `truesheet::relaxed_word` meets its contract: a transition or none, then the own exit cost. Assumes nothing.
use mathlib.Core.Path.{◌∙◌}
use Rattle.sheet.proofs.Reading.{rows_of_read}
use Rattle.truesheet.proofs.Nodes.{relaxed_never, relaxed_exit, relaxed_move}
use Rattle.truesheet.proofs.relaxed_word.Goals.{then-w-ne-BLANK, else-w-ne-BLANK}
use Rattle.truesheet.proofs.relaxed_word.Goals as goal

pub returns-in_default : goal.returns-in_default
returns-in_default c =
    let a = c.args in
    relaxed_never c.requires.0.well_formed.sound (rows_of_read a.sheet.now) a.m a.n a.c a.x c.own_exit.ensures
    c.in_default.is

pub returns : goal.returns
returns c =
    let a = c.args in
    let sound = c.requires.0.well_formed.sound in
    let rows = rows_of_read a.sheet.now in
    elim c.if-w-ne-BLANK.branch [
      | then-w-ne-BLANK v ↦
          relaxed_move sound rows a.m a.n a.c a.x c.own_exit.ensures c.in-Some.is c.requires.4
          c.from.ensures c.at_most.result v.if-w-ne-BLANK.true (v.least-is ∙ c.cost-cost.ensures)
          (c.from-2.ensures ∙ v.price-is) c.at_most.ensures
      | else-w-ne-BLANK v ↦
          relaxed_exit sound rows a.m a.n a.c a.x c.own_exit.ensures c.in-Some.is c.requires.4
          c.from.ensures c.at_most.result v.if-w-ne-BLANK.false (v.least-is ∙ c.exit-least.ensures)
          (c.from-2.ensures ∙ v.price-is) c.at_most.ensures
    ]
