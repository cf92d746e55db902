-- `truesheet::relaxed_by` meets its contract: the word of the transition that counts is BLANK or the node's own. Assumes nothing.
use mathlib.Core.Path.{sym, ◌∙◌}
use Rattle.book.proofs.Counts.{shut_word, open_word}
use Rattle.truesheet.proofs.relaxed_by.Goals as goal

pub relaxed_word-requires : goal.relaxed_word-requires
relaxed_word-requires c =
    let a = c.args in (
      c.requires.0,
      c.requires.1,
      c.requires.2,
      c.requires.3,
      shut_word c.requires.0.well_formed.sound a.n a.x c.transition-w.ensures (sym c.shut.ensures ∙ c.if-shut.true),
    )

pub relaxed_word-requires-2 : goal.relaxed_word-requires-2
relaxed_word-requires-2 c =
    let a = c.args in (
      c.requires.0,
      c.requires.1,
      c.requires.2,
      c.requires.3,
      open_word c.requires.0.well_formed.sound a.n a.x c.transition-w.ensures (sym c.shut.ensures ∙ c.if-shut.false),
    )
