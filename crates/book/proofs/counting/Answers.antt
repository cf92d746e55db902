-- `book::counting` meets its contract: a transition counts unless it is shut. Assumes nothing.
use mathlib.Core.Path.{sym, ◌∙◌}
use Rattle.book.proofs.Counts.{shut_word, open_word}
use Rattle.book.proofs.counting.Goals as goal

pub returns-then-shut : goal.returns-then-shut
returns-then-shut c =
    shut_word c.requires.0.sound c.args.n c.args.x c.transition-w.ensures (sym c.shut.ensures ∙ c.if-shut.true)

pub returns-else-shut : goal.returns-else-shut
returns-else-shut c =
    open_word c.requires.0.sound c.args.n c.args.x c.transition-w.ensures (sym c.shut.ensures ∙ c.if-shut.false)
