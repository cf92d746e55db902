-- `opening::is_free` meets its contract: the two words say whether the machine is in use and held. Assumes nothing.
use mathlib.Core.Path.{◌≡◌, sym, ◌∙◌}
use borrow.Author.Tests.{ne_eqb}
use Rattle.definitions.specs.Limits.{absent}
use Rattle.definitions.specs.Book.{word, tree_of}
use Rattle.opening.proofs.Reading.{free_told}
use Rattle.opening.proofs.is_free.Goals as goal

pub returns-then-start-eq-ABSENT : goal.returns-then-start-eq-ABSENT
returns-then-start-eq-ABSENT c =
    let a = c.args in
    let free-start : word ((tree_of a.book.now).start a.m) ≡ absent = sym c.start.ensures ∙ c.if-start-eq-ABSENT.true in
    rw (free_told a.book.now a.m, free-start)

pub returns : goal.returns
returns c =
    let a = c.args in
    let start = c.start in
    let used = ne_eqb (word ((tree_of a.book.now).start a.m)) absent (λ e. c.if-start-eq-ABSENT.false (start.ensures ∙ e)) in
    rw (free_told a.book.now a.m, used, c.holder.ensures)
