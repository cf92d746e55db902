-- `opening::mark` meets its contract: a machine is in use where its start word says so. Assumes nothing.
use mathlib.Core.Path.{sym, ◌∙◌}
use native.Mathlib.Omega.{arith}
use borrow.Author.Tests.{eq-eqb, ne_eqb}
use Rattle.definitions.specs.Limits.{absent}
use Rattle.definitions.specs.Book.{word, tree_of}
use Rattle.opening.proofs.Reading.{used_told}
use Rattle.opening.proofs.mark.Goals as goal

pub returns-then-start-eq-ABSENT : goal.returns-then-start-eq-ABSENT
returns-then-start-eq-ABSENT c =
    let a = c.args in
    let e = eq-eqb (word ((tree_of a.book.now).start a.m)) absent (sym c.start.ensures ∙ c.if-start-eq-ABSENT.true) in
    (omega arith, rw (used_told a.book.now a.m, e))

pub returns : goal.returns
returns c =
    let a = c.args in
    let e = ne_eqb (word ((tree_of a.book.now).start a.m)) absent (λ e. c.if-start-eq-ABSENT.false (c.start.ensures ∙ e)) in
    (omega arith, rw (used_told a.book.now a.m, e))
