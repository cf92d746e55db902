-- `crossing::row_if_opened` meets its contract: a node outside the opened machines has no moves, another has the search's. Assumes nothing.
use mathlib.Core.Path.{sym, ◌∙◌}
use borrow.Author.Tests.{not-true, not-false}
use Rattle.definitions.specs.Book.{tree_of}
use Rattle.definitions.specs.Sheet.{rows_of}
use Rattle.crossing.specs.Parts.{is_open}
use Rattle.crossing.proofs.Tabling.{in_used, own_opened, row_shut, row_open}
use Rattle.std.proofs.lemmas.Bool.{not_from_false, not_from_true}
use Rattle.crossing.proofs.row_if_opened.Goals as goal

pub returns-then-not-in_opened : goal.returns-then-not-in_opened
returns-then-not-in_opened c =
    let a = c.args in
    row_shut (tree_of a.book.now) (rows_of a.sheet.now) (is_open a.opened.now) a.n
    (sym c.in_opened.ensures ∙ not-true c.in_opened.result (not_from_false _ c.if-not-in_opened.true)) c.requires.5

pub row-requires : goal.row-requires
row-requires c =
    let a = c.args in
    let on = sym c.in_opened.ensures ∙ not-false c.in_opened.result (not_from_true _ c.if-not-in_opened.false) in
    let (m, own, opened) = in_used (tree_of a.book.now) (is_open a.opened.now) a.n on in (
      c.requires.0,
      c.requires.2.landings.list,
      c.requires.2.room,
      (m, own),
      λ p own_p. c.requires.2.inherited p (own_opened (tree_of a.book.now) (is_open a.opened.now) a.n on own_p),
      c.requires.4,
    )

pub returns : goal.returns
returns c =
    let a = c.args in
    row_open (tree_of a.book.now) (rows_of a.sheet.now) (is_open a.opened.now) a.n c.requires.0.well_formed.sound
    c.requires.2.landings (sym c.in_opened.ensures ∙ not-false c.in_opened.result (not_from_true _ c.if-not-in_opened.false)) c.row.ensures
