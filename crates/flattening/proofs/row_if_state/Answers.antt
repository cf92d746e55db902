-- `flattening::row_if_state` meets its contract: a node that is no state has no moves, a state has its steps. Assumes nothing.
use mathlib.Core.Path.{sym, ◌∙◌}
use borrow.Author.Tests.{not-true, not-false}
use Rattle.definitions.specs.Book.{tree_of}
use Rattle.definitions.proofs.Path.{level_bound}
use Rattle.definitions.proofs.Tests.{state_parts}
use Rattle.flattening.proofs.Laws.{row_none, row_state}
use Rattle.std.proofs.lemmas.Bool.{not_from_false, not_from_true}
use Rattle.flattening.proofs.row_if_state.Goals as goal

pub returns-then-not-is_state : goal.returns-then-not-is_state
returns-then-not-is_state c =
    row_none (tree_of c.args.book.now) c.args.n (sym c.is_state.ensures ∙ not-true c.is_state.result (not_from_false _ c.if-not-is_state.true)) c.requires.6

pub row-requires : goal.row-requires
row-requires c =
    let t = tree_of c.args.book.now in
    let (m, own, plain) = state_parts t c.args.n (sym c.is_state.ensures ∙ not-false c.is_state.result (not_from_true _ c.if-not-is_state.false)) in
    (c.requires.0, c.requires.1, c.requires.2, (m, own), c.requires.3 c.args.n (m, own) (level_bound c.requires.0.sound own), c.requires.5)

pub returns : goal.returns
returns c =
    row_state (tree_of c.args.book.now) c.args.n (sym c.is_state.ensures ∙ not-false c.is_state.result (not_from_true _ c.if-not-is_state.false))
    c.row.ensures
