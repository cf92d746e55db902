-- `truesheet::filled_fits` meets its contract: a start node, a node that is not reached, or one that has a name. Assumes nothing.
use Rattle.definitions.specs.Book.{tree_of}
use Rattle.book.proofs.Decide.{passed, refused}
use Rattle.sheet.proofs.Reading.{rows_of_read}
use Rattle.truesheet.proofs.Nodes.{filled_start_other, filled_start, filled_blank, filled_unnamed, filled_named}
use Rattle.std.proofs.lemmas.Bool.{not_from_false, not_from_true}
use Rattle.truesheet.proofs.filled_fits.Goals as goal

pub returns-then-not-start_fits : goal.returns-then-not-start_fits
returns-then-not-start_fits c =
    let a = c.args in
    filled_start_other (tree_of a.book.now) (rows_of_read a.sheet.now) a.m a.n c.start.ensures c.requires.2
    c.if-start-n.true (refused c.start_fits.result c.start_fits.ensures (not_from_false _ c.if-not-start_fits.true))

pub returns-then-start-n : goal.returns-then-start-n
returns-then-start-n c =
    let a = c.args in
    filled_start (tree_of a.book.now) (rows_of_read a.sheet.now) a.m a.n c.start.ensures c.requires.2
    c.if-start-n.true c.relaxed_at.result (passed c.start_fits.result c.start_fits.ensures (not_from_true _ c.if-not-start_fits.false))
    c.relaxed_at.ensures

pub returns-then-c : goal.returns-then-c
returns-then-c c =
    let a = c.args in
    filled_blank (tree_of a.book.now) (rows_of_read a.sheet.now) a.m a.n c.start.ensures c.requires.2
    c.if-start-n.false c.cost-c.ensures c.node_blank.result c.if-c.true c.node_blank.ensures

pub returns-then-not-named : goal.returns-then-not-named
returns-then-not-named c =
    let a = c.args in
    filled_unnamed (tree_of a.book.now) (rows_of_read a.sheet.now) a.m a.n c.start.ensures c.requires.2
    c.if-start-n.false c.cost-c.ensures c.if-c.false
    (refused c.named.result c.named.ensures (not_from_false _ c.if-not-named.true))

pub returns : goal.returns
returns c =
    let a = c.args in
    filled_named (tree_of a.book.now) (rows_of_read a.sheet.now) a.m a.n c.start.ensures c.requires.2
    c.if-start-n.false c.cost-c.ensures c.if-c.false c.relaxed_at-2.result
    (passed c.named.result c.named.ensures (not_from_true _ c.if-not-named.false)) c.relaxed_at-2.ensures
