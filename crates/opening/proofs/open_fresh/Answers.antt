-- `opening::open_fresh` meets its contract: its one row says the fresh tree. Assumes nothing.
use mathlib.Core.Path.{refl, subst}
use Rattle.definitions.specs.Tree.{Tree}
use Rattle.definitions.specs.Open.{fresh_tree, fresh, ComesOf}
use Rattle.refusals.specs.Meaning.{status_of}
use Rattle.opening.specs.Writes.{OpenedAs}
use Rattle.opening.proofs.Fresh.{fresh_rows_lem}
use Rattle.opening.proofs.Says.{opened_as}
use Rattle.opening.proofs.open_fresh.Goals as goal

pub returns : goal.returns
returns c =
    let done = c.open_checked in
    let a = c.args in
    opened_as fresh_tree (ComesOf fresh) refl a.book.now a.sheet.now
    (subst (λ (t : Tree). OpenedAs t a.book.now a.sheet.now (status_of done.result) done.new.book done.new.sheet) fresh_rows_lem done.ensures)
