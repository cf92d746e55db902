-- `opening::open_ladder` meets its contract: its table passes the ladder's test, and so says the ladder's tree. Assumes nothing.
use mathlib.Core.Path.{refl, subst}
use Rattle.definitions.specs.Tree.{Tree}
use Rattle.definitions.specs.Book.{word}
use Rattle.definitions.specs.Open.{ladder_below, ladder_tree, ladder, ComesOf}
use Rattle.opening.specs.Ladder.{ladder_right}
use Rattle.refusals.specs.Meaning.{status_of}
use Rattle.opening.specs.Writes.{OpenedAs}
use Rattle.opening.proofs.Ladder.{table_tree}
use Rattle.opening.proofs.Says.{opened_as}
use Rattle.opening.proofs.open_ladder.Goals as goal

pub returns : goal.returns
unfolding ladder_right ladder_below word
returns c =
    let done = c.open_checked in
    let a = c.args in
    opened_as ladder_tree (ComesOf ladder) refl a.book.now a.sheet.now
    (subst (λ (t : Tree). OpenedAs t a.book.now a.sheet.now (status_of done.result) done.new.book done.new.sheet) (table_tree _ refl tt)
    done.ensures)
