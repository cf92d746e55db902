-- `opening::open_sheet` meets its contract: the rows of the machines passed, and then of the nodes passed, are an opening's. Assumes nothing.
use mathlib.Core.Path.{◌≡◌, subst}
use native.Mathlib.Omega.{arith}
use Rattle.definitions.specs.Limits.{machines, nodes}
use Rattle.definitions.specs.Book.{tree_of}
use Rattle.definitions.specs.Sheet.{rows_of}
use Rattle.opening.proofs.Blank.{Opened, opened_all}
use Rattle.opening.proofs.open_sheet.Goals as goal

pub returns : goal.returns
returns c =
    let loop = c.loop-n in
    let book = c.args.book.now in
    let all : loop.n ≡ nodes = omega arith in
    opened_all book loop.sheet (omega arith) loop.invariant.0
    (subst (Opened (tree_of book) (rows_of loop.sheet) machines) all loop.invariant.1)
