-- `opening::clear` meets its contract: the machines passed, and then the nodes passed, are unused. Assumes nothing.
use mathlib.Core.Path.{◌≡◌, subst}
use native.Mathlib.Omega.{arith}
use Rattle.definitions.specs.Limits.{machines, nodes}
use Rattle.definitions.specs.Book.{tree_of}
use Rattle.opening.proofs.Blank.{Cleared, cleared_all}
use Rattle.opening.proofs.clear.Goals as goal

pub returns : goal.returns
returns c =
    let loop = c.loop-n in
    let all : loop.n ≡ nodes = omega arith in
    λ rows.
    record {
      length = omega arith;
      tree = cleared_all loop.book rows (subst (Cleared (tree_of loop.book) machines) all loop.invariant);
    }
