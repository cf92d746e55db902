-- `opening::ladder_number` meets its contract: the constant table passes the ladder's test, and so has the generator's rows. Assumes nothing.
use mathlib.Core.Path.{refl, ◌∙◌, ap}
use mathlib.Core.List.{List}
use Prim.Native.Nat.{ℕ}
use Rattle.definitions.specs.Book.{word}
use Rattle.definitions.specs.Open.{ladder_below, cell}
use Rattle.opening.specs.Ladder.{ladder_right}
use Rattle.opening.proofs.Ladder.{table_rows}
use Rattle.opening.proofs.ladder_number.Goals as goal

pub returns : goal.returns
unfolding ladder_right ladder_below word
returns c =
    c.row.ensures ∙ ap (λ (l : List ℕ). cell l c.args.n c.args.k) (table_rows _ refl tt)
