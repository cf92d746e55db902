-- `opening::row` meets its contract: the index is the one that the rows have. Assumes nothing.
use mathlib.Core.Path.{◌∙◌, ap}
use Prim.Native.Nat.{ℕ, ◌+◌, ◌*◌}
use native.Mathlib.Omega.{arith}
use lib.ListN.{get_or}
use Rattle.definitions.specs.Limits.{absent}
use Rattle.definitions.specs.Open.{cell}
use Rattle.std.proofs.lemmas.List.{get_or_default}
use Rattle.opening.proofs.row.Goals as goal

pub returns : goal.returns
unfolding cell
returns c =
    let a = c.args in
    get_or_default a.rows.now (3 * a.n + a.k) 0 absent (omega arith)
    ∙ ap (λ (i : ℕ). get_or a.rows.now i absent) (omega arith)
