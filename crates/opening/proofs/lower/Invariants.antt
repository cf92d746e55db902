-- `opening::lower` meets its contract: the loop goes down from n, and no node that it passed has n's owner. Assumes nothing.
use mathlib.Core.Path.{◌≡◌}
use Rattle.definitions.specs.Basics.{is_at}
use Rattle.opening.specs.Rows.{last_under, row_owner}
use Rattle.opening.proofs.lower.Given as goal

abbrev pub invariant-loop-i : goal.invariant-loop-i
invariant-loop-i l = last_under l.n (λ j. is_at (row_owner l.rows j) l.owner) ≡ last_under l.i (λ j. is_at (row_owner l.rows j) l.owner)
