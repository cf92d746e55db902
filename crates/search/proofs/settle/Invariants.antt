-- `search::settle` meets its contract: n nodes are settled, and the list has the reached ones; the measure is how many are not settled.
-- Assumes nothing.
use mathlib.Core.Path.{◌≡◌}
use Prim.Native.Nat.{◌-◌}
use lib.ListN.{length}
use Rattle.definitions.specs.Limits.{nodes}
use Rattle.search.specs.Parts.{labels}
use Rattle.search.proofs.Turning.{Turns}
use Rattle.search.proofs.settle.Given as goal

abbrev pub invariant-loop-n : goal.invariant-loop-n
invariant-loop-n l =
    (length l.order ≡ nodes)
    × Turns l.k l.source l.target l.price (labels l.initial.dist l.initial.before l.initial.by) l.dist l.before l.by l.order l.count l.n

abbrev pub decreases-loop-n : goal.decreases-loop-n
decreases-loop-n l = l.k - l.n
