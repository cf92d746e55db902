-- `crossing::itself` meets its contract: the nodes passed have themselves. Assumes nothing.
use mathlib.Core.Path.{◌≡◌}
use Prim.Native.Nat.{ℕ, ◌<◌}
use Rattle.search.specs.Parts.{at}
use Rattle.crossing.proofs.itself.Given as goal

abbrev pub invariant-loop-v : goal.invariant-loop-v
invariant-loop-v l = (u : ℕ) → u < l.v → at l.lands u ≡ u
