-- `expanding::trace` meets its contract: the steps are noted one by one, and there is room for each. Assumes nothing.
use Prim.Native.Nat.{◌-◌}
use Rattle.definitions.specs.Limits.{nodes}
use Rattle.search.specs.Search.{name_of}
use Rattle.expanding.proofs.Tracing.{Tracing}
use Rattle.expanding.proofs.trace.Given as goal

abbrev pub invariant-loop-n : goal.invariant-loop-n
invariant-loop-n l = Tracing (name_of nodes l.before) (name_of nodes l.by) l.n l.j l.initial.left l.initial.given l.v l.k l.left l.given

abbrev pub decreases-loop-n : goal.decreases-loop-n
decreases-loop-n l = nodes - l.k
