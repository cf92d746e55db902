-- `loading::run_stream` meets its contract: what the rest of the stream leaves of what stands is what the whole stream leaves, and each turn
-- takes a byte at least. Assumes nothing.
use Prim.Native.Nat.{◌-◌}
use lib.ListN.{length}
use Rattle.loading.specs.Loading.{Underway}
use Rattle.loading.proofs.run_stream.Given as goal

abbrev pub invariant-loop-size : goal.invariant-loop-size
invariant-loop-size l = Underway l.initial.book l.initial.sheet l.stream l.taken l.count l.book l.sheet

abbrev pub decreases-loop-size : goal.decreases-loop-size
decreases-loop-size l = length l.stream - l.taken
