-- `wholerun::load_all` meets its contract: what the streams that are left leave of what stands is what all of them leave. Assumes nothing.
use Rattle.wholerun.proofs.Streams.{StreamsLeft}
use Rattle.wholerun.proofs.load_all.Given as goal

abbrev pub invariant-loop-to : goal.invariant-loop-to
invariant-loop-to l = StreamsLeft l.initial.book l.initial.sheet l.bytes l.ends l.book l.sheet l.from l.to-index
