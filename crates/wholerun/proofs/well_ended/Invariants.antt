-- `wholerun::well_ended` meets its contract: all ends rise where those not yet looked at do, from the last one that was. Assumes nothing.
use Rattle.wholerun.proofs.Ends.{Looked}
use Rattle.wholerun.proofs.well_ended.Given as goal

abbrev pub invariant-loop-end : goal.invariant-loop-end
invariant-loop-end l = Looked l.ends l.total l.last l.end-index
