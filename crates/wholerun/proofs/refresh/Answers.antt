-- `wholerun::refresh` meets its contract: its stream is a refresh alone. Assumes nothing.
use Rattle.definitions.specs.Demand.{Loads}
use Rattle.wholerun.proofs.refresh.Goals as goal

pub returns : goal.returns
returns c = Loads.then c.load.ensures Loads.done
