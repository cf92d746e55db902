-- `refreshing::write_nodes` meets its contract: the rows of the nodes at the places passed are written. Assumes nothing.
use Rattle.refreshing.specs.Parts.{NodesWritten}
use Rattle.refreshing.proofs.write_nodes.Given as goal

abbrev pub invariant-loop-i : goal.invariant-loop-i
invariant-loop-i l = NodesWritten l.i l.members l.dist l.before l.by l.initial.sheet l.sheet
