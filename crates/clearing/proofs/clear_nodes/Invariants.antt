-- `clearing::clear_nodes` meets its contract: after each turn the chosen nodes below n are out of use. Assumes nothing.
use Rattle.book.specs.Chosen.{chosen, up_to}
use Rattle.clearing.specs.Gone.{NodesGone}
use Rattle.clearing.proofs.clear_nodes.Given as goal

abbrev pub invariant-loop-n : goal.invariant-loop-n
invariant-loop-n l = NodesGone l.initial.book l.initial.sheet l.book l.sheet (up_to (chosen l.gone) l.n)
