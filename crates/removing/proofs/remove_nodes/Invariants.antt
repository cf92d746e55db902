-- `removing::remove_nodes` meets its contract: after each turn the nodes below k are as remove leaves them. Assumes nothing.
use Rattle.removing.proofs.Pass.{Passed}
use Rattle.removing.proofs.remove_nodes.Given as goal

abbrev pub invariant-loop-k : goal.invariant-loop-k
invariant-loop-k l = Passed l.initial.book l.initial.sheet l.n l.k l.book l.sheet
