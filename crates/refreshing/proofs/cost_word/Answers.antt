-- `refreshing::cost_word` meets its contract: the word for no cost, or the cost itself, which fits. Assumes nothing.
use native.Mathlib.Omega.{arith}
use Rattle.refreshing.proofs.Nodes.{cost_blank, cost_fits, cost_there}
use Rattle.refreshing.proofs.cost_word.Goals as goal

pub returns-then-d-eq-UNREACHED : goal.returns-then-d-eq-UNREACHED
returns-then-d-eq-UNREACHED c = cost_blank c.if-d-eq-UNREACHED.true

pub overflow_cast-result : goal.overflow_cast-result
overflow_cast-result c = omega (arith, cost_fits c.requires c.if-d-eq-UNREACHED.false)

pub returns : goal.returns
returns c = cost_there c.requires c.if-d-eq-UNREACHED.false
