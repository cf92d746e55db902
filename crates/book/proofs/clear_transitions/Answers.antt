-- `book::clear_transitions` meets its contract: after each turn the transitions below x are cleared. Assumes nothing.
use native.Mathlib.Omega.{arith}
use Rattle.definitions.specs.Book.{transition_of}
use Rattle.book.proofs.Stores.{clearing_more, clearing_all}
use Rattle.book.proofs.clear_transitions.Goals as goal

pub loop-x-preserved : goal.loop-x-preserved
unfolding transition_of
loop-x-preserved c = clearing_more c.args.book.now c.args.n c.loop-x.x c.loop-x.invariant c.set_transition.ensures

pub returns : goal.returns
returns c = clearing_all c.args.book.now c.args.n c.loop-x.x (omega arith) c.loop-x.invariant
