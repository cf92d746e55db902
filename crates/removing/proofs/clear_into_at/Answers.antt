-- `removing::clear_into_at` meets its contract: the upper half of a transition's word is its target. Assumes nothing.
use Rattle.definitions.specs.Book.{transition_of}
use Rattle.removing.proofs.Into.{into_stays, into_goes}
use Rattle.removing.proofs.clear_into_at.Goals as goal

pub returns-then-w-n : goal.returns-then-w-n
returns-then-w-n c =
    into_stays c.args.book.now c.args.k c.args.x c.args.n c.requires.3 c.transition-w.ensures
    c.requires.0 c.if-w-n.true

pub returns : goal.returns
unfolding transition_of
returns c =
    into_goes c.args.book.now c.args.k c.args.x c.args.n c.requires.3 c.transition-w.ensures
    c.if-w-n.false
    c.set_transition.ensures
