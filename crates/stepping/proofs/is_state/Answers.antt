-- `stepping::is_state` meets its contract. Assumes nothing.
use Rattle.stepping.proofs.States.{unused_state, used_state}
use Rattle.stepping.proofs.is_state.Goals as goal

pub returns-then-owner-eq-ABSENT : goal.returns-then-owner-eq-ABSENT
returns-then-owner-eq-ABSENT c =
    unused_state c.requires.0.sound c.args.n c.owner.ensures c.if-owner-eq-ABSENT.true

pub returns : goal.returns
returns c =
    used_state c.requires.0.sound c.args.n c.owner.ensures c.if-owner-eq-ABSENT.false c.below.ensures
