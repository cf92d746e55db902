-- `bycommand::walk` meets its contract: the call is made on the book by node. Assumes nothing.
use mathlib.Core.Path.{subst}
use Rattle.definitions.specs.Walk.{WalkSays}
use Rattle.stepping.specs.Meaning.{answer_of}
use Rattle.bycommand.proofs.walk.Goals as goal

pub returns : goal.returns
returns c =
    let a = c.args in
    subst (λ ws. WalkSays ws a.node a.limit a.walkers.now a.walker a.command (answer_of c.walk.result) c.walk.new.walkers) c.seen_by_node.ensures
    c.walk.ensures
