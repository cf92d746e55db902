-- `bycommand::open_walkers` meets its contract: the call is made on the book by node. Assumes nothing.
use mathlib.Core.Path.{subst}
use Rattle.definitions.specs.Walk.{OpenWalkersSay}
use Rattle.refusals.specs.Meaning.{status_of}
use Rattle.bycommand.proofs.open_walkers.Goals as goal

pub returns : goal.returns
returns c =
    let a = c.args in
    subst (λ ws. OpenWalkersSay ws a.node a.limit a.walkers.now (status_of c.open_walkers.result)) c.seen_by_node.ensures c.open_walkers.ensures
