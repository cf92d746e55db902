-- `bycommand::exit` meets its contract: the call is made on the book by node. Assumes nothing.
use mathlib.Core.Path.{subst}
use Rattle.definitions.specs.Calls.{ExitSays}
use Rattle.exiting.specs.Meaning.{answer_of}
use Rattle.bycommand.proofs.exit.Goals as goal

pub returns : goal.returns
returns c =
    subst (λ ws. ExitSays ws c.args.sheet.now c.args.machine c.args.command (answer_of c.exit.result)) c.seen_by_node.ensures c.exit.ensures
