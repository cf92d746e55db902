-- `bycommand::plan` meets its contract: the call is made on the book by node. Assumes nothing.
use mathlib.Core.Path.{subst}
use Rattle.definitions.specs.Calls.{PlanSays}
use Rattle.planning.specs.Meaning.{answer_of}
use Rattle.bycommand.proofs.plan.Goals as goal

pub returns : goal.returns
returns c =
    let a = c.args in
    subst (λ ws. PlanSays ws a.sheet.now a.a a.b a.buffer.now (answer_of c.plan.result) c.plan.new.buffer) c.seen_by_node.ensures c.plan.ensures
