-- `marking::blank_nodes` meets its contract: after each turn the nodes of the list's machines below n are blank. Assumes nothing.
use native.Mathlib.Omega.{arith}
use Rattle.book.specs.Chosen.{chosen}
use Rattle.marking.proofs.Blanks.{blanking_all}
use Rattle.marking.proofs.blank_nodes.Goals as goal

pub returns : goal.returns
returns c =
    blanking_all c.args.book.now (chosen c.args.list.now) c.loop-n.n (omega arith) c.loop-n.invariant
