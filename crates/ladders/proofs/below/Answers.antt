-- `ladders::below` meets its contract: by the node's place in its machine, and whether there is such a machine. Assumes nothing.
use native.Mathlib.Omega.{arith}
use Rattle.ladders.proofs.Laws.{below_start, below_under, below_over}
use Rattle.ladders.proofs.below.Goals as goal

pub returns-then-k-eq1 : goal.returns-then-k-eq1
returns-then-k-eq1 c = below_start c.args.c c.args.n c.if-k-eq1.true

pub returns-then-m-c : goal.returns-then-m-c
returns-then-m-c c =
    below_under c.args.c c.args.n c.if-k-eq1.false (omega arith) c.if-m-c.true

pub returns-else-m-c : goal.returns-else-m-c
returns-else-m-c c =
    below_over c.args.c c.args.n {m = _} c.if-k-eq1.false (omega arith) c.if-m-c.false
