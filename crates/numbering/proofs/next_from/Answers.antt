-- `numbering::next_from` meets its contract. The loop's invariant: no number from i up to k has the word. Assumes nothing.
use native.Mathlib.Omega.{arith}
use Rattle.numbering.proofs.Laws.{lowest_here, lowest_on, lowest_none}
use Rattle.numbering.proofs.next_from.Goals as goal

pub returns-then-list-k : goal.returns-then-list-k
returns-then-list-k c =
    let a = c.args in
    lowest_here a.list.now a.v a.i c.loop-k.k c.loop-k-test.true c.loop-k.invariant c.if-list-k.true

pub loop-k-preserved : goal.loop-k-preserved
loop-k-preserved c = lowest_on c.args.list.now c.args.v c.args.i c.loop-k.k c.loop-k.invariant c.if-list-k.false

pub returns : goal.returns
returns c =
    let a = c.args in
    lowest_none a.list.now a.v a.i c.loop-k.k c.loop-k-test.false (omega arith) c.loop-k.invariant
