-- `refreshing::cheapest` meets its contract: the cheapest way out from the nodes at the places passed. Assumes nothing.
use Prim.Native.Nat.{◌<◌}
use native.Mathlib.Omega.{arith}
use Rattle.std.proofs.lemmas.List.{get_or-take, length-take}
use Rattle.refreshing.proofs.Exits.{cheapest_better, cheapest_stays, cheapest_all}
use Rattle.refreshing.proofs.cheapest.Goals.{then-c-cost, else-c-cost}
use Rattle.refreshing.proofs.cheapest.Goals as goal

pub loop-j-preserved : goal.loop-j-preserved
loop-j-preserved c =
    let small : c.loop-j.j < c.args.k = omega (arith, length-take c.args.k c.args.members.now) in
    let read = get_or-take c.args.k c.args.members.now c.loop-j.j 0 small in
    let costs = rw read at c.way_cost-c.ensures in
    elim c.if-c-cost.branch [
      | then-c-cost w ↦ rw (w.cost-is, w.node-is, read) (cheapest_better c.loop-j.invariant costs w.if-c-cost.true)
      | else-c-cost w ↦ rw (w.cost-is, w.node-is) (cheapest_stays c.loop-j.invariant costs w.if-c-cost.false)
    ]

pub returns : goal.returns
returns c = cheapest_all c.loop-j.invariant (omega (arith, length-take c.args.k c.args.members.now)) (omega (arith, length-take c.args.k c.args.members.now))
