-- `refreshing::write_nodes` meets its contract: the rows of the nodes at the places passed are written. Assumes nothing.
use Prim.Native.Nat.{◌<◌}
use native.Mathlib.Omega.{arith}
use Rattle.std.proofs.lemmas.List.{get_or-take, length-take}
use Rattle.refreshing.proofs.Nodes.{nodes_more}
use Rattle.refreshing.proofs.write_nodes.Goals as goal

pub write_node-requires : goal.write_node-requires
write_node-requires c =
    let able = c.requires.1 in
    let i = c.loop-i.i in
    let small : i < c.args.k = omega (arith, length-take c.args.k c.args.members.now) in (
      c.loop-i.invariant.leaves.length,
      rw (get_or-take c.args.k c.args.members.now i 0 small) (able.inside i small),
      able.costs i small,
      able.names i small,
    )

pub loop-i-preserved : goal.loop-i-preserved
loop-i-preserved c =
    let small : c.loop-i.i < c.args.k = omega (arith, length-take c.args.k c.args.members.now) in
    let stored = rw (get_or-take c.args.k c.args.members.now c.loop-i.i 0 small) at c.write_node.ensures in
    nodes_more c.requires.1 small c.loop-i.invariant stored
