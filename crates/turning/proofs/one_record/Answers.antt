-- `turning::one_record` meets its contract. The loop's invariant: the words of commands under x are written. Assumes nothing.
use Prim.Native.Nat.{◌+◌, ◌*◌}
use native.Mathlib.Omega.{arith}
use Rattle.definitions.specs.ByCommand.{by_node}
use Rattle.definitions.proofs.Turned.{node_length}
use Rattle.turning.proofs.Laws.{front_at, link_words, record_more}
use Rattle.turning.proofs.one_record.Goals as goal

pub copy-requires : goal.copy-requires
copy-requires c =
    (omega (arith, c.requires.0, c.requires.1), omega (arith, c.requires.1, c.requires.2.length, node_length c.args.from.now c.requires.0))

pub loop-x-init : goal.loop-x-init
loop-x-init c =
    let vs = c.args.from.now in
    let front = front_at {j = 129 + 18 * c.args.n} (omega arith) c.requires.2 in
    front_at (omega arith) (c.copy.ensures (by_node vs) front (link_words vs c.requires.0 c.args.n c.requires.1))

pub bounds-out-n : goal.bounds-out-n
bounds-out-n c = omega (arith, c.requires.1, c.loop-x.invariant.length, node_length c.args.from.now c.requires.0, c.loop-x-test.true)

pub loop-x-preserved : goal.loop-x-preserved
loop-x-preserved c =
    record_more c.args.from.now c.requires.0 c.args.n c.loop-x.x c.requires.1 c.loop-x-test.true c.loop-x.invariant
