-- `turning::owners` meets its contract. The loop's invariant: the words of nodes under n are written. Assumes nothing.
use Prim.Native.Nat.{◌+◌, ◌*◌}
use native.Mathlib.Omega.{arith}
use Rattle.definitions.proofs.Turned.{command_length}
use Rattle.turning.proofs.Laws.{front_at, owner_words}
use Rattle.definitions.specs.ByCommand.{by_command}
use Rattle.turning.proofs.owners.Goals as goal

pub copy-requires : goal.copy-requires
copy-requires c =
    (omega (arith, c.requires.0), omega (arith, c.loop-n.invariant.length, command_length c.args.from.now c.requires.0))

pub loop-n-preserved : goal.loop-n-preserved
loop-n-preserved c =
    let ws = c.args.from.now in
    let front = front_at {j = 4225 + 2 * c.loop-n.n} (omega arith) c.loop-n.invariant in
    front_at (omega arith) (c.copy.ensures (by_command ws) front (owner_words ws c.requires.0 c.loop-n.n c.loop-n-test.true))
