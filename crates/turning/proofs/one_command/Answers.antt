-- `turning::one_command` meets its contract. The loop's invariant: the words of nodes under n are written. Assumes nothing.
use native.Mathlib.Omega.{arith}
use Rattle.definitions.proofs.Turned.{command_length}
use Rattle.turning.proofs.Laws.{move_more}
use Rattle.turning.proofs.one_command.Goals as goal

pub bounds-out-x : goal.bounds-out-x
bounds-out-x c = omega (arith, c.loop-n.invariant.length, command_length c.args.from.now c.requires.0, c.requires.1)

pub loop-n-preserved : goal.loop-n-preserved
loop-n-preserved c =
    move_more c.args.from.now c.requires.0 c.args.x c.loop-n.n c.requires.1 c.loop-n-test.true c.loop-n.invariant
