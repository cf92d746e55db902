-- `turning::one_command` meets its contract. The loop's invariant: the words of nodes under n are written. Assumes nothing.
use Prim.Native.Nat.{◌+◌, ◌*◌}
use Rattle.definitions.specs.Limits.{nodes}
use Rattle.definitions.specs.ByCommand.{by_command}
use Rattle.turning.specs.Fronts.{Front}
use Rattle.turning.proofs.one_command.Given as goal

abbrev pub invariant-loop-n : goal.invariant-loop-n
invariant-loop-n l = Front (l.x * nodes + l.n) (by_command l.from) l.out
