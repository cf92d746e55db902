-- `turning::all_commands` meets its contract. The loop's invariant: the words of commands under x are written. Assumes nothing.
use Prim.Native.Nat.{◌*◌}
use Rattle.definitions.specs.Limits.{nodes}
use Rattle.definitions.specs.ByCommand.{by_command}
use Rattle.turning.specs.Fronts.{Front}
use Rattle.turning.proofs.all_commands.Given as goal

abbrev pub invariant-loop-x : goal.invariant-loop-x
invariant-loop-x l = Front (l.x * nodes) (by_command l.from) l.out
