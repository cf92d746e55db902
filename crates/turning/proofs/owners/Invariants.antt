-- `turning::owners` meets its contract. The loop's invariant: the words of nodes under n are written. Assumes nothing.
use Prim.Native.Nat.{◌+◌, ◌*◌}
use Rattle.definitions.specs.Limits.{nodes, commands}
use Rattle.definitions.specs.Book.{node_base}
use Rattle.definitions.specs.ByCommand.{by_command}
use Rattle.turning.specs.Fronts.{Front}
use Rattle.turning.proofs.owners.Given as goal

abbrev pub invariant-loop-n : goal.invariant-loop-n
invariant-loop-n l = Front (commands * nodes + node_base + l.n * 2) (by_command l.from) l.out
