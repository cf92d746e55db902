-- `turning::one_record` meets its contract. The loop's invariant: the words of commands under x are written. Assumes nothing.
use Prim.Native.Nat.{◌+◌, ◌*◌}
use Rattle.definitions.specs.Book.{node_fields, node_base}
use Rattle.definitions.specs.ByCommand.{by_node}
use Rattle.turning.specs.Fronts.{Front}
use Rattle.turning.proofs.one_record.Given as goal

abbrev pub invariant-loop-x : goal.invariant-loop-x
invariant-loop-x l = Front (node_base + l.n * node_fields + 2 + l.x) (by_node l.from) l.out
