-- `turning::all_records` meets its contract. The loop's invariant: the records of nodes under n are written. Assumes nothing.
use Prim.Native.Nat.{◌+◌, ◌*◌}
use Rattle.definitions.specs.Book.{node_fields, node_base}
use Rattle.definitions.specs.ByCommand.{by_node}
use Rattle.turning.specs.Fronts.{Front}
use Rattle.turning.proofs.all_records.Given as goal

abbrev pub invariant-loop-n : goal.invariant-loop-n
invariant-loop-n l = Front (node_base + l.n * node_fields) (by_node l.from) l.out
