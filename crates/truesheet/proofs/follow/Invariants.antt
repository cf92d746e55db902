-- `truesheet::follow` meets its contract. The loop's invariant: `v` is `steps` steps on from `n`. Assumes nothing.
use Prim.Native.Nat.{◌<◌}
use Rattle.definitions.specs.Limits.{nodes}
use Rattle.definitions.specs.Sheet.{rows_of}
use Rattle.truesheet.proofs.Chains.{Ahead}
use Rattle.truesheet.proofs.follow.Given as goal

abbrev pub invariant-loop-steps : goal.invariant-loop-steps
invariant-loop-steps l = (l.v < nodes) × Ahead (rows_of l.sheet) l.n l.v l.steps
