-- `truesheet::settle` meets its contract. The loop's invariant: `v` is `left` steps from its start, and what is counted is counted right.
-- The measure is the steps that are left. Assumes nothing.
use Prim.Native.Nat.{◌≤◌, ◌<◌}
use Rattle.definitions.specs.Limits.{nodes, longest_chain}
use Rattle.definitions.specs.Sheet.{rows_of}
use Rattle.truesheet.specs.Fits.{NamesLead, Counted}
use Rattle.truesheet.proofs.settle.Given as goal

abbrev pub invariant-loop-counts : goal.invariant-loop-counts
invariant-loop-counts l =
    (l.v < nodes) × (l.left ≤ longest_chain) × Counted (rows_of l.sheet) l.counts × NamesLead (rows_of l.sheet) l.v l.left

abbrev pub decreases-loop-counts : goal.decreases-loop-counts
decreases-loop-counts l = l.left
