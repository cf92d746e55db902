-- Names that lead back from a node to where they begin, in the rows of a sheet and in the lists of a search.
use Rattle.std.specs.Prelude.{◌≡◌, ℕ, ◌≤◌, ◌<◌}
use Rattle.std.proofs.Math.Option.{Option, none, some}
use Rattle.definitions.specs.Basics.{iterate}
use Rattle.definitions.specs.Limits.{nodes, commands, longest_chain}

-- Following the names from n comes to a node that has none in at most 255 steps. Every node on the way is a node, and where it names
-- another it also names a command.
pub record Traceable (before by : ℕ → Option ℕ) (n : ℕ) : Type 0 where
  pub first : ℕ
  pub steps : ℕ
  pub short : steps ≤ longest_chain
  pub way : iterate before steps n ≡ some first
  pub ended : before first ≡ none
  pub here : n < nodes
  pub named : (i v u : ℕ) → iterate before i n ≡ some v → before v ≡ some u → (u < nodes) × ((x : ℕ) × (by v ≡ some x) × (x < commands))
