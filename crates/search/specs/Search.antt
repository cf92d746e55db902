-- Least costs from one source over k nodes with 16 moves each, given as two tables: how the tables and the results are read, and what
-- the search promises. Nothing here speaks of trees.
use Rattle.std.specs.Prelude.{◌≡◌, cond, List, ℕ, ◌+◌, ◌*◌, ◌-◌, ◌≤◌, ◌<◌, eqb, length, get_or}
use Rattle.std.proofs.Math.Option.{Option, none, some}
use Rattle.definitions.specs.Basics.{◌>>=◌, iterate}
use Rattle.definitions.specs.Limits.{nodes, commands, largest_step_cost}
use Rattle.definitions.specs.Step.{Arrival}
use Rattle.definitions.specs.Book.{number, under}

-- the largest cost of a move: 258 times that of a step, of which an exit cost may take 256, leaving its machine one and a transition one
abbrev pub largest_move : ℕ
largest_move = 258 * largest_step_cost

-- the word for a distance that is not there
abbrev pub unreached : ℕ
unreached = 18446744073709551615

-- the distance that a word says
unfoldable pub reached : ℕ → Option ℕ
reached w = cond (eqb w unreached) none (some w)

-- the move that an entry of the tables says: where it leads and what it costs
unfoldable pub entry_move : ℕ → ℕ → Option Arrival
entry_move target price = number target >>= λ v. some (record { node = v; cost = price })

-- the move that row u of the tables has for command x
unfoldable pub row_move : List ℕ → List ℕ → ℕ → ℕ → Option Arrival
row_move target price u x = under commands x (entry_move (get_or target (commands * u + x) 0) (get_or price (commands * u + x) 0))

-- the moves of the first k rows
unfoldable pub move_of : ℕ → List ℕ → List ℕ → ℕ → ℕ → Option Arrival
move_of k target price u x = under k u (row_move target price u x)

-- the distances, and the names, of the first k nodes
unfoldable pub distance_of : ℕ → List ℕ → ℕ → Option ℕ
distance_of k words v = under k v (reached (get_or words v 0))

unfoldable pub name_of : ℕ → List ℕ → ℕ → Option ℕ
name_of k words v = under k v (number (get_or words v 0))

-- what the search asks of its tables: they have k rows or more, of which one is the source's, and the moves of the first k rows lead to
-- one of the k nodes and cost no more than the largest
pub record Tables (k source : ℕ) (target price : List ℕ) : Type 0 where
  pub has_source : source < k
  pub small : k ≤ nodes
  pub targets : commands * k ≤ length target
  pub prices : commands * k ≤ length price
  pub inside : (u x : ℕ) (b : Arrival) → move_of k target price u x ≡ some b → b.node < k
  pub cheap : (u x : ℕ) (b : Arrival) → move_of k target price u x ≡ some b → b.cost ≤ largest_move

-- the lists for the results have room for k nodes
pub record Room (k : ℕ) (dist before by : List ℕ) : Type 0 where
  pub dist_room : k ≤ length dist
  pub before_room : k ≤ length before
  pub by_room : k ≤ length by

-- node v, reached at cost c, names a move of a reached node that leads to v at exactly this cost
pub record NamedMove (k : ℕ) (move : ℕ → ℕ → Option Arrival) (distance before by : ℕ → Option ℕ) (v c : ℕ) : Type 0 where
  pub node : ℕ
  pub command : ℕ
  pub node_cost : ℕ
  pub step_cost : ℕ
  pub names_node : before v ≡ some node
  pub names_command : by v ≡ some command
  pub node_range : node < k
  pub command_range : command < commands
  pub reached : distance node ≡ some node_cost
  pub moves : move node command ≡ some (record { node = v; cost = step_cost })
  pub exact : c ≡ node_cost + step_cost

-- cost c is less than the distance of the goal, if that has one
abbrev pub Nearer : (ℕ → Option ℕ) → ℕ → ℕ → Type 0
Nearer distance goal c = (g : ℕ) → distance goal ≡ some g → c < g

-- What the search promises of distances and names. It stops at the goal: of nodes as far as that or farther only the names are promised. A goal
-- that is none of the k nodes has no distance, and then nothing is left out.
pub record Certificate (k source goal : ℕ) (move : ℕ → ℕ → Option Arrival) (distance before by : ℕ → Option ℕ) : Type 0 where
  pub start_distance : distance source ≡ some 0
  pub start_before : before source ≡ none
  pub start_by : by source ≡ none
  -- only the k nodes have a distance
  pub inside : (v c : ℕ) → distance v ≡ some c → v < k
  -- every move from a reached node that is nearer than the goal is accounted for
  pub relaxed : (u c x : ℕ) (b : Arrival) → distance u ≡ some c → Nearer distance goal c → move u x ≡ some b
      → (d : ℕ) × (distance b.node ≡ some d) × (d ≤ c + b.cost)
  -- every reached node but the source names a move that gives its distance
  pub named : (v c : ℕ) → (v ≡ source → ⊥) → distance v ≡ some c → NamedMove k move distance before by v c
  -- following the names comes to the source in fewer than k steps
  pub chain : (v c : ℕ) → distance v ≡ some c → (j : ℕ) × (j < k) × (iterate before j v ≡ some source)
  -- what is not reached has no names
  pub unreached : (v : ℕ) → distance v ≡ none → (before v ≡ none) × (by v ≡ none)
  pub bound : (v c : ℕ) → distance v ≡ some c → c ≤ (k - 1) * largest_move

-- what the search leaves: the lists hold such distances and names for the first k nodes, and the rest is as it was
pub record Searched (k source goal : ℕ) (target price dist before by dist' before' by' : List ℕ) : Type 0 where
  pub certificate : Certificate k source goal (move_of k target price) (distance_of k dist') (name_of k before') (name_of k by')
  pub rest : (v : ℕ) → k ≤ v → (get_or dist' v 0 ≡ get_or dist v 0) × (get_or before' v 0 ≡ get_or before v 0) × (get_or by' v 0 ≡ get_or by v 0)
