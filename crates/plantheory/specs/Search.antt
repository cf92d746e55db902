-- Document 01: "Plan searches the machines above a and b, with exit charges for the rest". The machines that the search opens, its
-- moves, and what it has to find. Its positions are the nodes of opened machines that hold no opened machine.
use Rattle.std.specs.Prelude.{◌≡◌, Bool, cond, ◌||◌, ℕ, zero, suc, ◌+◌, ◌≤◌, ◌<◌}
use Rattle.std.proofs.Math.Option.{Option, none, some}
use Rattle.definitions.specs.Basics.{◌>>=◌, option, iterate}
use Rattle.definitions.specs.Limits.{commands, levels, longest_chain}
use Rattle.definitions.specs.Tree.{Tree, over}
use Rattle.definitions.specs.Step.{Climb, found, passed, climb, Arrival}
use Rattle.definitions.specs.Sheet.{Rows}
use Rattle.definitions.specs.Truth.{node_exit}

-- whether the search from a to b opens machine m: it does those above a or b
unfoldable pub opened_for : Tree → ℕ → ℕ → ℕ → Bool
opened_for t a b m = over t m a || over t m b

-- from node v down through the start nodes of opened machines to the first node that holds no opened machine
unfoldable pub land_f : ℕ → Tree → (ℕ → Bool) → ℕ → Option ℕ
land_f zero t opened v = none
land_f (suc k) t opened v = option (some v) (λ m. cond (opened m) (t.start m >>= land_f k t opened) (some v)) (t.below v)

unfoldable pub land : Tree → (ℕ → Bool) → ℕ → Option ℕ
land t opened v = land_f levels t opened v

-- where the search arrives by what a command finds from a node that it leaves at cost e
abbrev pub arrives : Tree → (ℕ → Bool) → ℕ → Climb → Option Arrival
arrives t opened e (found u v c) = land t opened v >>= λ w. some (record { node = w; cost = e + c })
arrives t opened e (passed c) = none

-- the search's move from node q by x: q is left at its exit cost, and the transition that x finds from q leads to where its target lands
unfoldable pub plan_move : Tree → Rows → (ℕ → Bool) → ℕ → ℕ → Option Arrival
plan_move t r opened q x = node_exit t r q x >>= λ e. arrives t opened e (climb t t.root q x)

-- every move from a reached node is accounted for
abbrev pub Accounted : (ℕ → ℕ → Option Arrival) → (ℕ → Option ℕ) → Type 0
Accounted move distance =
    (q d x : ℕ) (b : Arrival) → distance q ≡ some d → x < commands → move q x ≡ some b
    → (c : ℕ) × (distance b.node ≡ some c) × (c ≤ d + b.cost)

-- node n, reached at cost c, names a move of a reached node that leads to n at exactly this cost
pub record PlanNamed (move : ℕ → ℕ → Option Arrival) (distance before by : ℕ → Option ℕ) (n c : ℕ) : Type 0 where
  pub node : ℕ
  pub command : ℕ
  pub node_cost : ℕ
  pub step_cost : ℕ
  pub names_node : before n ≡ some node
  pub names_command : by n ≡ some command
  pub reached : distance node ≡ some node_cost
  pub moves : move node command ≡ some (record { node = n; cost = step_cost })
  pub exact : c ≡ node_cost + step_cost

-- what the search from node a to node b finds: distances, names that lead to every reached node at its distance, and bounds that no move makes
-- less, the distance of b among them
pub record PlanSearched (move : ℕ → ℕ → Option Arrival) (a b : ℕ) (distance before by : ℕ → Option ℕ) : Type 0 where
  pub start_distance : distance a ≡ some 0
  pub start_before : before a ≡ none
  pub bound : ℕ → Option ℕ
  pub start_bound : bound a ≡ some 0
  pub end_bound : bound b ≡ distance b
  pub accounted : Accounted move bound
  -- every reached node but a names a move that gives its distance, and following the names comes to a in at most 255 steps
  pub named : (n c : ℕ) → (n ≡ a → ⊥) → distance n ≡ some c → PlanNamed move distance before by n c
  pub chain : (n c : ℕ) → distance n ≡ some c → (k : ℕ) × (k ≤ longest_chain) × (iterate before k n ≡ some a)
