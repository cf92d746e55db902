-- Document 01: the least cost from a state to a state, and the exit charge of a machine. Both are over the transitions that no hold shuts, with
-- what leaving machines costs, since the step and the climb are (document 02, W-205, W-207).
use Rattle.std.specs.Prelude.{◌≡◌, List, ℕ, ◌+◌}
use Rattle.std.proofs.Math.Option.{Option, none, some}
use Rattle.definitions.specs.Basics.{◌>>=◌, Least}
use Rattle.definitions.specs.Tree.{Tree}
use Rattle.definitions.specs.Step.{Climb, found, passed, climb, start_state, run_in, Moves}

-- the least cost of a list that moves the station from a to b; none where no list does (document 01: no way)
abbrev pub LeastCost : Tree → ℕ → ℕ → Option ℕ → Type 0
LeastCost t a b = Least (λ c. (xs : List ℕ) × Moves t a b xs c)

-- cost c, where nothing was found, with what leaving cost on the way
abbrev pub unfound : ℕ → Climb → Option ℕ
unfound c (found n v d) = none
unfound c (passed d) = some (c + d)

-- The cost of the list xs and then x from m's start state: the commands of xs all use transitions in m or below it, and x finds none there; none
-- where the list is not so. Of x it has what leaving the machines below m costs, but neither its transition nor leaving m (document 02, W-207).
unfoldable pub exit_by : Tree → ℕ → ℕ → List ℕ → Option ℕ
exit_by t m x xs = start_state t m >>= λ s. run_in t m s xs >>= λ a. unfound a.cost (climb t m a.node x)

-- the exit cost of machine m for x (document 01: exit charge); none where no list leaves
abbrev pub ExitCost : Tree → ℕ → ℕ → Option ℕ → Type 0
ExitCost t m x = Least (λ c. (xs : List ℕ) × (exit_by t m x xs ≡ some c))
