-- Document 01, "The tree and its step": entering a node, the step and its cost, and what a list of commands does.
-- (Definition 3 of sources 000 and 001, as document 01 fixes it.) Also the node that acts (document 02, W-202), and all of it past the
-- transitions that a hold shuts (W-205), with what leaving machines costs (W-207).
use Rattle.std.specs.Prelude.{◌≡◌, cond, List, [], ◌∷◌, ◌++◌, ℕ, zero, suc, ◌+◌}
use Rattle.std.proofs.Math.Option.{Option, none, some}
use Rattle.definitions.specs.Basics.{◌>>=◌, option, is_at, All}
use Rattle.definitions.specs.Limits.{levels}
use Rattle.definitions.specs.Tree.{Tree, Transition, on_hold, path, unless_into}

-- to enter a node: a plain node is the state; else on to the start node of the machine below it
unfoldable pub enter_f : ℕ → Tree → ℕ → Option ℕ
enter_f zero t n = none
enter_f (suc k) t n = option (some n) (λ m. t.start m >>= λ s. enter_f k t s) (t.below n)

unfoldable pub enter : Tree → ℕ → Option ℕ
enter t n = enter_f levels t n

-- the state where a machine starts (document 01: M's start state)
unfoldable pub start_state : Tree → ℕ → Option ℕ
start_state t m = t.start m >>= λ s. enter t s

-- The transition of a node that counts for a command (document 01, "The tree and its step"): one into a held node is shut, and counts as
-- absent (document 02, W-205). A node's own hold shuts none of its transitions, so a station inside may leave.
unfoldable pub counting : Tree → ℕ → ℕ → Option Transition
counting t n x = unless_into (on_hold t) (t.transition n x)

-- what leaving a node's machine costs (document 02, W-207; it replaces document 01's "Leaving a machine costs nothing")
abbrev pub leaving_of : Tree → ℕ → ℕ
leaving_of t n = option 0 t.leave (t.owner n)

-- what leaving the machines of these nodes costs
abbrev pub leaving_all : Tree → List ℕ → ℕ
leaving_all t [] = 0
leaving_all t (n ∷ ns) = leaving_of t n + leaving_all t ns

-- Where a command finds a transition: at this node, with this target, at this cost, leaving included. Or it finds none up to machine
-- top, and leaving the machines below top cost this.
pub data Climb : Type 0 where
  found : (node target cost : ℕ) → Climb
  passed : (cost : ℕ) → Climb

-- the same after a machine was left at cost l
abbrev pub past : ℕ → Climb → Climb
past l (found n v c) = found n v (l + c)
past l (passed c) = passed (l + c)

-- the transition a of node n, or else what is found further up
abbrev pub first_of : ℕ → Option Transition → Climb → Climb
first_of n none up = up
first_of n (some a) up = found n a.target a.cost

-- the first node of a path that has a transition for x which counts, looking no further than the nodes of machine top
unfoldable pub look : Tree → ℕ → ℕ → List ℕ → Climb
look t top x [] = passed 0
look t top x (n ∷ up) =
    first_of n (counting t n x) (cond (is_at (t.owner n) top) (passed 0) (past (leaving_of t n) (look t top x up)))

-- the lowest node, n itself first and then the nodes that hold it, up to those of machine top, that has a transition for x which counts
unfoldable pub climb : Tree → ℕ → ℕ → ℕ → Climb
climb t top n x = look t top x (path t n)

-- a node, and what it cost to come there
pub record Arrival : Type 0 where
  pub node : ℕ
  pub cost : ℕ

-- a list of commands, each done from where the one before arrived; none where one of them leads nowhere
unfoldable pub run_by : (ℕ → ℕ → Option Arrival) → ℕ → List ℕ → Option Arrival
run_by f n [] = some (record { node = n; cost = 0 })
run_by f n (x ∷ xs) = f n x >>= λ a. run_by f a.node xs >>= λ b. some (record { node = b.node; cost = a.cost + b.cost })

-- the target is entered; where nothing was found the station stops
abbrev pub follow : Tree → Climb → Option Arrival
follow t (found n v c) = enter t v >>= λ s. some (record { node = s; cost = c })
follow t (passed c) = none

-- what a command does at a state if only transitions in machine top or below it are used; none where it finds none there
unfoldable pub step_in : Tree → ℕ → ℕ → ℕ → Option Arrival
step_in t top s x = follow t (climb t top s x)

-- what a command does at a state (document 01: the step and its charge); none where the station stops
abbrev pub step : Tree → ℕ → ℕ → Option Arrival
step t = step_in t t.root

-- the node where a climb found a transition; none where it found none
abbrev pub found_at : Climb → Option ℕ
found_at (found n v c) = some n
found_at (passed c) = none

-- the acting node: the one whose transition a command uses at a state (document 02, W-202: the node whose arrow was used); none where
-- the station stops
unfoldable pub acting : Tree → ℕ → ℕ → Option ℕ
acting t s x = found_at (climb t t.root s x)

-- node n is the lowest of a way up that has a transition for x which counts
pub record Lowest (t : Tree) (x : ℕ) (way : List ℕ) (n : ℕ) : Type 0 where
  pub lower : List ℕ
  pub upper : List ℕ
  pub on_the_way : way ≡ lower ++ n ∷ upper
  pub lower_none : All (λ d. counting t d x ≡ none) lower
  pub transition : Transition
  pub counts : counting t n x ≡ some transition

-- where a list of commands leads and what it costs, with transitions in machine top or below it
abbrev pub run_in : Tree → ℕ → ℕ → List ℕ → Option Arrival
run_in t top = run_by (step_in t top)

-- where a list of commands moves the station and its cost; none where a command stops it
abbrev pub run : Tree → ℕ → List ℕ → Option Arrival
run t = run_by (step t)

-- the list moves the station from a to b at this cost (document 01: moves)
abbrev pub Moves : Tree → ℕ → ℕ → List ℕ → ℕ → Type 0
Moves t a b xs c = run t a xs ≡ some (record { node = b; cost = c })

-- the states that a list passes: the one where it begins and each that a command leads to
unfoldable pub passes : Tree → ℕ → List ℕ → List ℕ
passes t s [] = s ∷ []
passes t s (x ∷ xs) = s ∷ option [] (λ a. passes t a.node xs) (step t s x)
