-- Document 01, "The tree and its step", with document 02's holds (W-205) and leaving charges (W-207): the tree of machines, and when it is one. No
-- word of memory stands here.
use Rattle.std.specs.Prelude.{◌≡◌, Bool, not, ◌&&◌, List, [], ◌∷◌, ℕ, zero, suc, ◌<◌, eqb, length}
use Rattle.std.proofs.Math.Option.{Option, none, some}
use Rattle.definitions.specs.Basics.{◌>>=◌, option, unless, is_some, is_at, put, iterate, count_below, any_of}
use Rattle.definitions.specs.Limits.{machines, nodes, commands, costs, levels}

-- one transition of a node (document 01: an arrow and its charge)
pub record Transition : Type 0 where
  pub target : ℕ
  pub cost : ℕ

-- A tree of machines. A machine is in use where it has a start node, a node where it has an owner.
pub record Tree : Type 0 where
  -- the root machine
  pub root : ℕ
  -- the machine that a node belongs to
  pub owner : ℕ → Option ℕ
  -- the machine that a node holds (document 01: machine below); a node that holds none is plain
  pub below : ℕ → Option ℕ
  -- the start node of a machine
  pub start : ℕ → Option ℕ
  -- the node that holds a machine (document 01: holding node)
  pub holder : ℕ → Option ℕ
  -- the transition of a node for a command
  pub transition : ℕ → ℕ → Option Transition
  -- 1 for a node that is held, 0 for every other (document 02, W-205: a hold)
  pub hold : ℕ → ℕ
  -- what leaving a machine costs (document 02, W-207: its leaving charge)
  pub leave : ℕ → ℕ

-- the tree with m as its root
abbrev pub with_root : Tree → ℕ → Tree
with_root t m =
    record { root = m; owner = t.owner; below = t.below; start = t.start; holder = t.holder; transition = t.transition; hold = t.hold; leave = t.leave }

-- the tree with other fields of its nodes
abbrev pub with_nodes : Tree → (owner below : ℕ → Option ℕ) → (transition : ℕ → ℕ → Option Transition) → (hold : ℕ → ℕ) → Tree
with_nodes t owner below transition hold =
    record { root = t.root; owner = owner; below = below; start = t.start; holder = t.holder; transition = transition; hold = hold; leave = t.leave }

-- the tree with other fields of its machines
abbrev pub with_machines : Tree → (start holder : ℕ → Option ℕ) → (leave : ℕ → ℕ) → Tree
with_machines t start holder leave =
    record { root = t.root; owner = t.owner; below = t.below; start = start; holder = holder; transition = t.transition; hold = t.hold; leave = leave }

-- the tree with o as the owner of node n
abbrev pub with_owner : Tree → ℕ → Option ℕ → Tree
with_owner t n o = with_nodes t (put t.owner n o) t.below t.transition t.hold

-- the tree with o as the machine below node n
abbrev pub with_below : Tree → ℕ → Option ℕ → Tree
with_below t n o = with_nodes t t.owner (put t.below n o) t.transition t.hold

-- the tree with other transitions
abbrev pub with_transitions : Tree → (ℕ → ℕ → Option Transition) → Tree
with_transitions t transition = with_nodes t t.owner t.below transition t.hold

-- the tree with b as the hold of node n (document 02, W-205)
abbrev pub with_node_hold : Tree → ℕ → ℕ → Tree
with_node_hold t n b = with_nodes t t.owner t.below t.transition (put t.hold n b)

-- the tree with o as the start node of machine m
abbrev pub with_start_of : Tree → ℕ → Option ℕ → Tree
with_start_of t m o = with_machines t (put t.start m o) t.holder t.leave

-- the tree with o as the node that holds machine m
abbrev pub with_holder : Tree → ℕ → Option ℕ → Tree
with_holder t m o = with_machines t t.start (put t.holder m o) t.leave

-- the tree where leaving machine m costs c (document 02, W-207)
abbrev pub with_leave : Tree → ℕ → ℕ → Tree
with_leave t m c = with_machines t t.start t.holder (put t.leave m c)

-- whether a machine, a node is in use
abbrev pub used_machine : Tree → ℕ → Bool
used_machine t m = is_some (t.start m)

abbrev pub used_node : Tree → ℕ → Bool
used_node t n = is_some (t.owner n)

-- whether a node is held (document 02, W-205)
abbrev pub on_hold : Tree → ℕ → Bool
on_hold t n = eqb (t.hold n) 1

-- in use, as statements
abbrev pub UsedMachine : Tree → ℕ → Type 0
UsedMachine t m = (s : ℕ) × (t.start m ≡ some s)

abbrev pub UsedNode : Tree → ℕ → Type 0
UsedNode t n = (m : ℕ) × (t.owner n ≡ some m)

-- whether a node is a state (document 01: a plain node)
abbrev pub is_state : Tree → ℕ → Bool
is_state t n = used_node t n && not (is_some (t.below n))

-- how many states there are
unfoldable pub states : Tree → ℕ
states t = count_below nodes (is_state t)

-- the machine just above a machine: the owner of the node that holds it
unfoldable pub parent : Tree → ℕ → Option ℕ
parent t m = t.holder m >>= t.owner

-- the node that holds a node's machine
unfoldable pub above : Tree → ℕ → Option ℕ
above t n = t.owner n >>= t.holder

-- a node, the node that holds its machine, and so on up to a node of the root: one node for each level
unfoldable pub path_f : ℕ → Tree → ℕ → List ℕ
path_f zero t n = []
path_f (suc k) t n = n ∷ option [] (λ h. path_f k t h) (above t n)

unfoldable pub path : Tree → ℕ → List ℕ
path t n = path_f levels t n

-- the level of a node's machine, 1 for the root
unfoldable pub level : Tree → ℕ → ℕ
level t n = length (path t n)

-- whether node d is node n or below it
unfoldable pub within : Tree → ℕ → ℕ → Bool
within t n d = any_of (eqb n) (path t d)

-- whether machine p owns node n or is above n's machine
unfoldable pub over : Tree → ℕ → ℕ → Bool
over t p n = any_of (λ d. is_at (t.owner d) p) (path t n)

-- a transition, but none where its target passes the test
abbrev pub unless_into : (ℕ → Bool) → Option Transition → Option Transition
unless_into p o = o >>= λ a. unless (p a.target) (some a)

-- document 01's conditions on a tree: numbers in range, unused records empty, and "well formed"; document 02's of holds (W-205) and of leaving
-- charges (W-207)
pub record Sound (t : Tree) : Type 0 where
  -- the root is in use and no node holds it
  pub root_used : UsedMachine t t.root
  pub root_free : t.holder t.root ≡ none
  -- numbers in use are in range
  pub machine_range : (m s : ℕ) → t.start m ≡ some s → m < machines
  pub node_range : (n m : ℕ) → t.owner n ≡ some m → n < nodes
  -- a node belongs to a machine in use, and a start node to its machine
  pub owner_used : (n m : ℕ) → t.owner n ≡ some m → UsedMachine t m
  pub start_owned : (m s : ℕ) → t.start m ≡ some s → t.owner s ≡ some m
  -- holder and held name each other and are in use: an unused node holds nothing, an unused machine has no holder
  pub below_held : (n m : ℕ) → t.below n ≡ some m → t.holder m ≡ some n
  pub held_below : (m n : ℕ) → t.holder m ≡ some n → t.below n ≡ some m
  pub holder_used : (m n : ℕ) → t.holder m ≡ some n → UsedNode t n
  pub held_used : (m n : ℕ) → t.holder m ≡ some n → UsedMachine t m
  -- transitions are for commands, cost less than 65,536, and stay in the machine of their node; an unused node has none
  pub transition_range : (n x : ℕ) (a : Transition) → t.transition n x ≡ some a → (x < commands) × (a.cost < costs)
  pub transition_owned : (n x : ℕ) (a : Transition) → t.transition n x ≡ some a
      → (m : ℕ) × (t.owner n ≡ some m) × (t.owner a.target ≡ some m)
  -- a hold is 0 or 1, and 0 at an unused node and at a start node
  pub hold_range : (n : ℕ) → t.hold n < 2
  pub hold_used : (n : ℕ) → t.hold n ≡ 1 → UsedNode t n
  pub hold_start : (m s : ℕ) → t.start m ≡ some s → t.hold s ≡ 0
  -- leaving a machine costs less than 65,536, and nothing where it is not in use or is the root
  pub leave_range : (m : ℕ) → t.leave m < costs
  pub leave_used : (m : ℕ) → t.start m ≡ none → t.leave m ≡ 0
  pub leave_root : t.leave t.root ≡ 0
  -- every machine in use climbs to the root in at most 7 steps
  pub climbs : (m s : ℕ) → t.start m ≡ some s → (k : ℕ) × (k < levels) × (iterate (parent t) k m ≡ some t.root)
