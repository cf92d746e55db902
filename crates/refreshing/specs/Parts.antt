-- What the parts of a refresh leave: the nodes of one machine at places 0 to k - 1, the tables of their moves, what a search over these
-- places finds, and the rows that are filled with it.
use Rattle.std.specs.Prelude.{◌≡◌, false, List, ℕ, ◌+◌, ◌≤◌, ◌<◌, length}
use Rattle.std.proofs.Math.Option.{Option, none, some}
use Rattle.definitions.specs.Basics.{◌>>=◌}
use Rattle.definitions.specs.Limits.{nodes, commands, absent, blank, largest_plan_cost}
use Rattle.definitions.specs.Tree.{Tree, UsedNode}
use Rattle.definitions.specs.Step.{counting, Arrival}
use Rattle.definitions.specs.Book.{number}
use Rattle.definitions.specs.Sheet.{Rows, rows_of}
use Rattle.definitions.specs.Truth.{node_exit, move}
use Rattle.search.specs.Search.{Certificate, largest_move, unreached, reached, move_of, distance_of, name_of}
use Rattle.search.specs.Parts.{at}
use Rattle.search.specs.Tables.{FoundRoom, Tabled}
use Rattle.sheet.specs.Fields.{Leaves, with_exit, with_last, with_cost, with_before, with_by}

-- ---- the rows of one machine

-- no row but that of machine m and those of its nodes is touched, no mark but m's, and m is not stale any more
pub record Fills (t : Tree) (m : ℕ) (r q : Rows) : Type 0 where
  pub fresh : q.stale m ≡ false
  pub stale : (p : ℕ) → (p ≡ m → ⊥) → q.stale p ≡ r.stale p
  pub exit : (p x : ℕ) → (p ≡ m → ⊥) → q.exit p x ≡ r.exit p x
  pub last : (p x : ℕ) → (p ≡ m → ⊥) → q.last p x ≡ r.last p x
  pub cost : (n : ℕ) → (t.owner n ≡ some m → ⊥) → q.cost n ≡ r.cost n
  pub before : (n : ℕ) → (t.owner n ≡ some m → ⊥) → q.before n ≡ r.before n
  pub by : (n : ℕ) → (t.owner n ≡ some m → ⊥) → q.by n ≡ r.by n

-- the exit costs of every machine but m are the same
pub record ExitsKept (m : ℕ) (r q : Rows) : Type 0 where
  pub same : (p x : ℕ) → (p ≡ m → ⊥) → q.exit p x ≡ r.exit p x

-- ---- the nodes of one machine, by their places

-- k nodes, at places 0 to k - 1, are the nodes of machine m
pub record Members (t : Tree) (m k : ℕ) (members places : ℕ → ℕ) : Type 0 where
  pub small : k ≤ nodes
  pub owned : (i : ℕ) → i < k → t.owner (members i) ≡ some m
  pub found : (n : ℕ) → t.owner n ≡ some m → (places n < k) × (members (places n) ≡ n)
  pub back : (i : ℕ) → i < k → places (members i) ≡ i

-- so far as the nodes below j go, in lists with room for every node
pub record Gathered (t : Tree) (m j k : ℕ) (members places : List ℕ) : Type 0 where
  pub members_room : length members ≡ nodes
  pub places_room : length places ≡ nodes
  pub many : k ≤ j
  pub owned : (i : ℕ) → i < k → t.owner (at members i) ≡ some m
  pub passed : (i : ℕ) → i < k → at members i < j
  pub found : (n : ℕ) → n < j → t.owner n ≡ some m → (at places n < k) × (at members (at places n) ≡ n)
  pub back : (i : ℕ) → i < k → at places (at members i) ≡ i

-- ---- the tables

-- a move, with its target's place for the target
abbrev pub placed : (ℕ → ℕ) → Option Arrival → Option Arrival
placed places o = o >>= λ b. some (record { node = places b.node; cost = b.cost })

-- the moves of the nodes at their places
abbrev pub member_move : Tree → Rows → (ℕ → ℕ) → (ℕ → ℕ) → ℕ → ℕ → Option Arrival
member_move t r members places i x = placed places (move t r (members i) x)

-- every node of n's machine has a place
pub record Placing (t : Tree) (places : List ℕ) (n : ℕ) : Type 0 where
  pub room : length places ≡ nodes
  pub used : UsedNode t n
  pub small : (v : ℕ) → t.owner v ≡ t.owner n → at places v < nodes

-- ---- what the search finds

-- the nodes of machine m are gathered, and the search over them is done
pub record Searches (t : Tree) (r : Rows) (m k : ℕ) (members places target price dist before by : List ℕ) : Type 0 where
  pub gathered : Gathered t m nodes k members places
  pub room : FoundRoom dist before by
  pub tabled : Tabled (member_move t r (at members) (at places)) k target price
  pub certificate : (s : ℕ) → t.start m ≡ some s
      → Certificate k (at places s) k (move_of k target price) (distance_of k dist) (name_of k before) (name_of k by)

-- ---- the nodes' rows

-- the names and costs of the k nodes stand in the rows
pub record NodesFilled (k : ℕ) (members : ℕ → ℕ) (distance place command : ℕ → Option ℕ) (q : Rows) : Type 0 where
  pub cost : (i : ℕ) → i < k → q.cost (members i) ≡ distance i
  pub before : (i : ℕ) → i < k → q.before (members i) ≡ (place i >>= λ j. some (members j))
  pub by : (i : ℕ) → i < k → q.by (members i) ≡ command i

-- the node at the place that o says
abbrev pub member_of : List ℕ → Option ℕ → Option ℕ
member_of members o = o >>= λ j. some (at members j)

-- a distance fits a cost's word, and a name is the place of a node
pub record CostFits (d : ℕ) : Type 0 where
  pub fits : (c : ℕ) → reached d ≡ some c → c < blank

pub record PlaceFits (members : List ℕ) (v : ℕ) : Type 0 where
  pub room : length members ≡ nodes
  pub fits : (j : ℕ) → number v ≡ some j → (j < nodes) × (at members j < nodes)

-- the rows with these values as the row of node n
abbrev pub with_node : Rows → ℕ → Option ℕ → Option ℕ → Option ℕ → Rows
with_node r n cost before by = with_by (with_before (with_cost r n cost) n before) n by

-- what is found of the k nodes can be written: each node is one of its own, costs fit a word, and names are places
pub record Writable (k : ℕ) (members dist before by : List ℕ) : Type 0 where
  pub members_room : length members ≡ nodes
  pub room : FoundRoom dist before by
  pub small : k ≤ nodes
  pub inside : (i : ℕ) → i < k → at members i < nodes
  pub apart : (i j : ℕ) → i < k → j < k → at members i ≡ at members j → i ≡ j
  pub costs : (i : ℕ) → i < k → CostFits (at dist i)
  pub names : (i : ℕ) → i < k → PlaceFits members (at before i)

-- what the first i of the k places say is written, and nothing else is touched
pub record NodesWritten (i : ℕ) (members dist before by sheet after : List ℕ) : Type 0 where
  pub leaves : Leaves sheet after (rows_of after)
  pub stale : (p : ℕ) → (rows_of after).stale p ≡ (rows_of sheet).stale p
  pub exit : (p x : ℕ) → (rows_of after).exit p x ≡ (rows_of sheet).exit p x
  pub last : (p x : ℕ) → (rows_of after).last p x ≡ (rows_of sheet).last p x
  pub cost : (n : ℕ) → ((j : ℕ) → j < i → n ≡ at members j → ⊥) → (rows_of after).cost n ≡ (rows_of sheet).cost n
  pub before_kept : (n : ℕ) → ((j : ℕ) → j < i → n ≡ at members j → ⊥) → (rows_of after).before n ≡ (rows_of sheet).before n
  pub by_kept : (n : ℕ) → ((j : ℕ) → j < i → n ≡ at members j → ⊥) → (rows_of after).by n ≡ (rows_of sheet).by n
  pub filled : NodesFilled i (at members) (λ j. reached (at dist j)) (λ j. number (at before j)) (λ j. number (at by j)) (rows_of after)

-- ---- the exits of one machine

-- the distances that a list's words say
abbrev pub distances : List ℕ → ℕ → Option ℕ
distances dist i = reached (at dist i)

-- node n, at this distance from the start, leaves its machine by x at cost d
pub record Way (t : Tree) (r : Rows) (n : ℕ) (distance : Option ℕ) (x d : ℕ) : Type 0 where
  pub node_cost : ℕ
  pub node_exit_cost : ℕ
  pub reached : distance ≡ some node_cost
  pub free : counting t n x ≡ none
  pub exits : node_exit t r n x ≡ some node_exit_cost
  pub exact : d ≡ node_cost + node_exit_cost

-- c is what it costs to come to a node at cost d, leave it at its own exit cost and go on at cost w; the word for none where it has none
pub record LeavesAt (exit : Option ℕ) (d w c : ℕ) : Type 0 where
  pub never : exit ≡ none → c ≡ unreached
  pub costs : (e : ℕ) → exit ≡ some e → (c ≡ d + e + w) × (c < unreached)

-- d is what leaving by x from node n costs, or the word for none where n has no way out
pub record WayCosts (t : Tree) (r : Rows) (n : ℕ) (distance : Option ℕ) (x d : ℕ) : Type 0 where
  pub top : d ≤ unreached
  pub way : d < unreached → Way t r n distance x d
  pub only : (e : ℕ) → Way t r n distance x e → d ≡ e

-- the cheapest way out by x from the nodes at the first j places, and the node that has it; no way where the cost is the word for none
pub record Cheapest (t : Tree) (r : Rows) (members : ℕ → ℕ) (distance : ℕ → Option ℕ) (x j cost node : ℕ) : Type 0 where
  pub least : (i d : ℕ) → i < j → Way t r (members i) (distance i) x d → cost ≤ d
  pub attained : cost < unreached → (i : ℕ) × (i < j) × (node ≡ members i) × Way t r (members i) (distance i) x cost
  pub top : cost ≤ unreached
  pub never : cost ≡ unreached → node ≡ absent

-- an exit cost and a last node for x say the cheapest way out
pub record ExitFilled (t : Tree) (r : Rows) (members : ℕ → ℕ) (distance : ℕ → Option ℕ) (k x : ℕ) (exit last : Option ℕ) : Type 0 where
  pub least : ℕ
  pub node : ℕ
  pub cheapest : Cheapest t r members distance x k least node
  pub says_exit : exit ≡ reached least
  pub says_last : last ≡ number node

-- a distance is no more than the largest cost of a plan
pub record IsNear (d : ℕ) : Type 0 where
  pub near : (c : ℕ) → reached d ≡ some c → c ≤ largest_plan_cost

-- so are the distances of the k nodes
pub record Near (k : ℕ) (members dist : List ℕ) : Type 0 where
  pub members_room : length members ≡ nodes
  pub dist_room : length dist ≡ nodes
  pub small : k ≤ nodes
  pub inside : (i : ℕ) → i < k → at members i < nodes
  pub near : (i : ℕ) → i < k → IsNear (at dist i)

-- and the k nodes belong to machine m and are left at no more than the largest cost of a move
pub record NearOut (t : Tree) (r : Rows) (m k : ℕ) (members dist : List ℕ) : Type 0 where
  pub reach : Near k members dist
  pub owned : (i : ℕ) → i < k → t.owner (at members i) ≡ some m
  pub out : (i x e : ℕ) → i < k → x < commands → node_exit t r (at members i) x ≡ some e → e ≤ largest_move

-- the exit of machine m for x is written, and nothing else is touched
pub record ExitWritten (t : Tree) (m k x : ℕ) (members dist sheet after : List ℕ) : Type 0 where
  pub least : ℕ
  pub node : ℕ
  pub cheapest : Cheapest t (rows_of sheet) (at members) (distances dist) x k least node
  pub leaves : Leaves sheet after (with_last (with_exit (rows_of sheet) m x (reached least)) m x (number node))

-- the exits for the first j commands are written, and nothing else is touched
pub record ExitsWritten (t : Tree) (m k j : ℕ) (members dist sheet after : List ℕ) : Type 0 where
  pub leaves : Leaves sheet after (rows_of after)
  pub stale : (p : ℕ) → (rows_of after).stale p ≡ (rows_of sheet).stale p
  pub cost : (n : ℕ) → (rows_of after).cost n ≡ (rows_of sheet).cost n
  pub before_kept : (n : ℕ) → (rows_of after).before n ≡ (rows_of sheet).before n
  pub by_kept : (n : ℕ) → (rows_of after).by n ≡ (rows_of sheet).by n
  pub exit : ExitsKept m (rows_of sheet) (rows_of after)
  pub last : (p x : ℕ) → (p ≡ m → ⊥) → (rows_of after).last p x ≡ (rows_of sheet).last p x
  pub each : (x : ℕ) → x < j
      → ExitFilled t (rows_of sheet) (at members) (distances dist) k x ((rows_of after).exit m x) ((rows_of after).last m x)
