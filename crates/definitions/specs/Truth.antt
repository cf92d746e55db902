-- Document 01, "Book and sheet in memory": when a sheet is true. Transitions are those that count: document 02, W-205, has no shut one in a
-- sheet. A refined node's exit cost has what leaving the machine below it costs (W-207).
use Rattle.std.specs.Prelude.{◌≡◌, ◌⊎◌, true, false, List, ℕ, ◌+◌, ◌≤◌, ◌<◌, length}
use Rattle.std.proofs.Math.Option.{Option, none, some}
use Rattle.definitions.specs.Basics.{◌>>=◌, option, iterate, Least}
use Rattle.definitions.specs.Limits.{machines, commands, sheet_length, longest_chain}
use Rattle.definitions.specs.Tree.{Tree, parent}
use Rattle.definitions.specs.Step.{counting, Arrival, run_by}
use Rattle.definitions.specs.Costs.{ExitCost}
use Rattle.definitions.specs.Sheet.{Rows, machine_row_word, rows_of}

-- a node's own exit cost for a command, by the rows: 0 for a plain node, and for a refined one that of the machine below it plus what leaving
-- this machine costs (document 02, W-207). (Below a machine that is not stale none is, so these exit costs are true ones.)
unfoldable pub node_exit : Tree → Rows → ℕ → ℕ → Option ℕ
node_exit t r n x = option (some 0) (λ m. r.exit m x >>= λ e. some (e + t.leave m)) (t.below n)

-- a move inside a machine by the transition of node n for x, where it counts: the exit cost of the node left plus the transition's
unfoldable pub move : Tree → Rows → ℕ → ℕ → Option Arrival
move t r n x = counting t n x >>= λ a. node_exit t r n x >>= λ e. some (record { node = a.target; cost = e + a.cost })

-- a list of moves inside a machine
abbrev pub run_inside : Tree → Rows → ℕ → List ℕ → Option Arrival
run_inside t r = run_by (move t r)

-- the least cost for reaching node n from node s inside their machine; none where no list of moves reaches it
abbrev pub LeastInside : Tree → Rows → ℕ → ℕ → Option ℕ → Type 0
LeastInside t r s n = Least (λ c. (xs : List ℕ) × (run_inside t r s xs ≡ some (record { node = n; cost = c })))

-- nothing stands in the row of a machine, its mark aside, and in that of a node
pub record BlankMachine (r : Rows) (m : ℕ) : Type 0 where
  pub exit : (x : ℕ) → x < commands → r.exit m x ≡ none
  pub last : (x : ℕ) → x < commands → r.last m x ≡ none

pub record BlankNode (r : Rows) (n : ℕ) : Type 0 where
  pub cost : r.cost n ≡ none
  pub before : r.before n ≡ none
  pub by : r.by n ≡ none

-- node n of machine m, reached at cost c, names a transition of a node of m that leads to n at exactly this cost
pub record Named (t : Tree) (r : Rows) (m n c : ℕ) : Type 0 where
  pub node : ℕ
  pub command : ℕ
  pub node_cost : ℕ
  pub step_cost : ℕ
  pub before : r.before n ≡ some node
  pub by : r.by n ≡ some command
  pub command_range : command < commands
  pub owned : t.owner node ≡ some m
  pub reached : r.cost node ≡ some node_cost
  pub moves : move t r node command ≡ some (record { node = n; cost = step_cost })
  pub exact : c ≡ node_cost + step_cost

-- exit cost c of machine m for x has a last node: one of m with no transition for x that counts, whose cost plus own exit cost is c
pub record Ended (t : Tree) (r : Rows) (m x c : ℕ) : Type 0 where
  pub node : ℕ
  pub node_cost : ℕ
  pub node_exit_cost : ℕ
  pub last : r.last m x ≡ some node
  pub owned : t.owner node ≡ some m
  pub free : counting t node x ≡ none
  pub reached : r.cost node ≡ some node_cost
  pub exits : node_exit t r node x ≡ some node_exit_cost
  pub exact : c ≡ node_cost + node_exit_cost

-- the row of machine m, whose start node is s, is filled and true
pub record TrueMachine (t : Tree) (r : Rows) (m s : ℕ) : Type 0 where
  pub least : (n : ℕ) → t.owner n ≡ some m → LeastInside t r s n (r.cost n)
  pub start_cost : r.cost s ≡ some 0
  pub start_before : r.before s ≡ none
  pub start_by : r.by s ≡ none
  pub named : (n c : ℕ) → t.owner n ≡ some m → (n ≡ s → ⊥) → r.cost n ≡ some c → Named t r m n c
  pub chain : (n c : ℕ) → t.owner n ≡ some m → r.cost n ≡ some c → (k : ℕ) × (k ≤ longest_chain) × (iterate r.before k n ≡ some s)
  pub unreached : (n : ℕ) → t.owner n ≡ some m → r.cost n ≡ none → BlankNode r n
  pub exit : (x : ℕ) → x < commands → ExitCost t m x (r.exit m x)
  pub ended : (x c : ℕ) → x < commands → r.exit m x ≡ some c → Ended t r m x c
  pub no_exit : (x : ℕ) → x < commands → r.exit m x ≡ none → r.last m x ≡ none

-- the blank rule: rows of unused machines and nodes, and of stale machines and their nodes, are blank; unused marks are 0
pub record BlankRule (t : Tree) (r : Rows) : Type 0 where
  pub unused_stale : (m : ℕ) → t.start m ≡ none → r.stale m ≡ false
  pub unused_machine_lem : (m : ℕ) → t.start m ≡ none → BlankMachine r m
  pub unused_node_lem : (n : ℕ) → t.owner n ≡ none → BlankNode r n
  pub stale_machine : (m : ℕ) → r.stale m ≡ true → BlankMachine r m
  pub stale_node : (n m : ℕ) → t.owner n ≡ some m → r.stale m ≡ true → BlankNode r n

-- the rows are true of the tree (document 01: a sheet is true)
pub record TrueRows (t : Tree) (r : Rows) : Type 0 where
  pub blanks : BlankRule t r
  -- no machine that is not stale has a stale one below it: the machine above a stale one is stale, and so on up
  pub stale_above : (m p : ℕ) → r.stale m ≡ true → parent t m ≡ some p → r.stale p ≡ true
  -- every other machine's row is true
  pub filled : (m s : ℕ) → t.start m ≡ some s → r.stale m ≡ false → TrueMachine t r m s

-- a sheet is true of a tree: it has as many words as a sheet has, every mark is 0 or 1, and its rows are true
pub record TrueSheet (t : Tree) (ws : List ℕ) : Type 0 where
  pub length : length ws ≡ sheet_length
  pub marks : (m : ℕ) → m < machines → (machine_row_word ws m 0 ≡ 0) ⊎ (machine_row_word ws m 0 ≡ 1)
  pub rows : TrueRows t (rows_of ws)
