-- What the inner functions of this crate decide: the conditions of a true sheet, sorted by what they are about: one machine, one node, the
-- names that lead from a node to its machine's start. The public contract names none of these.
use Rattle.std.specs.Prelude.{◌≡◌, ◌⊎◌, true, false, List, ℕ, ◌+◌, ◌≤◌, ◌<◌, length, get_or}
use Rattle.std.proofs.Math.Option.{Option, none, some}
use Rattle.definitions.specs.Basics.{iterate}
use Rattle.definitions.specs.Limits.{machines, nodes, commands, sheet_length, longest_chain}
use Rattle.definitions.specs.Tree.{Tree, parent}
use Rattle.definitions.specs.Step.{counting, Arrival}
use Rattle.definitions.specs.Sheet.{Rows, machine_row_word, rows_of}
use Rattle.definitions.specs.Truth.{node_exit, move, BlankMachine, BlankNode, Named, Ended}

-- o is there and is no more than k
abbrev pub AtMost : Option ℕ → ℕ → Type 0
AtMost o k = (d : ℕ) × (o ≡ some d) × (d ≤ k)

-- the cost of node u, its own exit cost for x and w together are c
pub record AddsUp (t : Tree) (r : Rows) (u x w c : ℕ) : Type 0 where
  pub node_cost : ℕ
  pub node_exit_cost : ℕ
  pub reached : r.cost u ≡ some node_cost
  pub exits : node_exit t r u x ≡ some node_exit_cost
  pub exact : c ≡ node_cost + node_exit_cost + w

-- ---- a machine

-- nothing stands in the row of machine m for x
abbrev pub BlankExit : Rows → ℕ → ℕ → Type 0
BlankExit r m x = (r.exit m x ≡ none) × (r.last m x ≡ none)

-- the exit cost of machine m for x has its last node; where there is no exit there is no last node
pub record ExitFits (t : Tree) (r : Rows) (m x : ℕ) : Type 0 where
  pub ended : (c : ℕ) → r.exit m x ≡ some c → Ended t r m x c
  pub no_exit : r.exit m x ≡ none → r.last m x ≡ none

-- and so for every command
abbrev pub ExitsFit : Tree → Rows → ℕ → Type 0
ExitsFit t r m = (x : ℕ) → x < commands → ExitFits t r m x

-- the machine above machine m, where there is one, is stale
abbrev pub AboveStale : Tree → Rows → ℕ → Type 0
AboveStale t r m = (p : ℕ) → parent t m ≡ some p → r.stale p ≡ true

-- the words of machine m fit
pub record MachineRowFits (t : Tree) (ws : List ℕ) (m : ℕ) : Type 0 where
  pub mark : (machine_row_word ws m 0 ≡ 0) ⊎ (machine_row_word ws m 0 ≡ 1)
  pub unused : t.start m ≡ none → ((rows_of ws).stale m ≡ false) × BlankMachine (rows_of ws) m
  pub stale : (rows_of ws).stale m ≡ true → BlankMachine (rows_of ws) m × AboveStale t (rows_of ws) m
  pub filled : (s : ℕ) → t.start m ≡ some s → (rows_of ws).stale m ≡ false → ExitsFit t (rows_of ws) m

abbrev pub MachineRowsFit : Tree → List ℕ → Type 0
MachineRowsFit t ws = (m : ℕ) → m < machines → MachineRowFits t ws m

-- ---- a node

-- the row of a start node
pub record StartRowFits (r : Rows) (n : ℕ) : Type 0 where
  pub cost : r.cost n ≡ some 0
  pub before : r.before n ≡ none
  pub by : r.by n ≡ none

-- node n of machine m, reached at cost c, is left by x at no less than what stands at the transition's target, or in m's row where no
-- transition counts for x
pub record RelaxedBy (t : Tree) (r : Rows) (m n c x : ℕ) : Type 0 where
  pub moves : (b : Arrival) → move t r n x ≡ some b → AtMost (r.cost b.node) (c + b.cost)
  pub exits : (e : ℕ) → counting t n x ≡ none → node_exit t r n x ≡ some e → AtMost (r.exit m x) (c + e)

-- and so by every command
abbrev pub RelaxedAt : Tree → Rows → ℕ → ℕ → ℕ → Type 0
RelaxedAt t r m n c = (x : ℕ) → x < commands → RelaxedBy t r m n c x

-- the row of node n of machine m, which is not stale, fits
pub record FilledFits (t : Tree) (r : Rows) (m n : ℕ) : Type 0 where
  pub start : t.start m ≡ some n → StartRowFits r n
  pub unreached : r.cost n ≡ none → BlankNode r n
  pub named : (c : ℕ) → r.cost n ≡ some c → (t.start m ≡ some n → ⊥) → Named t r m n c
  pub relaxed : (c : ℕ) → r.cost n ≡ some c → RelaxedAt t r m n c

-- the row of node n fits
pub record NodeRowFits (t : Tree) (r : Rows) (n : ℕ) : Type 0 where
  pub unused : t.owner n ≡ none → BlankNode r n
  pub stale : (m : ℕ) → t.owner n ≡ some m → r.stale m ≡ true → BlankNode r n
  pub filled : (m : ℕ) → t.owner n ≡ some m → r.stale m ≡ false → FilledFits t r m n

abbrev pub NodeRowsFit : Tree → Rows → Type 0
NodeRowsFit t r = (n : ℕ) → n < nodes → NodeRowFits t r n

-- ---- the names that lead to a start

-- from node n, k names lead to a node that has none before it
pub record NamesLead (r : Rows) (n k : ℕ) : Type 0 where
  pub first : ℕ
  pub leads : iterate r.before k n ≡ some first
  pub ends : r.before first ≡ none

-- and that in few enough steps
abbrev pub ChainFits : Rows → ℕ → Type 0
ChainFits r n = (k : ℕ) × (k ≤ longest_chain) × NamesLead r n k

abbrev pub ChainsFit : Rows → Type 0
ChainsFit r = (n : ℕ) → n < nodes → ChainFits r n

-- what stands before a node is a node
abbrev pub NamesFit : Rows → Type 0
NamesFit r = (n u : ℕ) → r.before n ≡ some u → u < nodes

-- a list with as many words as a sheet has, in which what stands before a node is a node
pub record Chained (sheet : List ℕ) : Type 0 where
  pub long : length sheet ≡ sheet_length
  pub names : NamesFit (rows_of sheet)

-- k is the number of steps from node n, or more than the most where there are too many
pub record Follows (r : Rows) (n k : ℕ) : Type 0 where
  pub near : k ≤ longest_chain → NamesLead r n k
  pub far : longest_chain < k → ChainFits r n → ⊥

-- the count of a node that is not counted yet
abbrev pub uncounted : ℕ
uncounted = 65535

-- the steps of the nodes that are counted
pub record Counted (r : Rows) (counts : List ℕ) : Type 0 where
  pub size : length counts ≡ nodes
  pub right : (n : ℕ) → n < nodes → (get_or counts n 0 ≡ uncounted → ⊥) → (get_or counts n 0 ≤ longest_chain) × NamesLead r n (get_or counts n 0)
