-- What the parts of the search for a plan leave: the list of opened machines, where nodes land in them, what machines inherit, and the tables of
-- the moves between their nodes.
use Rattle.std.specs.Prelude.{◌≡◌, Bool, true, false, cond, ◌||◌, List, ℕ, ◌+◌, ◌<◌}
use Rattle.std.proofs.Math.Option.{Option, none, some}
use Rattle.definitions.specs.Basics.{◌>>=◌, option}
use Rattle.definitions.specs.Limits.{nodes}
use Rattle.definitions.specs.Tree.{Tree, Transition, over}
use Rattle.definitions.specs.Step.{Arrival}
use Rattle.definitions.specs.Sheet.{Rows}
use Rattle.definitions.specs.Truth.{node_exit}
use Rattle.book.specs.Chosen.{chosen}
use Rattle.plantheory.specs.Search.{opened_for, land, plan_move}
use Rattle.inheriting.specs.Inheriting.{NodeList, finds, UpRoom, MachineRow, Handed}
use Rattle.search.specs.Parts.{at}

-- ---- the opened machines

-- whether a list of words, one for each machine, says that machine m is opened: its word is 1
unfoldable pub is_open : List ℕ → ℕ → Bool
is_open words m = chosen words m

-- the machine of node s and all above it are opened, and the others are as they were
pub record MachinesOpened (t : Tree) (s : ℕ) (old new : List ℕ) : Type 0 where
  pub says : (m : ℕ) → is_open new m ≡ (over t m s || is_open old m)

-- the machines above a and b are opened, and no others
abbrev pub OpenedFor : Tree → ℕ → ℕ → List ℕ → Type 0
OpenedFor t a b words = is_open words ≡ opened_for t a b

-- whether node n belongs to an opened machine
unfoldable pub in_opened : Tree → (ℕ → Bool) → ℕ → Bool
in_opened t opened n = option false opened (t.owner n)

-- ---- where the nodes land

-- each node's word is the node itself
abbrev pub Itself : List ℕ → Type 0
Itself words = (v : ℕ) → v < nodes → at words v ≡ v

-- the word of node v is where it lands
abbrev pub LandsAt : Tree → (ℕ → Bool) → List ℕ → ℕ → Type 0
LandsAt t opened lands v = (land t opened v ≡ some (at lands v)) × (at lands v < nodes)

-- so it is for the nodes that hold the machine of node s or one above it, and for those for which it was before
pub record LandedAbove (t : Tree) (opened : ℕ → Bool) (s : ℕ) (old new : List ℕ) : Type 0 where
  pub told : (v b : ℕ) → t.below v ≡ some b → over t b s ≡ true → LandsAt t opened new v
  pub kept : (v : ℕ) → LandsAt t opened old v → LandsAt t opened new v

-- the list has for every node the node where it lands
pub record Landings (t : Tree) (opened : ℕ → Bool) (lands : List ℕ) : Type 0 where
  pub list : NodeList lands
  pub says : (v : ℕ) → v < nodes → land t opened v ≡ some (at lands v)

-- ---- what the machines above a node inherit

-- the rows of node n's machine and all above it
abbrev pub HandedAbove : Tree → List ℕ → ℕ → List ℕ → List ℕ → Type 0
HandedAbove t lands n = Handed t lands (λ p x. over t p n ≡ true)

-- the lists that the tables are filled from: where the nodes land, and what the opened machines inherit
pub record Prepared (t : Tree) (opened : ℕ → Bool) (lands up : List ℕ) : Type 0 where
  pub landings : Landings t opened lands
  pub room : UpRoom up
  pub inherited : (m : ℕ) → opened m ≡ true → MachineRow t lands up m

-- ---- the tables

-- the move by what is found from a node that is left at this cost, if it is
abbrev pub leaves : Option ℕ → Option Transition → Option Arrival
leaves exit way = exit >>= λ e. way >>= λ a. some (record { node = a.target; cost = e + a.cost })

-- the move of node n for x, by the nodes where its targets land
unfoldable pub land_move : Tree → Rows → List ℕ → ℕ → ℕ → Option Arrival
land_move t r lands n x = leaves (node_exit t r n x) (finds t lands n x)

-- the moves that the tables hold: those of the nodes in opened machines
unfoldable pub open_move : Tree → Rows → (ℕ → Bool) → ℕ → ℕ → Option Arrival
open_move t r opened n x = cond (in_opened t opened n) (plan_move t r opened n x) none
