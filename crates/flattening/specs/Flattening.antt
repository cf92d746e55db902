-- The step of every state as the moves of tables, and least costs by a search over them.
use Rattle.std.specs.Prelude.{◌≡◌, ◌⊎◌, cond, List, ℕ, ◌≤◌, ◌<◌}
use Rattle.std.proofs.Math.Option.{Option, none, some}
use Rattle.definitions.specs.Limits.{nodes}
use Rattle.definitions.specs.Tree.{Tree, UsedNode, is_state, level}
use Rattle.definitions.specs.Step.{enter, Arrival, step}
use Rattle.definitions.specs.Costs.{LeastCost}
use Rattle.definitions.specs.Book.{tree_of, WellFormed}
use Rattle.search.specs.Search.{distance_of}
use Rattle.search.specs.Parts.{at}
use Rattle.inheriting.specs.Inheriting.{NodeList, OwnerRow, Handed}

-- ---- where the nodes are entered

-- a number for node n that is a node's, and the state where n is entered if it is in use
pub record EnteredAt (t : Tree) (n r : ℕ) : Type 0 where
  pub small : r < nodes
  pub says : UsedNode t n → enter t n ≡ some r

-- the list has such a number for every node
pub record Entered (t : Tree) (lands : List ℕ) : Type 0 where
  pub list : NodeList lands
  pub says : (v : ℕ) → v < nodes → EnteredAt t v (at lands v)

-- ---- what the machines inherit, level by level

-- the machines of the nodes down to level l have their rows
abbrev pub LevelRows : Tree → List ℕ → List ℕ → ℕ → Type 0
LevelRows t lands up l = (n : ℕ) → UsedNode t n → level t n ≤ l → OwnerRow t lands up n

-- machine m is held by a node at level l
abbrev pub HeldAt : Tree → ℕ → ℕ → Type 0
HeldAt t l m = (h : ℕ) × (t.holder m ≡ some h) × (level t h ≡ l)

-- the words of the machines that are told of and are held at level l say what is inherited, and so do those that said it before
abbrev pub HandedAt : Tree → List ℕ → ℕ → (ℕ → Type 0) → List ℕ → List ℕ → Type 0
HandedAt t lands l Told = Handed t lands (λ p x. Told p × HeldAt t l p)

-- ---- the tables

-- the moves that the tables hold: the steps of the states
unfoldable pub flat_move : Tree → ℕ → ℕ → Option Arrival
flat_move t n x = cond (is_state t n) (step t n x) none

-- ---- the search

-- a well-formed book, and a state of it to search from
pub record Searchable (book : List ℕ) (a : ℕ) : Type 0 where
  pub well_formed : WellFormed book
  pub from_used : UsedNode (tree_of book) a
  pub from_plain : (tree_of book).below a ≡ none

-- the distance of b is the least cost from a, and where b has none that of every node is
pub record Spread (t : Tree) (a b : ℕ) (dist : List ℕ) : Type 0 where
  pub least : (v : ℕ) → (v ≡ b) ⊎ (distance_of nodes dist b ≡ none) → LeastCost t a v (distance_of nodes dist v)
