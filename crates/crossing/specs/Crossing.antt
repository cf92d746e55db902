-- Document 01: "Plan searches the machines above a and b, with exit charges for the rest". What this search asks and what it leaves.
use Rattle.std.specs.Prelude.{◌≡◌, false, List, ℕ}
use Rattle.std.proofs.Math.Option.{none}
use Rattle.definitions.specs.Limits.{nodes}
use Rattle.definitions.specs.Tree.{Tree, UsedNode}
use Rattle.definitions.specs.Book.{tree_of, WellFormed}
use Rattle.definitions.specs.Sheet.{Rows, rows_of}
use Rattle.definitions.specs.Truth.{TrueSheet}
use Rattle.plantheory.specs.Search.{opened_for, plan_move, PlanSearched}
use Rattle.search.specs.Search.{distance_of, name_of}
use Rattle.search.specs.Tables.{FoundRoom}

-- a well-formed book, its true sheet with no machine stale, a state to search from and a node in use to search for
pub record Crossable (book sheet : List ℕ) (a b : ℕ) : Type 0 where
  pub well_formed : WellFormed book
  pub true_sheet : TrueSheet (tree_of book) sheet
  pub fresh : (m : ℕ) → (rows_of sheet).stale m ≡ false
  pub from_used : UsedNode (tree_of book) a
  pub from_plain : (tree_of book).below a ≡ none
  pub to_used : UsedNode (tree_of book) b

-- the lists hold what the search from a to b finds, with the machines above a and b opened
pub record Crossed (t : Tree) (r : Rows) (a b : ℕ) (dist before by : List ℕ) : Type 0 where
  pub room : FoundRoom dist before by
  pub searched : PlanSearched (plan_move t r (opened_for t a b)) a b (distance_of nodes dist) (name_of nodes before) (name_of nodes by)
