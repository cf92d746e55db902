-- Document 01, "Writing, choosing, the session": the session opens fresh and makes its turns, each with its line.
use Rattle.std.specs.Prelude.{◌≡◌, List, ℕ, length, take}
use Rattle.definitions.specs.Limits.{longest_input}
use Rattle.definitions.specs.Tree.{Tree}
use Rattle.definitions.specs.Book.{tree_of, WellFormed}
use Rattle.definitions.specs.Sheet.{Rows, rows_of}
use Rattle.definitions.specs.Truth.{TrueSheet}
use Rattle.definitions.specs.Open.{fresh_tree, open_rows}
use Rattle.definitions.specs.Session.{SessionPrints}
use Rattle.lines.specs.Turn.{Repeats}

-- a book and its sheet as Open fresh leaves them
pub record OpenedFresh (book sheet : List ℕ) : Type 0 where
  pub formed : WellFormed book
  pub filled : TrueSheet (tree_of book) sheet
  pub tree : tree_of book ≡ fresh_tree
  pub rows : rows_of sheet ≡ open_rows fresh_tree

-- the turns on the input from a tree and rows are all made, so many of them with a line, and book and sheet hold what the last one left
pub record LinesMade (input : List ℕ) (t : Tree) (r : Rows) (count : ℕ) (book' sheet' : List ℕ) : Type 0 where
  pub lines : List (List ℕ)
  pub repeats : Repeats input t r 0 lines (tree_of book') (rows_of sheet')
  pub counted : length lines ≡ count
  pub formed : WellFormed book'
  pub filled : TrueSheet (tree_of book') sheet'

-- a whole session: from the fresh opening, on the input's first 65,536 bytes; its lines are those that document 01 has it print
pub record SessionMade (input : List ℕ) (count : ℕ) (book' sheet' : List ℕ) : Type 0 where
  pub made : LinesMade (take longest_input input) fresh_tree (open_rows fresh_tree) count book' sheet'
  pub prints : SessionPrints input made.lines
