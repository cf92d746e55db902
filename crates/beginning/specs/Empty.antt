-- A tree and rows that say nothing, and words that hold them.
use Rattle.std.specs.Prelude.{◌≡◌, false, List, ℕ, length}
use Rattle.std.proofs.Math.Option.{none}
use Rattle.definitions.specs.Limits.{sheet_length}
use Rattle.definitions.specs.Tree.{Tree}
use Rattle.definitions.specs.Sheet.{Rows, rows_of}
use Rattle.book.specs.Fields.{Holds}
use Rattle.sheet.specs.Fields.{Marks}

-- nothing is in use, whatever the root is
abbrev pub empty_tree : ℕ → Tree
empty_tree top =
    record {
      root = top;
      owner = λ n. none;
      below = λ n. none;
      start = λ m. none;
      holder = λ m. none;
      transition = λ n x. none;
      hold = λ n. 0;
      leave = λ m. 0;
    }

-- nothing is marked, and all is blank
abbrev pub empty_rows : Rows
empty_rows =
    record {
      stale = λ m. false;
      exit = λ m x. none;
      last = λ m x. none;
      cost = λ n. none;
      before = λ n. none;
      by = λ n. none;
    }

-- a book and a sheet that say nothing
pub record Emptied (top : ℕ) (ws rs : List ℕ) : Type 0 where
  pub book : Holds ws (empty_tree top)
  pub length : length rs ≡ sheet_length
  pub marks : Marks rs
  pub rows : rows_of rs ≡ empty_rows
