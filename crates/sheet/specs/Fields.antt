-- Rows with one field changed at one number, which is what one word of a sheet changes; marks; and what a store leaves of a sheet.
use Rattle.std.specs.Prelude.{◌≡◌, ◌⊎◌, Bool, List, ℕ, zero, suc, ◌<◌, eqb, length}
use Rattle.std.proofs.Math.Option.{Option, none}
use Rattle.definitions.specs.Basics.{put, unless}
use Rattle.definitions.specs.Limits.{machines, sheet_length}
use Rattle.definitions.specs.Book.{number}
use Rattle.definitions.specs.Sheet.{Rows, cost_of, stale_word, machine_row_word, rows_of}

-- the mark of machine m is 0 or 1
abbrev pub IsMark : List ℕ → ℕ → Type 0
IsMark ws m = (machine_row_word ws m 0 ≡ 0) ⊎ (machine_row_word ws m 0 ≡ 1)

-- and so is every mark
abbrev pub Marks : List ℕ → Type 0
Marks ws = (m : ℕ) → m < machines → IsMark ws m

-- w is machine m's mark: it says whether m is stale, and where marks are 0 or 1 it is the word for that
pub record Mark (ws : List ℕ) (m w : ℕ) : Type 0 where
  pub word : w ≡ machine_row_word ws m 0
  pub says : (rows_of ws).stale m ≡ eqb w 1
  pub bit : Marks ws → w ≡ stale_word ((rows_of ws).stale m)

-- a sheet's words are left with rows r: as many words as a sheet has, and marks that are 0 or 1 are so still
pub record Leaves (before after : List ℕ) (r : Rows) : Type 0 where
  pub length : length after ≡ sheet_length
  pub marks : Marks before → Marks after
  pub rows : rows_of after ≡ r

-- the rows with b as the mark of machine m
abbrev pub with_mark : Rows → ℕ → Bool → Rows
with_mark r m b =
    record {
      stale = put r.stale m b;
      exit = r.exit;
      last = r.last;
      cost = r.cost;
      before = r.before;
      by = r.by;
    }

-- the rows with other exit costs and last nodes
abbrev pub with_exits : Rows → (ℕ → ℕ → Option ℕ) → (ℕ → ℕ → Option ℕ) → Rows
with_exits r exit last =
    record {
      stale = r.stale;
      exit = exit;
      last = last;
      cost = r.cost;
      before = r.before;
      by = r.by;
    }

-- the rows with o as the exit cost of machine m for x
abbrev pub with_exit : Rows → ℕ → ℕ → Option ℕ → Rows
with_exit r m x o = with_exits r (put r.exit m (put (r.exit m) x o)) r.last

-- the rows with o as the last node of machine m for x
abbrev pub with_last : Rows → ℕ → ℕ → Option ℕ → Rows
with_last r m x o = with_exits r r.exit (put r.last m (put (r.last m) x o))

-- the rows with o as the cost of node n
abbrev pub with_cost : Rows → ℕ → Option ℕ → Rows
with_cost r n o =
    record {
      stale = r.stale;
      exit = r.exit;
      last = r.last;
      cost = put r.cost n o;
      before = r.before;
      by = r.by;
    }

-- the rows with o as the node before node n
abbrev pub with_before : Rows → ℕ → Option ℕ → Rows
with_before r n o =
    record {
      stale = r.stale;
      exit = r.exit;
      last = r.last;
      cost = r.cost;
      before = put r.before n o;
      by = r.by;
    }

-- the rows with o as the command before node n
abbrev pub with_by : Rows → ℕ → Option ℕ → Rows
with_by r n o =
    record {
      stale = r.stale;
      exit = r.exit;
      last = r.last;
      cost = r.cost;
      before = r.before;
      by = put r.by n o;
    }

-- the rows where the word at a place of node n's row is v
abbrev pub with_node_row : Rows → ℕ → ℕ → ℕ → Rows
with_node_row r n zero v = with_cost r n (cost_of v)
with_node_row r n (suc zero) v = with_before r n (number v)
with_node_row r n (suc (suc k)) v = with_by r n (number v)

-- the rows where machine m's row, its mark aside, is blank
abbrev pub with_blank_machine : Rows → ℕ → Rows
with_blank_machine r m = with_exits r (put r.exit m (λ x. none)) (put r.last m (λ x. none))

-- the rows where node n's row is blank
abbrev pub with_blank_node : Rows → ℕ → Rows
with_blank_node r n =
    record {
      stale = r.stale;
      exit = r.exit;
      last = r.last;
      cost = put r.cost n none;
      before = put r.before n none;
      by = put r.by n none;
    }

-- the rows where the rows of the nodes that pass the test are blank
abbrev pub with_blank_nodes : Rows → (ℕ → Bool) → Rows
with_blank_nodes r gone =
    record {
      stale = r.stale;
      exit = r.exit;
      last = r.last;
      cost = λ n. unless (gone n) (r.cost n);
      before = λ n. unless (gone n) (r.before n);
      by = λ n. unless (gone n) (r.by n);
    }
