-- A tree and rows where the nodes, or the machines, that pass a test are not in use, and what a book's and a sheet's words are left with.
use Rattle.std.specs.Prelude.{◌≡◌, Bool, false, cond, List, ℕ, length}
use Rattle.definitions.specs.Basics.{unless}
use Rattle.definitions.specs.Limits.{book_length, sheet_length}
use Rattle.definitions.specs.Tree.{Tree, with_nodes, with_machines}
use Rattle.definitions.specs.Book.{tree_of}
use Rattle.definitions.specs.Sheet.{Rows, rows_of}
use Rattle.book.specs.Fields.{Holds, without_node, without_machine}
use Rattle.sheet.specs.Fields.{Leaves, with_mark, with_blank_machine, with_blank_node}
use Rattle.sheet.specs.Fields.{with_blank_nodes}

-- a book and a sheet of the right lengths
pub record Sized (ws rs : List ℕ) : Type 0 where
  pub book : length ws ≡ book_length
  pub sheet : length rs ≡ sheet_length

-- a book's words hold tree t, and a sheet's words are left with rows r
pub record Left (rs ws' rs' : List ℕ) (t : Tree) (r : Rows) : Type 0 where
  pub book : Holds ws' t
  pub sheet : Leaves rs rs' r

-- the tree where nothing is said of the nodes that pass the test
abbrev pub without_nodes : Tree → (ℕ → Bool) → Tree
without_nodes t gone =
    with_nodes t (λ k. unless (gone k) (t.owner k)) (λ k. unless (gone k) (t.below k)) (λ k x. unless (gone k) (t.transition k x))
    (λ k. cond (gone k) 0 (t.hold k))

-- the tree where nothing is said of the machines that pass the test
abbrev pub without_machines : Tree → (ℕ → Bool) → Tree
without_machines t gone =
    with_machines t (λ m. unless (gone m) (t.start m)) (λ m. unless (gone m) (t.holder m)) (λ m. cond (gone m) 0 (t.leave m))

-- the rows where the machines that pass the test are blank and not marked
abbrev pub without_machine_rows : Rows → (ℕ → Bool) → Rows
without_machine_rows r gone =
    record {
      stale = λ m. cond (gone m) false (r.stale m);
      exit = λ m x. unless (gone m) (r.exit m x);
      last = λ m x. unless (gone m) (r.last m x);
      cost = r.cost;
      before = r.before;
      by = r.by;
    }

-- the nodes, the machines that pass the test have fallen out of use
abbrev pub NodesGone : List ℕ → List ℕ → List ℕ → List ℕ → (ℕ → Bool) → Type 0
NodesGone book sheet book' sheet' gone =
    Left sheet book' sheet' (without_nodes (tree_of book) gone) (with_blank_nodes (rows_of sheet) gone)

abbrev pub MachinesGone : List ℕ → List ℕ → List ℕ → List ℕ → (ℕ → Bool) → Type 0
MachinesGone book sheet book' sheet' gone =
    Left sheet book' sheet' (without_machines (tree_of book) gone) (without_machine_rows (rows_of sheet) gone)

-- node n alone, machine m alone has fallen out of use
abbrev pub NodeDropped : List ℕ → List ℕ → List ℕ → List ℕ → ℕ → Type 0
NodeDropped book sheet book' sheet' n = Left sheet book' sheet' (without_node (tree_of book) n) (with_blank_node (rows_of sheet) n)

abbrev pub MachineDropped : List ℕ → List ℕ → List ℕ → List ℕ → ℕ → Type 0
MachineDropped book sheet book' sheet' m =
    Left sheet book' sheet' (without_machine (tree_of book) m) (with_mark (with_blank_machine (rows_of sheet) m) m false)
