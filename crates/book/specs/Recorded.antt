-- A book that has a tree's words so far.
use Rattle.std.specs.Prelude.{◌≡◌, List, ℕ, ◌<◌, length}
use Rattle.definitions.specs.Limits.{book_length}
use Rattle.definitions.specs.Tree.{Tree}
use Rattle.definitions.specs.Book.{machine_field, node_field, machine_fields, node_fields, tree_of}

-- the book has the tree's root, the words of its machines under m and of its nodes under n, these machines' leaving costs and these nodes' holds,
-- and the words of node n before place k
pub record Recorded (ws : List ℕ) (t : Tree) (m n k : ℕ) : Type 0 where
  pub size : length ws ≡ book_length
  pub root : (tree_of ws).root ≡ t.root
  pub machine : (i j : ℕ) → i < m → j < machine_fields → machine_field (tree_of ws) i j ≡ machine_field t i j
  pub leave : (i : ℕ) → i < m → (tree_of ws).leave i ≡ t.leave i
  pub node : (i j : ℕ) → i < n → j < node_fields → node_field (tree_of ws) i j ≡ node_field t i j
  pub hold : (i : ℕ) → i < n → (tree_of ws).hold i ≡ t.hold i
  pub here : (j : ℕ) → j < k → node_field (tree_of ws) n j ≡ node_field t n j
