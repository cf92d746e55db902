-- Lists that have 1 at each machine that passes a test, and trees and rows without a node, the nodes that go with it and the transitions
-- into it.
use Rattle.std.specs.Prelude.{◌≡◌, Bool, ◌||◌, List, ℕ, ◌<◌, eqb, length}
use Rattle.std.proofs.Math.Option.{Option, some}
use Rattle.definitions.specs.Basics.{put}
use Rattle.definitions.specs.Limits.{machines}
use Rattle.definitions.specs.Tree.{Tree, Transition, with_nodes, with_transitions, within, unless_into}
use Rattle.definitions.specs.Book.{tree_of}
use Rattle.definitions.specs.Sheet.{Rows, rows_of}
use Rattle.book.specs.Chosen.{chosen}
use Rattle.sheet.specs.Fields.{with_blank_nodes}
use Rattle.marking.specs.Stale.{owned_by}
use Rattle.clearing.specs.Gone.{Left, without_nodes}

-- a list of as many numbers as there are machines has 1 at those that pass the test, as far as i
pub record Listed (i : ℕ) (test : ℕ → Bool) (list : List ℕ) : Type 0 where
  pub length : length list ≡ machines
  pub at : (m : ℕ) → m < i → chosen list m ≡ test m

-- a transition, but none where its target is n
abbrev pub not_into : ℕ → Option Transition → Option Transition
not_into n = unless_into (λ v. eqb v n)

-- the tree where node k has no transition into n, and where no node has one
abbrev pub without_into_at : Tree → ℕ → ℕ → Tree
without_into_at t n k = with_transitions t (put t.transition k (λ x. not_into n (t.transition k x)))

abbrev pub without_into : Tree → ℕ → Tree
without_into t n = with_transitions t (λ k x. not_into n (t.transition k x))

-- whether node k goes with node n: it is n, or its machine passes the test
abbrev pub goes_with : Tree → (ℕ → Bool) → ℕ → ℕ → Bool
goes_with t gone n k = eqb n k || owned_by t gone k

-- the tree where nothing is said of the nodes that pass the test, and no other has a transition into n
abbrev pub cut : Tree → (ℕ → Bool) → ℕ → Tree
cut t gone n = without_nodes (without_into t n) gone

-- the tree with the record of node k that u has, and rows with the row of node k that q has
abbrev pub with_node_of : Tree → Tree → ℕ → Tree
with_node_of t u k =
    with_nodes t (put t.owner k (u.owner k)) (put t.below k (u.below k)) (put t.transition k (u.transition k))
    (put t.hold k (u.hold k))

abbrev pub with_row_of : Rows → Rows → ℕ → Rows
with_row_of r q k =
    record {
      stale = r.stale;
      exit = r.exit;
      last = r.last;
      cost = put r.cost k (q.cost k);
      before = put r.before k (q.before k);
      by = put r.by k (q.by k);
    }

-- the machine of node k is in range
abbrev pub OwnerInRange : Tree → ℕ → Type 0
OwnerInRange t k = (m : ℕ) → t.owner k ≡ some m → m < machines

-- and it is p where node k has a transition into n
pub record Linked (t : Tree) (p n k : ℕ) : Type 0 where
  pub range : OwnerInRange t k
  pub into : (x : ℕ) (a : Transition) → t.transition k x ≡ some a → a.target ≡ n → t.owner k ≡ some p

-- node k is removed where it passes the test, and else its transitions into n are
abbrev pub RemovedAt : List ℕ → List ℕ → List ℕ → List ℕ → (ℕ → Bool) → ℕ → ℕ → Type 0
RemovedAt book sheet book' sheet' gone n k =
    Left sheet book' sheet' (with_node_of (tree_of book) (cut (tree_of book) gone n) k)
    (with_row_of (rows_of sheet) (with_blank_nodes (rows_of sheet) gone) k)

-- node n, the nodes below it and the transitions into it are removed
abbrev pub NodesRemoved : List ℕ → List ℕ → List ℕ → List ℕ → ℕ → Type 0
NodesRemoved book sheet book' sheet' n =
    Left sheet book' sheet' (cut (tree_of book) (within (tree_of book) n) n) (with_blank_nodes (rows_of sheet) (within (tree_of book) n))
