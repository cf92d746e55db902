-- Everything is emptied, and one machine with one node is left. Assumes nothing.
use mathlib.Core.Path.{◌≡◌, refl, ap, sym, ◌∙◌}
use mathlib.Core.Logic.{⊎_elim}
use mathlib.Core.Bool.{true}
use mathlib.Core.List.{List}
use Prim.Native.Nat.{ℕ, ◌<◌}
use native.Mathlib.Omega.{arith}
use lib.Dec.{eqb}
use lib.ListN.{get_or, replicate, get_or-replicate}
use borrow.Author.Tests.{eq-eqb, ne_eqb}
use Rattle.definitions.specs.Limits.{machines, nodes, absent}
use Rattle.definitions.specs.Tree.{with_root, with_owner, with_start_of}
use Rattle.definitions.specs.Book.{number, encode, tree_of}
use Rattle.definitions.specs.Sheet.{Rows, encode_rows, rows_of}
use Rattle.definitions.specs.Stream.{Edit}
use Rattle.definitions.specs.Edit.{single, with_stale, edited, touches, edited_rows}
use Rattle.definitions.proofs.Options.{equal_or_not}
use Rattle.definitions.proofs.Words.{same_rows, encode_tree_of, marks_words}
use Rattle.book.specs.Fields.{Holds}
use Rattle.book.proofs.Stores.{holds_then}
use Rattle.sheet.specs.Fields.{Marks, Leaves, with_mark}
use Rattle.book.specs.Chosen.{chosen, up_to}
use Rattle.clearing.specs.Gone.{NodesGone, MachinesGone, without_machines, without_machine_rows}
use Rattle.clearing.proofs.Laws.{left_then, nodes_all, machines_all}
use Rattle.editing.specs.Edited.{Edited}
use Rattle.beginning.specs.Empty.{empty_tree, empty_rows, Emptied}

-- ---- all is emptied

-- a list of ones has 1 everywhere
pub ones : (k i : ℕ) → i < k → chosen (replicate k 1) i ≡ true
ones k i h = eq-eqb (get_or (replicate k 1) i 0) 1 (get_or-replicate k i 1 0 h)

-- every node and every machine falls out of use
pub all_empty : (b xs ys : List ℕ) → ((k : ℕ) → k < nodes → chosen xs k ≡ true) → ((k : ℕ) → k < machines → chosen ys k ≡ true)
    → {s b₁ s₁ b₂ s₂ : List ℕ} → Marks s → NodesGone b s b₁ s₁ (up_to (chosen xs) nodes)
    → MachinesGone b₁ s₁ b₂ s₂ (up_to (chosen ys) machines)
    → Emptied (tree_of b).root b₂ s₂
all_empty b xs ys every_node every_machine {s} {b₁} marks nodes_gone machines_gone =
    let first = nodes_all (chosen xs) (λ k. true) every_node b nodes_gone in
    let second = machines_all (chosen ys) (λ k. true) every_machine b₁ machines_gone in
    let both = left_then (λ t. without_machines t (λ k. true)) (λ r. without_machine_rows r (λ k. true)) first second in
    record { book = both.book; length = both.sheet.length; marks = both.sheet.marks marks; rows = both.sheet.rows }

-- ---- the one machine

module _ (m n : ℕ) (hm : m < machines) (hn : n < nodes) where
  -- root, start node and owner make the tree of one machine
  one_tree : (top : ℕ) → with_owner (with_start_of (with_root (empty_tree top) m) m (number n)) n (number m) ≡ single m n
  unfolding single number
  one_tree top = rw (ne_eqb n absent (omega arith), ne_eqb m absent (omega arith))

  -- the mark makes its rows
  one_row : (r : Rows) → with_mark empty_rows m true ≡ with_stale (single m n) (λ p. eqb p m) r
  unfolding single with_stale
  one_row r =
      same_rows _ _ (λ p. ⊎_elim (λ e. rw (eq-eqb p m e)) (λ ne. rw (ne_eqb p m ne)) (equal_or_not p m))
      (λ p x. ⊎_elim (λ e. rw (eq-eqb p m e)) (λ ne. rw (ne_eqb p m ne)) (equal_or_not p m))
      (λ p x. ⊎_elim (λ e. rw (eq-eqb p m e)) (λ ne. rw (ne_eqb p m ne)) (equal_or_not p m))
      (λ k. ⊎_elim (λ e. rw (eq-eqb k n e, eq-eqb m m refl)) (λ ne. rw (ne_eqb k n ne)) (equal_or_not k n))
      (λ k. ⊎_elim (λ e. rw (eq-eqb k n e, eq-eqb m m refl)) (λ ne. rw (ne_eqb k n ne)) (equal_or_not k n))
      (λ k. ⊎_elim (λ e. rw (eq-eqb k n e, eq-eqb m m refl)) (λ ne. rw (ne_eqb k n ne)) (equal_or_not k n))

  -- what the stores leave is what the edit leaves, whatever stood there
  pub begin_done : (b s : List ℕ) {top : ℕ} {b₁ b₂ b₃ b₄ s₁ s₂ : List ℕ} → Emptied top b₁ s₁ → Holds b₂ (with_root (tree_of b₁) m)
      → Holds b₃ (with_start_of (tree_of b₂) m (number n)) → Holds b₄ (with_owner (tree_of b₃) n (number m))
      → Leaves s₁ s₂ (with_mark (rows_of s₁) m true) → Edited b s (Edit.begin m n) b₄ s₂
  unfolding edited edited_rows touches
  begin_done b s {top} {b₄ = b₄} {s₂ = s₂} emptied root start owner mark =
      let held =
      holds_then (λ t. with_owner t n (number m))
      (holds_then (λ t. with_start_of t m (number n)) (holds_then (λ t. with_root t m) emptied.book root) start) owner in
      let rows : rows_of s₂ ≡ with_stale (single m n) (λ p. eqb p m) (rows_of s) =
      mark.rows ∙ ap (λ r. with_mark r m true) emptied.rows ∙ one_row (rows_of s) in
      record {
        book = sym (encode_tree_of b₄ held.length) ∙ ap encode (held.tree ∙ one_tree top);
        sheet = sym (marks_words s₂ mark.length (mark.marks emptied.marks)) ∙ ap encode_rows rows;
        rows = rows;
      }
