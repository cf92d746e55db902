-- What is left of a book and a sheet after two things done in turn; they say nothing of numbers past their limits. Assumes nothing.
use mathlib.Core.Path.{◌≡◌, refl, ap, sym, ◌∙◌}
use mathlib.Core.Bool.{Bool, true, false, cond, ◌&&◌, and-true}
use mathlib.Core.Option.{none}
use mathlib.Core.List.{List}
use Prim.Native.Nat.{ℕ, ◌+◌, ◌<◌}
use lib.Dec.{eqb, ltb}
use borrow.Author.Tests.{ltb-true}
use Rattle.definitions.specs.Limits.{machines, nodes, commands}
use Rattle.definitions.specs.Tree.{Tree}
use Rattle.definitions.specs.Book.{number, transition_of, under, node_word, machine_word, hold_word, leave_word, tree_of}
use Rattle.definitions.specs.Sheet.{Rows, cost_of, machine_row_word, node_row_word, rows_of}
use Rattle.definitions.proofs.Words.{same_nodes, same_machines, same_rows}
use Rattle.book.proofs.Stores.{holds_then}
use Rattle.sheet.proofs.Stores.{leaves_then}
use Rattle.book.specs.Chosen.{up_to}
use Rattle.clearing.specs.Gone.{Sized, Left}
use Rattle.clearing.specs.Gone.{NodesGone, MachinesGone}

-- what was left is left with the same tree and rows by other names
pub left_same : {a b c : List ℕ} {t u : Tree} {r q : Rows} → Left a b c t r → t ≡ u → r ≡ q → Left a b c u q
left_same left e f =
    record {
      book = record { length = left.book.length; tree = left.book.tree ∙ e };
      sheet = record { length = left.sheet.length; marks = left.sheet.marks; rows = left.sheet.rows ∙ f };
    }

-- one thing done after another
pub left_then : {a b c d e : List ℕ} {t : Tree} {r : Rows} (f : Tree → Tree) (g : Rows → Rows) → Left a b c t r
    → Left c d e (f (tree_of b)) (g (rows_of c)) → Left a d e (f t) (g r)
left_then f g first second =
    record { book = holds_then f first.book second.book; sheet = leaves_then g first.sheet second.sheet }

-- what is left is of the right lengths
pub left_sized : {a b c : List ℕ} {t : Tree} {r : Rows} → Left a b c t r → Sized b c
left_sized left = record { book = left.book.length; sheet = left.sheet.length }

-- ---- after the last: a book and a sheet say nothing of numbers past their limits

-- two tests that agree below a limit leave the same of what is read under it
same_under : {A : Type 0} (limit k : ℕ) (g h : ℕ → Bool) (o d : A) → ((j : ℕ) → j < limit → g j ≡ h j)
    → cond (up_to g limit k) d (cond (ltb k limit) o d) ≡ cond (h k) d (cond (ltb k limit) o d)
same_under {A} limit k g h o d agree = go (ltb k limit) refl
  where
    flat : (b : Bool) → cond {A = A} b d d ≡ d
    flat true = refl
    flat false = refl

    go : (b : Bool) → ltb k limit ≡ b → cond (g k && b) d (cond b o d) ≡ cond (h k) d (cond b o d)
    go true e = ap (λ (c : Bool). cond c d o) (and-true (g k) ∙ agree k (ltb-true k limit e))
    go false e = flat (g k && false) ∙ sym (flat (h k))

module _ (g h : ℕ → Bool) where
  pub nodes_all : ((k : ℕ) → k < nodes → g k ≡ h k) → (b : List ℕ) {s b' s' : List ℕ} → NodesGone b s b' s' (up_to g nodes)
      → NodesGone b s b' s' h
  unfolding tree_of rows_of under
  nodes_all agree b {s} left =
      left_same left
      (same_nodes _ _ refl (λ n. same_under nodes n g h (number (node_word b n 0)) none agree)
      (λ n. same_under nodes n g h (number (node_word b n 1)) none agree)
      (λ n x. same_under nodes n g h (under commands x (transition_of (node_word b n (2 + x)))) none agree)
      (λ n. same_under nodes n g h (hold_word b n) 0 agree))
      (same_rows _ _ (λ m. refl) (λ m x. refl) (λ m x. refl) (λ n. same_under nodes n g h (cost_of (node_row_word s n 0)) none agree)
      (λ n. same_under nodes n g h (number (node_row_word s n 1)) none agree)
      (λ n. same_under nodes n g h (number (node_row_word s n 2)) none agree))

  pub machines_all : ((k : ℕ) → k < machines → g k ≡ h k) → (b : List ℕ) {s b' s' : List ℕ} → MachinesGone b s b' s' (up_to g machines)
      → MachinesGone b s b' s' h
  unfolding tree_of rows_of under
  machines_all agree b {s} left =
      left_same left
      (same_machines _ _ refl (λ m. same_under machines m g h (number (machine_word b m 1)) none agree)
      (λ m. same_under machines m g h (number (machine_word b m 0)) none agree) (λ m. same_under machines m g h (leave_word b m) 0 agree))
      (same_rows _ _ (λ m. same_under machines m g h (eqb (machine_row_word s m 0) 1) false agree)
      (λ m x. same_under machines m g h (under commands x (cost_of (machine_row_word s m (1 + x)))) none agree)
      (λ m x. same_under machines m g h (under commands x (number (machine_row_word s m (17 + x)))) none agree)
      (λ n. refl) (λ n. refl) (λ n. refl))
