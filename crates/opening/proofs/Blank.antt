-- A book with no tree, and a sheet that is blank but for its marks, as they are written record by record. Assumes nothing.
use mathlib.Core.Path.{◌≡◌, refl, sym, ◌∙◌, ap}
use mathlib.Core.Option.{Option, none}
use mathlib.Core.List.{List}
use Prim.Native.Nat.{ℕ, zero, suc, ◌+◌, ◌≤◌, ◌<◌}
use native.Mathlib.Decide.{dec_le}
use native.Mathlib.Nat.{lt_of_not-le}
use native.Mathlib.Omega.{arith}
use lib.ListN.{length}
use borrow.Author.Tests.{le-ltb}
use Rattle.definitions.specs.Basics.{is_some}
use Rattle.definitions.specs.Limits.{machines, nodes, commands, sheet_length, absent}
use Rattle.definitions.specs.Tree.{Tree, Transition, used_machine}
use Rattle.definitions.specs.Book.{number, under, tree_of, machine_word, node_word, transition_of}
use Rattle.definitions.specs.Sheet.{Rows, rows_of, encode_rows, machine_row_word, node_row_word, cost_of}
use Rattle.definitions.specs.Open.{open_rows}
use Rattle.opening.specs.Rows.{last_under, row_owner, row_below, next_lower, neighbour, linked, grown}
use Rattle.definitions.proofs.Words.{same_tree, same_rows, marks_words}
use Rattle.sheet.specs.Fields.{Marks}
use Rattle.opening.proofs.Growth.{under_out, under_none}

-- ---- one number after the other

-- two functions agree at the numbers under k
abbrev Upto : {A : Type 0} → ℕ → (ℕ → A) → (ℕ → A) → Type 0
Upto k f g = (i : ℕ) → i < k → f i ≡ g i

-- and at all, where they do from the limit on
whole : {A : Type 0} (limit : ℕ) (f g : ℕ → A) → Upto limit f g → ((i : ℕ) → limit ≤ i → f i ≡ g i) → (i : ℕ) → f i ≡ g i
whole limit f g less past i =
    elim (dec_le limit i) [ yes from ↦ past i from | no before ↦ less i (omega (arith, lt_of_not-le before)) ]

-- nothing is there at all, where there is nothing under the limit
nothing : {A : Type 0} (limit : ℕ) (o : ℕ → Option A) → Upto limit (λ i. under limit i (o i)) (λ i. none) → (i : ℕ) → under limit i (o i) ≡ none
nothing limit o less = whole limit (λ i. under limit i (o i)) (λ i. none) less (λ i past. under_out limit i (o i) past)

-- ---- a book

-- the tree has no root, and nothing is said in it of the machines under m and of the nodes under n
pub record Cleared (t : Tree) (m n : ℕ) : Type 0 where
  pub root : t.root ≡ absent
  pub start : Upto m t.start (λ i. none)
  pub holder : Upto m t.holder (λ i. none)
  pub owner : Upto n t.owner (λ i. none)
  pub below : Upto n t.below (λ i. none)
  pub transition : Upto n t.transition (λ i x. none)
  pub hold : Upto n t.hold (λ i. 0)
  pub leave : Upto m t.leave (λ i. 0)

-- a book in which all is cleared has none of a table's rows
pub cleared_all : (ws rows : List ℕ) → Cleared (tree_of ws) machines nodes → tree_of ws ≡ grown rows 0 absent
unfolding tree_of grown linked neighbour last_under
cleared_all ws rows all =
    same_tree (tree_of ws) (grown rows 0 absent) all.root
    (λ n. nothing nodes (λ i. number (node_word ws i 0)) all.owner n ∙ sym (under_out 0 n (row_owner rows n) (omega arith)))
    (λ n. nothing nodes (λ i. number (node_word ws i 1)) all.below n ∙ sym (under_out 0 n (row_below rows n) (omega arith)))
    (λ m. nothing machines (λ i. number (machine_word ws i 1)) all.start m ∙ sym (under_none machines m))
    (λ m. nothing machines (λ i. number (machine_word ws i 0)) all.holder m ∙ sym (under_none machines m))
    (λ n x.
    nothing nodes (λ i. under commands x (transition_of (node_word ws i (2 + x))))
    (λ i h. ap (λ (f : ℕ → Option Transition). f x) (all.transition i h)) n
    ∙ sym (none_linked n x))
    (whole nodes (tree_of ws).hold (λ n. 0) all.hold (λ n past. rw (le-ltb n nodes past)))
    (whole machines (tree_of ws).leave (λ m. 0) all.leave (λ m past. rw (le-ltb m machines past)))
  where
    none_linked : (n x : ℕ) → linked rows 0 n x ≡ none
    none_linked n zero = ap neighbour (under_out 0 n (next_lower rows n) (omega arith))
    none_linked n (suc zero) = refl
    none_linked n (suc (suc x)) = refl

-- ---- a sheet

-- the rows of the machines under m are blank and marked where the tree has the machine, and those of the nodes under n are blank
pub record Opened (t : Tree) (r : Rows) (m n : ℕ) : Type 0 where
  pub stale : Upto m r.stale (used_machine t)
  pub exit : Upto m r.exit (λ i x. none)
  pub last : Upto m r.last (λ i x. none)
  pub cost : Upto n r.cost (λ i. none)
  pub before : Upto n r.before (λ i. none)
  pub by : Upto n r.by (λ i. none)

-- a sheet with such rows for all machines and nodes is the opening's
pub opened_all : (book sheet : List ℕ) → length sheet ≡ sheet_length → Marks sheet → Opened (tree_of book) (rows_of sheet) machines nodes
    → sheet ≡ encode_rows (open_rows (tree_of book))
unfolding open_rows rows_of tree_of
opened_all book sheet l marks all =
    sym (marks_words sheet l marks)
    ∙ ap encode_rows
    (same_rows (rows_of sheet) (open_rows (tree_of book))
    (whole machines (rows_of sheet).stale (used_machine (tree_of book)) all.stale
    (λ m past. rw (le-ltb m machines past) (ap is_some (sym (under_out machines m (number (machine_word book m 1)) past)))))
    (λ m x.
    nothing machines (λ i. under commands x (cost_of (machine_row_word sheet i (1 + x))))
    (λ i h. ap (λ (f : ℕ → Option ℕ). f x) (all.exit i h)) m)
    (λ m x.
    nothing machines (λ i. under commands x (number (machine_row_word sheet i (1 + commands + x))))
    (λ i h. ap (λ (f : ℕ → Option ℕ). f x) (all.last i h)) m)
    (nothing nodes (λ i. cost_of (node_row_word sheet i 0)) all.cost)
    (nothing nodes (λ i. number (node_row_word sheet i 1)) all.before)
    (nothing nodes (λ i. number (node_row_word sheet i 2)) all.by))
