-- Nodes made blank one after the other: the rows after each turn of the loop. Assumes nothing.
use mathlib.Core.Path.{◌≡◌, refl, ap, ◌∙◌, fun_ext}
use mathlib.Core.Bool.{Bool, true, false, cond, ◌&&◌, and-true}
use mathlib.Core.Option.{Option, none, some}
use mathlib.Core.List.{List}
use Prim.Native.Nat.{ℕ, ◌<◌}
use lib.Dec.{ltb}
use lib.ListN.{length}
use Rattle.definitions.specs.Basics.{option}
use Rattle.definitions.specs.Limits.{machines, nodes, sheet_length, absent}
use Rattle.definitions.specs.Book.{word, number, under, node_word, tree_of, WellFormed}
use Rattle.definitions.specs.Sheet.{rows_of}
use Rattle.definitions.proofs.Words.{present_word, no_owner, owner_range}
use Rattle.sheet.specs.Fields.{Leaves, with_blank_node}
use Rattle.sheet.proofs.Stores.{leaves_same, untouched}
use Rattle.book.specs.Chosen.{chosen, only, up_to}
use Rattle.sheet.specs.Fields.{with_blank_nodes}
use Rattle.marking.specs.Stale.{owned_by, LeavesBlank}
use Rattle.book.proofs.Chosen.{none_only, one_only}

-- ---- one node

-- a node that does not pass: none is blank
stays_blank : (g : ℕ → Bool) (i : ℕ) (ws : List ℕ) → length ws ≡ sheet_length → g i ≡ false → LeavesBlank ws ws (only g i)
stays_blank g i ws l off = leaves_same (untouched ws l) (ap (with_blank_nodes (rows_of ws)) (none_only g i off))

module _ (book : List ℕ) (w : WellFormed book) (list : List ℕ) (n : ℕ) {o : ℕ} (told : o ≡ word ((tree_of book).owner n)) where
  -- a node that is not in use
  pub blank_unused : (ws : List ℕ) → length ws ≡ sheet_length → o ≡ absent → LeavesBlank ws ws (only (owned_by (tree_of book) (chosen list)) n)
  blank_unused ws l free =
      stays_blank (owned_by (tree_of book) (chosen list)) n ws l
      (ap (option false (chosen list)) (no_owner (tree_of book) w.sound n told free))

  module _ (used : o ≡ absent → ⊥) where
    own : (tree_of book).owner n ≡ some o
    own = present_word ((tree_of book).owner n) told used

    -- its machine is in range
    pub owner_in_range : o < machines
    owner_in_range = (owner_range (tree_of book) w.sound n o own).1

    -- a node of another machine
    pub blank_other : (ws : List ℕ) → length ws ≡ sheet_length → chosen list o ≡ false
        → LeavesBlank ws ws (only (owned_by (tree_of book) (chosen list)) n)
    blank_other ws l off = stays_blank (owned_by (tree_of book) (chosen list)) n ws l (ap (option false (chosen list)) own ∙ off)

    -- a node of a machine of the list
    pub blank_own : {a b : List ℕ} → chosen list o ≡ true → Leaves a b (with_blank_node (rows_of a) n)
        → LeavesBlank a b (only (owned_by (tree_of book) (chosen list)) n)
    blank_own {a} on left =
        leaves_same left
        (ap (with_blank_nodes (rows_of a)) (one_only (owned_by (tree_of book) (chosen list)) n (ap (option false (chosen list)) own ∙ on)))

-- ---- the loop over the nodes

-- a book has no node past its last
all_under_lem : (book : List ℕ) (test : ℕ → Bool) → up_to (owned_by (tree_of book) test) nodes ≡ owned_by (tree_of book) test
unfolding tree_of under
all_under_lem book test = fun_ext λ k. go (ltb k nodes) (number (node_word book k 0))
  where
    go : (b : Bool) (o : Option ℕ) → (option false test (cond b o none) && b) ≡ option false test (cond b o none)
    go true o = and-true (option false test o)
    go false o = refl

-- after the last
pub blanking_all : (book : List ℕ) (test : ℕ → Bool) (i : ℕ) → i ≡ nodes → {a b : List ℕ}
    → LeavesBlank a b (up_to (owned_by (tree_of book) test) i)
    → LeavesBlank a b (owned_by (tree_of book) test)
blanking_all book test i e {a} left =
    leaves_same left
    (ap (λ j. with_blank_nodes (rows_of a) (up_to (owned_by (tree_of book) test) j)) e
    ∙ ap (with_blank_nodes (rows_of a)) (all_under_lem book test))
