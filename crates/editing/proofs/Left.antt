-- What an edit leaves, from what its stores leave; and what it leaves is a well-formed book and a true sheet again. Assumes nothing.
use mathlib.Core.Path.{◌≡◌, sym, ◌∙◌, ap}
use mathlib.Core.List.{List}
use Prim.Native.Nat.{ℕ}
use Rattle.definitions.specs.Tree.{Tree, Sound}
use Rattle.definitions.specs.Book.{encode, tree_of, WellFormed}
use Rattle.definitions.specs.Sheet.{rows_of, encode_rows}
use Rattle.definitions.specs.Truth.{TrueRows, TrueSheet}
use Rattle.definitions.specs.Stream.{Edit}
use Rattle.definitions.specs.Edit.{edited, edited_rows}
use Rattle.definitions.proofs.Words.{encode_tree_of, tree_of_encode, encode_well_formed, marks_words, words_marks}
use Rattle.definitions.proofs.Kept.{CostInRange, edited_sound}
use Rattle.rows.proofs.Edits.{edited_true}
use Rattle.book.specs.Fields.{Holds}
use Rattle.sheet.specs.Fields.{Leaves}
use Rattle.editing.specs.Edited.{Ready, Edited}

-- a book that holds t, which is u
pub holds_same : {ws : List ℕ} {t u : Tree} → Holds ws t → t ≡ u → Holds ws u
holds_same held e = record { length = held.length; tree = held.tree ∙ e }

-- a book that holds the edited tree and a sheet with the rows after the edit, whose marks are 0 or 1, are what the edit leaves
pub left_edited : {b s : List ℕ} {e : Edit} {b' s' : List ℕ} → Ready b s e → Holds b' (edited (tree_of b) e)
    → Leaves s s' (edited_rows (tree_of b) e (rows_of s)) → Edited b s e b' s'
left_edited {b' = b'} {s' = s'} ready held left =
    record {
      book = sym (encode_tree_of b' held.length) ∙ ap encode held.tree;
      sheet = sym (marks_words s' left.length (left.marks ready.filled.marks)) ∙ ap encode_rows left.rows;
      rows = left.rows;
    }

-- ---- the next edit can be done on what an edit leaves

module _ {b s : List ℕ} {e : Edit} {b' s' : List ℕ} (ready : Ready b s e) (range : CostInRange e) (left : Edited b s e b' s') where
  -- the edited tree is sound
  sound_left : Sound (edited (tree_of b) e)
  sound_left = edited_sound ready.formed.sound e range ready.taken

  -- the book holds the edited tree
  pub edited_tree : tree_of b' ≡ edited (tree_of b) e
  edited_tree = ap tree_of left.book ∙ tree_of_encode (edited (tree_of b) e) sound_left

  -- the book is well formed, and the sheet is true of it
  pub edited_holding : WellFormed b' × TrueSheet (tree_of b') s'
  edited_holding =
      let words : encode_rows (rows_of s') ≡ s' = ap encode_rows left.rows ∙ sym left.sheet in
      let (size, marks) = words_marks s' words in
      let rows : TrueRows (tree_of b') (rows_of s') =
      rw (edited_tree, left.rows) (edited_true ready.formed.sound e range ready.taken (rows_of s) ready.filled.rows) in (
        rw left.book (encode_well_formed (edited (tree_of b) e) sound_left),
        record { length = size; marks = marks; rows = rows },
      )
