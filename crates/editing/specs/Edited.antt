-- Document 01, "Loading a stream": what an edit is done on, and what it leaves of a book and its sheet.
use Rattle.std.specs.Prelude.{◌≡◌, List, ℕ}
use Rattle.definitions.specs.Book.{encode, tree_of, WellFormed}
use Rattle.definitions.specs.Sheet.{rows_of, encode_rows}
use Rattle.definitions.specs.Truth.{TrueSheet}
use Rattle.definitions.specs.Stream.{Edit, edit}
use Rattle.definitions.specs.Edit.{refusal, edited, edited_rows}

-- book b is well formed, sheet s is true of it, and the edit is not refused
pub record Ready (b s : List ℕ) (e : Edit) : Type 0 where
  pub formed : WellFormed b
  pub filled : TrueSheet (tree_of b) s
  pub taken : refusal (tree_of b) (edit e) ≡ 0

-- book b and sheet s are left as b' and s': the words of the edited tree, and those of the rows after the edit, which they say again
pub record Edited (b s : List ℕ) (e : Edit) (b' s' : List ℕ) : Type 0 where
  pub book : b' ≡ encode (edited (tree_of b) e)
  pub sheet : s' ≡ encode_rows (edited_rows (tree_of b) e (rows_of s))
  pub rows : rows_of s' ≡ edited_rows (tree_of b) e (rows_of s)
