-- What an opening says of a book and a sheet. Assumes nothing.
use mathlib.Core.Path.{◌≡◌, ◌∙◌, ap}
use mathlib.Core.Logic.{inl, inr}
use mathlib.Core.List.{[], List, ◌∷◌}
use Prim.Native.Nat.{ℕ}
use Rattle.definitions.specs.Limits.{absent}
use Rattle.definitions.specs.Tree.{Tree, with_root}
use Rattle.definitions.specs.Book.{encode, tree_of}
use Rattle.definitions.specs.Sheet.{encode_rows}
use Rattle.definitions.specs.Open.{row_count, open_rows}
use Rattle.opening.specs.Rows.{grown, root_of, row_tree}
use Rattle.definitions.specs.Answer.{asks, InOrder}
use Rattle.definitions.specs.Calls.{RightLengths}
use Rattle.book.specs.Fields.{Holds}
use Rattle.opening.specs.Writes.{OpenedAs}

-- a book with all rows, in which the root that it asks for is written, holds the table's tree
pub book_rooted : (rows : List ℕ) {ws after : List ℕ} (r : ℕ) → Holds ws (grown rows (row_count rows) absent) → r ≡ root_of (tree_of ws)
    → Holds after (with_root (tree_of ws) r) → Holds after (row_tree rows)
unfolding row_tree grown
book_rooted rows r held root after =
    record {
      length = after.length;
      tree = after.tree ∙ ap (λ t. with_root t r) held.tree ∙ ap (grown rows (row_count rows)) (root ∙ ap root_of held.tree);
    }

-- such an opening is that of a tree that comes of it
pub opened_as : (t : Tree) (Comes : Tree → Type 0) → Comes t → (book sheet : List ℕ) {k : ℕ} {book' sheet' : List ℕ} → OpenedAs t book sheet k book' sheet'
    → InOrder (asks 1 (RightLengths book sheet) ∷ []) (λ j. (k ≡ j) × (book' ≡ book) × (sheet' ≡ sheet))
    ((u : Tree) × Comes u × (k ≡ 0) × (book' ≡ encode u) × (sheet' ≡ encode_rows (open_rows u)))
opened_as t Comes comes book sheet (inl wrong) = inl wrong
opened_as t Comes comes book sheet (inr (right, (zero, written, filled))) = inr (right, (t, comes, zero, written, filled))
