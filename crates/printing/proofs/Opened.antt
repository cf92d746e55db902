-- What Open fresh leaves is a well-formed book and a true sheet. Assumes nothing.
use mathlib.Core.Path.{◌≡◌}
use mathlib.Core.Logic.{inl, inr}
use mathlib.Core.List.{List}
use Prim.Native.Nat.{ℕ}
use lib.ListN.{length}
use Rattle.definitions.specs.Limits.{book_length, sheet_length}
use Rattle.definitions.specs.Book.{encode}
use Rattle.definitions.specs.Sheet.{encode_rows}
use Rattle.definitions.specs.Open.{fresh_tree, fresh, open_rows}
use Rattle.definitions.specs.Calls.{OpenSays}
use Rattle.definitions.proofs.Words.{tree_of_encode, encode_well_formed, rows_of_encode_rows}
use Rattle.definitions.proofs.Opened.{fresh_sound}
use Rattle.rows.proofs.Open.{open_range, open_sheet}
use Rattle.printing.specs.Meaning.{OpenedFresh}

-- the words of an opened tree and its rows
fresh_words : OpenedFresh (encode fresh_tree) (encode_rows (open_rows fresh_tree))
fresh_words =
    let tree = tree_of_encode fresh_tree fresh_sound in
    record {
      formed = encode_well_formed fresh_tree fresh_sound;
      filled = rw tree (open_sheet fresh_sound);
      tree = tree;
      rows = rows_of_encode_rows (open_rows fresh_tree) (open_range fresh_sound);
    }

-- what Open fresh leaves where both lengths are right
pub opened_fresh : {book sheet : List ℕ} {number : ℕ} {book' sheet' : List ℕ} → length book ≡ book_length → length sheet ≡ sheet_length
    → OpenSays fresh book sheet number book' sheet' → OpenedFresh book' sheet'
opened_fresh long wide (inl (wrong, met)) = absurd (wrong (long, wide))
opened_fresh long wide (inr (right, (t, comes, zero, written, filled))) = rw (written, filled, comes) fresh_words
