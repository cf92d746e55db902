-- W-201's claim: the book and sheet that a merge leaves are sound, true and marked, and least costs between states of one old book are the old
-- ones. Assumes nothing.
use mathlib.Core.Path.{◌≡◌, refl, sym, subst₂}
use mathlib.Core.Bool.{false, ◌||◌}
use mathlib.Core.Option.{some}
use mathlib.Core.List.{List}
use Prim.Native.Nat.{ℕ}
use Rattle.definitions.specs.Tree.{Tree, Sound}
use Rattle.definitions.specs.Book.{encode, tree_of, WellFormed}
use Rattle.definitions.specs.Sheet.{encode_rows}
use Rattle.definitions.specs.Edit.{any_lowest}
use Rattle.definitions.specs.Open.{open_rows}
use Rattle.definitions.specs.Merge.{merged, merge_refusals, MergeLeaves, MergeKeeps}
use Rattle.definitions.proofs.Words.{tree_of_encode, encode_well_formed}
use Rattle.definitions.proofs.Answers.{in_order_done}
use Rattle.rows.proofs.Open.{open_sheet, open_stale}
use Rattle.mergetheory.proofs.Merged.{merged_sound, first_costs, second_costs}

-- of the words of the merged tree and of its opened rows
merged_keeps : {first second : List ℕ} → WellFormed first → WellFormed second → (any_lowest (tree_of first) || any_lowest (tree_of second)) ≡ false
    → {w : Tree} → merged (tree_of first) (tree_of second) ≡ some w → MergeLeaves first second (encode w) (encode_rows (open_rows w))
merged_keeps formed formed_u high {w} e =
    let sound : Sound w = merged_sound formed.sound formed_u.sound high e in
    let tree : tree_of (encode w) ≡ w = tree_of_encode w sound in
    record {
      well_formed = encode_well_formed w sound;
      true_sheet = rw tree (open_sheet sound);
      marked = λ m used. open_stale sound m (rw tree at used.1);
      first_costs = rw tree (first_costs formed.sound formed_u.sound high e);
      second_costs = rw tree (second_costs formed.sound formed_u.sound high e);
    }

-- of what the call leaves
pub merge_keeps : MergeKeeps
merge_keeps first second book sheet book' sheet' says =
    let ((lengths, (formed, (formed_u, (high, numbers)))), (w, e, zero, words, rows)) =
    in_order_done (merge_refusals first second book sheet) refl {R = λ k. (0 ≡ k) × (book' ≡ book) × (sheet' ≡ sheet)}
    (λ k nonzero refused. nonzero (sym refused.0)) says in
    subst₂ (MergeLeaves first second) (sym words) (sym rows) (merged_keeps formed formed_u high e)
