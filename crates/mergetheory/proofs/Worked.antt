-- W-201's claim is not empty: the mast book merged with itself meets its hypothesis. Assumes nothing.
use mathlib.Core.Path.{◌≡◌, refl}
use mathlib.Core.Logic.{inr}
use mathlib.Core.Bool.{false, ◌||◌}
use mathlib.Core.Option.{some}
use mathlib.Core.List.{[], List, ◌∷◌}
use Prim.Native.Nat.{ℕ}
use native.Mathlib.Omega.{arith}
use Rattle.definitions.specs.Tree.{Sound}
use Rattle.definitions.specs.Costs.{LeastCost}
use Rattle.definitions.specs.Book.{encode}
use Rattle.definitions.specs.Sheet.{encode_rows}
use Rattle.definitions.specs.Edit.{any_lowest}
use Rattle.definitions.specs.Open.{fresh_tree, open_rows}
use Rattle.definitions.specs.Calls.{RightLengths}
use Rattle.definitions.specs.Mast.{mast_stream, mast_tree}
use Rattle.definitions.specs.Merge.{Enough, MergeSays, MergeLeaves}
use Rattle.definitions.proofs.Words.{encode_length, encode_rows_length, tree_of_encode, encode_well_formed}
use Rattle.definitions.proofs.Kept.{expected_sound}
use Rattle.definitions.proofs.Opened.{fresh_sound}
use Rattle.definitions.proofs.Tests.{all_under_lem}
use Rattle.definitions.proofs.Mast.{mast_examples}
use Rattle.definitions.proofs.Merges.{computing, twice, twice_merged}
use Rattle.mergetheory.proofs.Merged.{first_costs, second_costs}
use Rattle.mergetheory.proofs.Keeps.{merge_keeps}

-- the mast book is sound, not over seven levels, and leaves numbers enough
mast_sound : Sound mast_tree
unfolding computing
mast_sound = expected_sound fresh_sound (mast_stream ∷ []) (all_under_lem 256 mast_stream refl, tt)

mast_high : (any_lowest mast_tree || any_lowest mast_tree) ≡ false
unfolding computing
mast_high = refl

mast_room : Enough mast_tree mast_tree
unfolding computing
mast_room = (omega arith, omega arith)

-- so Merge of its book with itself is done, whatever lists of the right lengths are lent for the third
pub mast_merge : (book sheet : List ℕ) → RightLengths book sheet
    → MergeSays (encode mast_tree) (encode mast_tree) book sheet 0 (encode twice) (encode_rows (open_rows twice))
mast_merge book sheet right =
    let formed = encode_well_formed mast_tree mast_sound in
    rw (tree_of_encode mast_tree mast_sound)
    (inr (
      (formed.length, formed.length, right),
      inr (formed, inr (formed, inr (mast_high, inr (mast_room, (twice, twice_merged, refl, refl, refl))))),
    ))

-- and what it leaves is as claimed
pub mast_kept : MergeLeaves (encode mast_tree) (encode mast_tree) (encode twice) (encode_rows (open_rows twice))
mast_kept =
    let (book, sheet) : List ℕ × List ℕ = (encode fresh_tree, encode_rows (open_rows fresh_tree)) in
    merge_keeps (encode mast_tree) (encode mast_tree) book sheet (encode twice) (encode_rows (open_rows twice))
    (mast_merge book sheet (encode_length fresh_tree, encode_rows_length (open_rows fresh_tree)))

-- the least cost from state 0 to state 2 is 12 as it was, at the first book's numbers and at the second's
pub mast_costs : LeastCost twice 0 2 (some 12) × LeastCost twice 3 5 (some 12)
unfolding computing
mast_costs = (
  (first_costs mast_sound mast_sound mast_high twice_merged).there 0 2 0 2 (some 12) refl refl refl refl mast_examples.from_0_to_2.least,
  (second_costs mast_sound mast_sound mast_high twice_merged).there 0 2 3 5 (some 12) refl refl refl refl mast_examples.from_0_to_2.least,
)
