-- Worked merges (document 02, W-201), by computation from the definitions: of the mast book with itself, and of the fresh book with the mast book. A
-- wrong order, a number that moves elsewhere, or a target that does not move along would leave another tree. Assumes nothing.
use mathlib.Core.Path.{◌≡◌, refl}
use mathlib.Core.Option.{none, some}
use mathlib.Core.List.{[], List, ◌∷◌}
use Prim.Native.Nat.{ℕ}
use Rattle.definitions.specs.Basics.{any_below, count_below}
use Rattle.definitions.specs.Tree.{Tree, above, path_f, path, level}
use Rattle.definitions.specs.Stream.{operand_length, decode, read_next}
use Rattle.definitions.specs.Edit.{first_holding, refusals, refusal, single, with_transition, edited}
use Rattle.definitions.specs.Load.{next, load_f, load, expected}
use Rattle.definitions.specs.Open.{fresh_tree}
use Rattle.definitions.specs.Mast.{mast_stream, mast_after, mast_tree}
use Rattle.definitions.specs.Merge.{ranked, moved, rising, machine_moves, node_moves, renumbered, beside, under_new_root, merged}
use Rattle.definitions.proofs.Tests.{all_under}
use Rattle.definitions.proofs.Worked.{to}

-- to open these is to open everything that the examples compute with
unfoldable pub reading : Tree
unfolding load load_f next expected operand_length decode read_next first_holding refusals refusal above path_f path level any_below all_under
reading = fresh_tree

unfoldable pub editing : Tree
unfolding fresh_tree single with_transition edited mast_stream mast_after mast_tree
editing = fresh_tree

unfoldable pub computing : Tree
unfolding reading editing count_below ranked moved rising renumbered beside under_new_root merged
computing = fresh_tree

-- the values of a field at some numbers
abbrev pub values : {A : Type 0} → (ℕ → A) → List ℕ → List A
values f [] = []
values f (n ∷ ns) = f n ∷ values f ns

-- ---- the mast book and the mast book

pub record MastTwice (w : Tree) : Type 0 where
  -- machines 0 and 1 move to 2 and 3, nodes 0, 1, 2, 10 and 11 to 3 to 7, and no other
  pub machines_to : values (machine_moves mast_tree mast_tree).to (0 ∷ 1 ∷ 2 ∷ []) ≡ some 2 ∷ some 3 ∷ none ∷ []
  pub nodes_to : values (node_moves mast_tree mast_tree).to (0 ∷ 1 ∷ 2 ∷ 3 ∷ 10 ∷ 11 ∷ 12 ∷ [])
      ≡ some 3 ∷ some 4 ∷ some 5 ∷ none ∷ some 6 ∷ some 7 ∷ none ∷ []
  -- the new root: its start, the lower node, holds the first book's root, and the other the second's
  pub root : w.root ≡ 4
  pub root_start : w.start 4 ≡ some 8
  pub root_holder : w.holder 4 ≡ none
  pub root_owns : values w.owner (8 ∷ 9 ∷ 12 ∷ []) ≡ some 4 ∷ some 4 ∷ none ∷ []
  pub root_holds : values w.below (8 ∷ 9 ∷ []) ≡ some 0 ∷ some 2 ∷ []
  pub root_still : (x : ℕ) → (w.transition 8 x ≡ none) × (w.transition 9 x ≡ none)
  -- the first book at its own numbers
  pub first_starts : values w.start (0 ∷ 1 ∷ []) ≡ some 0 ∷ some 10 ∷ []
  pub first_holders : values w.holder (0 ∷ 1 ∷ []) ≡ some 8 ∷ some 1 ∷ []
  pub first_owners : values w.owner (0 ∷ 1 ∷ 2 ∷ 10 ∷ 11 ∷ []) ≡ some 0 ∷ some 0 ∷ some 0 ∷ some 1 ∷ some 1 ∷ []
  pub first_below : values w.below (0 ∷ 1 ∷ 2 ∷ 10 ∷ 11 ∷ []) ≡ none ∷ some 1 ∷ none ∷ none ∷ none ∷ []
  pub first_0 : values (w.transition 0) (0 ∷ 1 ∷ 2 ∷ []) ≡ to 1 5 ∷ none ∷ to 2 20 ∷ []
  pub first_10 : values (w.transition 10) (0 ∷ 1 ∷ 2 ∷ []) ≡ none ∷ to 10 1 ∷ to 11 4 ∷ []
  -- the second at the new ones
  pub second_starts : values w.start (2 ∷ 3 ∷ 5 ∷ []) ≡ some 3 ∷ some 6 ∷ none ∷ []
  pub second_holders : values w.holder (2 ∷ 3 ∷ 5 ∷ []) ≡ some 9 ∷ some 4 ∷ none ∷ []
  pub second_owners : values w.owner (3 ∷ 4 ∷ 5 ∷ 6 ∷ 7 ∷ []) ≡ some 2 ∷ some 2 ∷ some 2 ∷ some 3 ∷ some 3 ∷ []
  pub second_below : values w.below (3 ∷ 4 ∷ 5 ∷ 6 ∷ 7 ∷ []) ≡ none ∷ some 3 ∷ none ∷ none ∷ none ∷ []
  pub second_3 : values (w.transition 3) (0 ∷ 1 ∷ 2 ∷ []) ≡ to 4 5 ∷ none ∷ to 5 20 ∷ []
  pub second_4 : values (w.transition 4) (0 ∷ 1 ∷ 2 ∷ []) ≡ none ∷ to 5 3 ∷ none ∷ []
  pub second_5 : values (w.transition 5) (0 ∷ 1 ∷ 2 ∷ []) ≡ to 3 7 ∷ none ∷ none ∷ []
  pub second_6 : values (w.transition 6) (0 ∷ 1 ∷ 2 ∷ []) ≡ none ∷ to 6 1 ∷ to 7 4 ∷ []

-- the merged tree
abbrev pub twice : Tree
twice = under_new_root mast_tree mast_tree 4 8 9 2

pub twice_merged : merged mast_tree mast_tree ≡ some twice
unfolding computing
twice_merged = refl

pub merge_worked : MastTwice twice
unfolding computing
merge_worked =
    record {
      machines_to = refl;
      nodes_to = refl;
      root = refl;
      root_start = refl;
      root_holder = refl;
      root_owns = refl;
      root_holds = refl;
      root_still = λ x. (refl, refl);
      first_starts = refl;
      first_holders = refl;
      first_owners = refl;
      first_below = refl;
      first_0 = refl;
      first_10 = refl;
      second_starts = refl;
      second_holders = refl;
      second_owners = refl;
      second_below = refl;
      second_3 = refl;
      second_4 = refl;
      second_5 = refl;
      second_6 = refl;
    }

-- ---- the fresh book and the mast book: the first keeps machine 0 and node 0, and the second makes room

pub record FreshMast (w : Tree) : Type 0 where
  pub machines_to : values (machine_moves fresh_tree mast_tree).to (0 ∷ 1 ∷ []) ≡ some 1 ∷ some 2 ∷ []
  pub nodes_to : values (node_moves fresh_tree mast_tree).to (0 ∷ 1 ∷ 2 ∷ 10 ∷ 11 ∷ []) ≡ some 1 ∷ some 2 ∷ some 3 ∷ some 4 ∷ some 5 ∷ []
  pub root : w.root ≡ 3
  pub starts : values w.start (0 ∷ 1 ∷ 2 ∷ 3 ∷ 4 ∷ []) ≡ some 0 ∷ some 1 ∷ some 4 ∷ some 6 ∷ none ∷ []
  pub holders : values w.holder (0 ∷ 1 ∷ 2 ∷ 3 ∷ 4 ∷ []) ≡ some 6 ∷ some 7 ∷ some 2 ∷ none ∷ none ∷ []
  pub below : values w.below (0 ∷ 1 ∷ 2 ∷ 3 ∷ 4 ∷ 5 ∷ 6 ∷ 7 ∷ []) ≡ none ∷ none ∷ some 2 ∷ none ∷ none ∷ none ∷ some 0 ∷ some 1 ∷ []
  pub owner : values w.owner (0 ∷ 1 ∷ 2 ∷ 3 ∷ 4 ∷ 5 ∷ 6 ∷ 7 ∷ 8 ∷ [])
      ≡ some 0 ∷ some 1 ∷ some 1 ∷ some 1 ∷ some 2 ∷ some 2 ∷ some 3 ∷ some 3 ∷ none ∷ []
  pub moves : values (w.transition 4) (0 ∷ 1 ∷ 2 ∷ []) ≡ none ∷ to 4 1 ∷ to 5 4 ∷ []

pub fresh_merged : merged fresh_tree mast_tree ≡ some (under_new_root fresh_tree mast_tree 3 6 7 1)
unfolding computing
fresh_merged = refl

pub fresh_worked : FreshMast (under_new_root fresh_tree mast_tree 3 6 7 1)
unfolding computing
fresh_worked =
    record {
      machines_to = refl;
      nodes_to = refl;
      root = refl;
      starts = refl;
      holders = refl;
      below = refl;
      owner = refl;
      moves = refl;
    }
