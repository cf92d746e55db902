-- The mast book of document 01: the search's moves and the expansion, by computing with the definitions. From 0 to 2 only machine 0 is
-- opened, and node 1 opens into the path of machine 1; from 11 to 10 both machines are. Assumes nothing.
use mathlib.Core.Path.{◌≡◌, refl}
use mathlib.Core.Bool.{false}
use mathlib.Core.Option.{Option, none, some}
use mathlib.Core.List.{[], ◌∷◌}
use Prim.Native.Nat.{ℕ}
use Rattle.definitions.specs.Basics.{put, any_of, any_below}
use Rattle.definitions.specs.Tree.{Tree, above, path_f, path, level, over}
use Rattle.definitions.specs.Step.{counting, look, climb, Arrival}
use Rattle.definitions.specs.Book.{under}
use Rattle.definitions.specs.Sheet.{Rows}
use Rattle.definitions.specs.Truth.{node_exit}
use Rattle.definitions.specs.Stream.{operand_length, decode, read_next}
use Rattle.definitions.specs.Edit.{first_holding, refusals, refusal, single, with_transition, edited}
use Rattle.definitions.specs.Load.{next, load_f, load, expected}
use Rattle.definitions.specs.Open.{fresh_tree}
use Rattle.definitions.specs.Mast.{mast_stream, mast_after, mast_tree}
use Rattle.definitions.proofs.Tests.{listed}
use Rattle.plantheory.specs.Search.{opened_for, land_f, land, plan_move}
use Rattle.plantheory.specs.Expand.{chain_part, path_by, node_part, plan_part}

-- the row of machine 1, all that the two plans read of the rows: it is left by 1 from node 11, which is reached from 10 by 2
row_of1 : Rows
row_of1 =
    record {
      stale = λ m. false;
      exit = put (λ m x. none) 1 (listed ((0, 0) ∷ (1, 4) ∷ (2, 4) ∷ []));
      last = put (λ m x. none) 1 (listed ((0, 10) ∷ (1, 11) ∷ (2, 11) ∷ []));
      cost = listed ((10, 0) ∷ (11, 4) ∷ []);
      before = listed ((11, 10) ∷ []);
      by = listed ((11, 2) ∷ []);
    }

-- to open these is to open everything that the examples compute with
reading : Tree
unfolding load load_f next expected operand_length decode read_next first_holding refusals refusal level mast_stream
reading = fresh_tree

editing : Tree
unfolding fresh_tree single with_transition edited mast_after mast_tree
editing = fresh_tree

searching : Tree
unfolding above path_f path any_of any_below over counting look climb node_exit under listed row_of1 opened_for land_f land plan_move
searching = fresh_tree

computing : Tree
unfolding reading editing searching chain_part path_by node_part plan_part
computing = fresh_tree

-- from 0 to 2
from_0 : (q x : ℕ) → Option Arrival
from_0 = plan_move mast_tree row_of1 (opened_for mast_tree 0 2)

from_0_moves : (from_0 0 0 ≡ some (record { node = 1; cost = 5 })) × (from_0 1 1 ≡ some (record { node = 2; cost = 7 }))
unfolding computing from_0
from_0_moves = (refl, refl)

from_0_to_2 : plan_part mast_tree row_of1 (listed ((1, 0) ∷ (2, 1) ∷ [])) (listed ((1, 0) ∷ (2, 1) ∷ [])) 2 ≡ 0 ∷ 2 ∷ 1 ∷ []
unfolding computing
from_0_to_2 = refl

-- from 11 to 10
from_11 : (q x : ℕ) → Option Arrival
from_11 = plan_move mast_tree row_of1 (opened_for mast_tree 11 10)

from_11_moves : (from_11 11 1 ≡ some (record { node = 2; cost = 3 })) × (from_11 2 0 ≡ some (record { node = 0; cost = 7 }))
    × (from_11 0 0 ≡ some (record { node = 10; cost = 5 }))
unfolding computing from_11
from_11_moves = (refl, refl, refl)

from_11_to_10 : plan_part mast_tree row_of1 (listed ((2, 11) ∷ (0, 2) ∷ (10, 0) ∷ [])) (listed ((2, 1) ∷ (0, 0) ∷ (10, 0) ∷ [])) 10 ≡ 1 ∷ 0 ∷ 0 ∷ []
unfolding computing
from_11_to_10 = refl
