-- Document 01, "The mast book": the starred examples, as one statement about the definitions. (The acting node is document 02's, W-202.)
use Rattle.std.specs.Prelude.{◌≡◌, List, [], ◌∷◌, ℕ, ◌≤◌, ◌<◌, length}
use Rattle.std.proofs.Math.Option.{some}
use Rattle.definitions.specs.Limits.{commands}
use Rattle.definitions.specs.Tree.{Tree}
use Rattle.definitions.specs.Costs.{LeastCost, ExitCost}
use Rattle.definitions.specs.Book.{encode}
use Rattle.definitions.specs.Truth.{TrueSheet}
use Rattle.definitions.specs.Load.{load, expected}
use Rattle.definitions.specs.Open.{fresh_tree}
use Rattle.definitions.specs.Answer.{gives, refuses}
use Rattle.definitions.specs.Calls.{StepSays, Plan, PlanSays}

-- the 70 bytes
unfoldable pub mast_stream : List ℕ
mast_stream =
    0x10 ∷ 0x00 ∷ 0x00 ∷ 0x00
    ∷ 0x11 ∷ 0x00 ∷ 0x00 ∷ 0x01
    ∷ 0x11 ∷ 0x00 ∷ 0x00 ∷ 0x02
    ∷ 0x12 ∷ 0x00 ∷ 0x01 ∷ 0x01 ∷ 0x00 ∷ 0x0A
    ∷ 0x11 ∷ 0x01 ∷ 0x00 ∷ 0x0B
    ∷ 0x14 ∷ 0x00 ∷ 0x00 ∷ 0x00 ∷ 0x00 ∷ 0x01 ∷ 0x00 ∷ 0x05
    ∷ 0x14 ∷ 0x00 ∷ 0x00 ∷ 0x02 ∷ 0x00 ∷ 0x02 ∷ 0x00 ∷ 0x14
    ∷ 0x14 ∷ 0x00 ∷ 0x01 ∷ 0x01 ∷ 0x00 ∷ 0x02 ∷ 0x00 ∷ 0x03
    ∷ 0x14 ∷ 0x00 ∷ 0x02 ∷ 0x00 ∷ 0x00 ∷ 0x00 ∷ 0x00 ∷ 0x07
    ∷ 0x14 ∷ 0x00 ∷ 0x0A ∷ 0x01 ∷ 0x00 ∷ 0x0A ∷ 0x00 ∷ 0x01
    ∷ 0x14 ∷ 0x00 ∷ 0x0A ∷ 0x02 ∷ 0x00 ∷ 0x0B ∷ 0x00 ∷ 0x04
    ∷ []

-- the stream that clears one transition of a node
abbrev pub clearing : ℕ → ℕ → List ℕ
clearing n x = 0x15 ∷ 0x00 ∷ n ∷ x ∷ []

-- the station of the mast book, opened fresh, and after further streams
unfoldable pub mast_after : List (List ℕ) → Tree
mast_after streams = expected fresh_tree (mast_stream ∷ streams)

unfoldable pub mast_tree : Tree
mast_tree = mast_after []

-- a sheet of the tree that is true and has nothing stale, and on which Plan from a to b is refused with 16
pub record RefusedWith16 (t : Tree) (a b room : ℕ) : Type 0 where
  pub sheet : List ℕ
  pub sheet_true : TrueSheet t sheet
  pub answer : (buffer : List ℕ) → room ≤ length buffer → PlanSays (encode t) sheet a b buffer (refuses 16) buffer

-- the starred examples
pub record MastExamples : Type 0 where
  pub whole : ((load fresh_tree mast_stream).bytes ≡ 70) × ((load fresh_tree mast_stream).number ≡ 0)
  pub from_0_to_2 : Plan mast_tree 0 2 12 (0 ∷ 2 ∷ 1 ∷ [])
  pub from_11_to_10 : Plan mast_tree 11 10 15 (1 ∷ 0 ∷ 0 ∷ [])
  pub from_0_to_0 : Plan mast_tree 0 0 0 []
  pub exits_of_1 : ExitCost mast_tree 1 0 (some 0) × ExitCost mast_tree 1 1 (some 4) × ExitCost mast_tree 1 2 (some 4)
  pub exits_of_0 : ExitCost mast_tree 0 0 (some 5) × ExitCost mast_tree 0 1 (some 0) × ExitCost mast_tree 0 2 (some 9)
  pub step_11_by_1 : StepSays (encode mast_tree) 11 1 (gives (2 ∷ 3 ∷ 1 ∷ []))
  pub step_11_by_0 : StepSays (encode mast_tree) 11 0 (refuses 17)
  pub step_1 : (x : ℕ) → x < commands → StepSays (encode mast_tree) 1 x (refuses 14)
  pub cleared_10_1 : LeastCost (mast_after (clearing 10 1 ∷ [])) 0 2 (some 8)
  pub cleared_1_1 : LeastCost (mast_after (clearing 1 1 ∷ [])) 0 2 (some 20)
  pub cleared_both : RefusedWith16 (mast_after (clearing 1 1 ∷ clearing 0 2 ∷ [])) 0 2 3
