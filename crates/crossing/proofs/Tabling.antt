-- The moves that the tables take: an entry's, and those of the rows of opened machines and of others. Assumes nothing.
use mathlib.Core.Path.{◌≡◌, refl, sym, ◌∙◌}
use mathlib.Core.Bool.{Bool, true, false}
use mathlib.Core.Option.{Option, none, some}
use mathlib.Core.List.{List}
use Prim.Native.Nat.{ℕ}
use Rattle.definitions.specs.Basics.{◌>>=◌}
use Rattle.definitions.specs.Limits.{absent}
use Rattle.definitions.specs.Tree.{Tree, Transition, Sound}
use Rattle.definitions.specs.Step.{Climb, found, passed, climb}
use Rattle.definitions.specs.Sheet.{Rows}
use Rattle.definitions.specs.Truth.{node_exit}
use Rattle.definitions.proofs.Options.{true_false}
use Rattle.definitions.proofs.Path.{climb_found}
use Rattle.plantheory.specs.Search.{arrives, plan_move}
use Rattle.search.specs.Search.{entry_move}
use Rattle.search.specs.Tables.{BlankRow, RowFilled}
use Rattle.search.proofs.Tables.{entry_none}
use Rattle.inheriting.specs.Inheriting.{landed, finds}
use Rattle.crossing.specs.Parts.{in_opened, Landings, leaves, land_move}
use Rattle.crossing.specs.Parts.{open_move}

-- ---- the moves by where the targets land

module _ {t : Tree} (s : Sound t) {lands : List ℕ} where
  -- they are the moves of the search
  pub land_plan : (r : Rows) {opened : ℕ → Bool} → Landings t opened lands → (n x : ℕ) → land_move t r lands n x ≡ plan_move t r opened n x
  unfolding land_move plan_move finds
  land_plan r {opened} landings n x = go (node_exit t r n x) (climb t t.root n x) refl
    where
      go : (o : Option ℕ) (k : Climb) → climb t t.root n x ≡ k → leaves o (landed lands k) ≡ (o >>= λ e. arrives t opened e k)
      go none k up = refl
      go (some e) (passed c) up = refl
      go (some e) (found u v c) up =
          let at_v = climb_found s t.root n x up in
          rw (landings.says v (s.node_range v at_v.machine at_v.target_owner))

-- ---- one entry

-- a node that is never left has none
pub priced_never : (c : ℕ) (way : Option Transition) → entry_move absent c ≡ leaves none way
priced_never c way = entry_none absent c refl

-- the two together are the move
pub move_parts : (t : Tree) (r : Rows) (lands : List ℕ) (n x : ℕ) {exit : Option ℕ} {way : Option Transition} → exit ≡ node_exit t r n x
    → way ≡ finds t lands n x → leaves exit way ≡ land_move t r lands n x
unfolding land_move
move_parts t r lands n x exits finds_it = rw (exits, finds_it)

-- ---- the row of a node in an opened machine, or not

module _ (t : Tree) (opened : ℕ → Bool) (n : ℕ) where
  -- a node of an opened machine is in use
  pub in_used : in_opened t opened n ≡ true → (m : ℕ) × (t.owner n ≡ some m) × (opened m ≡ true)
  unfolding in_opened
  in_used on = go (t.owner n) refl
    where
      go : (o : Option ℕ) → t.owner n ≡ o → (m : ℕ) × (t.owner n ≡ some m) × (opened m ≡ true)
      go none own = absurd (true_false (rw own at on) refl)
      go (some m) own = (m, own, rw own at on)

  -- and so its machine, whichever it is, is opened
  pub own_opened : in_opened t opened n ≡ true → {m : ℕ} → t.owner n ≡ some m → opened m ≡ true
  unfolding in_opened
  own_opened on own = rw own at on

  pub used_in_lem : {m : ℕ} → t.owner n ≡ some m → opened m ≡ true → in_opened t opened n ≡ true
  unfolding in_opened
  used_in_lem own on = rw own on

module _ (t : Tree) (r : Rows) (opened : ℕ → Bool) (n : ℕ) where
  -- its moves are the search's
  pub open_move_lem : (x : ℕ) → in_opened t opened n ≡ true → open_move t r opened n x ≡ plan_move t r opened n x
  unfolding open_move
  open_move_lem x on = rw on

  -- and any other node has none
  pub shut_move : (x : ℕ) → in_opened t opened n ≡ false → open_move t r opened n x ≡ none
  unfolding open_move
  shut_move x off = rw off

  module _ {target price : List ℕ} where
    pub row_shut : in_opened t opened n ≡ false → BlankRow n target price → RowFilled (open_move t r opened n) n target price target price
    row_shut off blank = record { here = λ x range. blank x range ∙ sym (shut_move x off); others = λ u x range apart. refl }

    pub row_open : {lands new price' : List ℕ} → Sound t → Landings t opened lands → in_opened t opened n ≡ true
        → RowFilled (land_move t r lands n) n target price new price' → RowFilled (open_move t r opened n) n target price new price'
    row_open s landings on row =
        record { here = λ x range. row.here x range ∙ land_plan s r landings n x ∙ sym (open_move_lem x on); others = row.others }
