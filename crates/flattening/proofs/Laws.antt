-- Where the nodes are entered, what the machines inherit level by level, and the moves of the tables. Assumes nothing.
use mathlib.Core.Path.{◌≡◌, refl, sym, ◌∙◌, ap, subst}
use mathlib.Core.Logic.{⊎_elim}
use mathlib.Core.Bool.{true, false}
use mathlib.Core.Option.{Option, none, some}
use mathlib.Core.List.{List}
use Prim.Native.Nat.{ℕ, ◌+◌, ◌/◌, ◌%◌, ◌≤◌, ◌<◌}
use native.Mathlib.Omega.{arith}
use lib.ListN.{length}
use Rattle.definitions.specs.Basics.{◌>>=◌}
use Rattle.definitions.specs.Limits.{machines, nodes}
use Rattle.definitions.specs.Tree.{Tree, Transition, UsedNode, is_state, level, Sound}
use Rattle.definitions.specs.Step.{enter, Climb, found, passed, climb, Arrival, follow, step_in, step}
use Rattle.definitions.proofs.Options.{none_some, less_or_not}
use Rattle.definitions.proofs.Path.{deep, path_root, level_on, level_deep, enter_enters, enters_state, climb_found}
use Rattle.search.specs.Search.{entry_move}
use Rattle.search.specs.Parts.{at}
use Rattle.search.specs.Tables.{BlankRow, RowFilled}
use Rattle.stepping.proofs.Laws.{top_root}
use Rattle.inheriting.specs.Inheriting.{way_costs, way_of, landed, finds, MachineRow, RootRow}
use Rattle.inheriting.proofs.Inheriting.{finds_fits, way_entry}
use Rattle.flattening.specs.Flattening.{EnteredAt, Entered, LevelRows, HeldAt, HandedAt, flat_move}

-- ---- where the nodes are entered

-- a node that is not in use, and one that is
pub entered_off : (t : Tree) (n : ℕ) → n < nodes → t.owner n ≡ none → EnteredAt t n n
entered_off t n small off = record { small = small; says = λ (m, own). absurd (none_some off own) }

pub entered_on : {t : Tree} → Sound t → (n : ℕ) {r : ℕ} → UsedNode t n → enter t n ≡ some r → EnteredAt t n r
entered_on s n {r} (m, own) e =
    let (p, owned, plain) = enters_state s (enter_enters s own e) own in
    record { small = s.node_range r p owned; says = λ used. e }

-- ---- what the machines inherit

-- no node stands above level 1
level_least : {t : Tree} → Sound t → {n : ℕ} → UsedNode t n → 1 ≤ level t n
level_least s {n} (m, own) =
    let (f, start) = s.owner_used n m own in
    let (k, small, way) = deep s start in
    omega (arith, level_deep s own way)

-- the root's row is the first level's
pub root_level : {t : Tree} → Sound t → (lands up : List ℕ) → RootRow t lands up → LevelRows t lands up 1
root_level {t} s lands up row n used low m own = go (t.holder m) refl
  where
    go : (o : Option ℕ) → t.holder m ≡ o → MachineRow t lands up m
    go none top =
        let (f, start) = s.owner_used n m own in
        subst (MachineRow t lands up) (sym (top_root s start top)) row
    go (some h) hold = absurd (omega (arith, level_on s own hold, low, level_least s (s.holder_used m h hold)))

-- a node of the root stands at level 1
level_root : (t : Tree) {n m : ℕ} → t.owner n ≡ some m → t.holder m ≡ none → level t n ≡ 1
unfolding level
level_root t own top = ap length (path_root t own top)

module _ {t : Tree} {lands : List ℕ} {l : ℕ} where
  -- nothing is told of a machine that is not held at the level
  pub handed_off : (m : ℕ) (up : List ℕ) → (HeldAt t l m → ⊥) → HandedAt t lands l (λ p. p ≡ m) up up
  handed_off m up off =
      record { told = λ p x range (same, at_it). absurd (off (subst (HeldAt t l) same at_it)); kept = λ p x range e. e }

  -- the rows that were written stay
  pub level_kept : {Told : ℕ → Type 0} {up new : List ℕ} → LevelRows t lands up l → HandedAt t lands l Told up new → LevelRows t lands new l
  level_kept rows handed n used low m own x range = handed.kept m x range (rows n used low m own x range)

  -- one level more
  pub level_next : Sound t → {k : ℕ} {up new : List ℕ} → machines ≤ k → 1 ≤ l → LevelRows t lands up l → HandedAt t lands l (λ p. p < k) up new
      → LevelRows t lands new (l + 1)
  level_next s {k} {up} {new} all from rows handed n used low m own =
      ⊎_elim (λ (more : l < level t n). go (t.holder m) refl more)
      (λ (less : level t n ≤ l). level_kept rows handed n used less m own) (less_or_not l (level t n))
    where
      go : (o : Option ℕ) → t.holder m ≡ o → l < level t n → MachineRow t lands new m
      go none top more = absurd (omega (arith, level_root t own top, from, more))
      go (some h) hold more =
          let (f, start) = s.owner_used n m own in
          let machine = s.machine_range m f start in
          let same : level t h ≡ l = omega (arith, level_on s own hold, more, low) in
          λ x range. handed.told m x range (omega (arith, machine, all), (h, hold, same))

-- ---- the tables

-- where a transition leads, its cost with e more
abbrev toward : ℕ → Option Transition → Option Arrival
toward e o = o >>= λ a. some (record { node = a.target; cost = e + a.cost })

module _ {t : Tree} (s : Sound t) {lands : List ℕ} (entered : Entered t lands) where
  -- what is found, its target entered, is the step
  found_step : (n x : ℕ) → toward 0 (finds t lands n x) ≡ step t n x
  unfolding finds step_in
  found_step n x = go (climb t t.root n x) refl
    where
      go : (k : Climb) → climb t t.root n x ≡ k → toward 0 (landed lands k) ≡ follow t k
      go (passed c) up = refl
      go (found u v c) up =
          let at_v = climb_found s t.root n x up in
          let there = (entered.says v (s.node_range v at_v.machine at_v.target_owner)).says (at_v.machine, at_v.target_owner) in
          let free : 0 + c ≡ c = omega arith in
          ap (λ (d : ℕ). some (record { node = at lands v; cost = d })) free
          ∙ sym (ap (λ (o : Option ℕ). o >>= λ e. some (record { node = e; cost = c })) there)

  -- and so is the entry that the word of it gives
  pub entry_step : (n x w : ℕ) → way_of w ≡ finds t lands n x → entry_move (w / way_costs) (w % way_costs) ≡ step t n x
  entry_step n x w says =
      let free : 0 + w % way_costs ≡ w % way_costs = omega arith in
      subst (λ (c : ℕ). entry_move (w / way_costs) c ≡ step t n x) free
      (way_entry w 0 (finds_fits s entered.list n x w says) ∙ ap (toward 0) says ∙ found_step n x)

-- the moves of a state, and of a node that is none
module _ (t : Tree) (n : ℕ) where
  pub state_move : (x : ℕ) → is_state t n ≡ true → flat_move t n x ≡ step t n x
  unfolding flat_move
  state_move x on = rw on

  pub no_move : (x : ℕ) → is_state t n ≡ false → flat_move t n x ≡ none
  unfolding flat_move
  no_move x off = rw off

  module _ {target price : List ℕ} where
    pub row_none : is_state t n ≡ false → BlankRow n target price → RowFilled (flat_move t n) n target price target price
    row_none off blank = record { here = λ x range. blank x range ∙ sym (no_move x off); others = λ u x range apart. refl }

    pub row_state : {new price' : List ℕ} → is_state t n ≡ true → RowFilled (step t n) n target price new price'
        → RowFilled (flat_move t n) n target price new price'
    row_state on row = record { here = λ x range. row.here x range ∙ sym (state_move x on); others = row.others }
