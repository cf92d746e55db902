-- The level of a machine, climbed machine by machine, and the list of the levels. Assumes nothing.
use mathlib.Core.Path.{◌≡◌, refl, sym, ◌∙◌, ap}
use mathlib.Core.Logic.{⊎_elim}
use mathlib.Core.Option.{Option, none, some}
use Prim.Native.Nat.{ℕ, suc, ◌+◌, ◌≤◌, ◌<◌}
use native.Mathlib.Omega.{arith}
use Rattle.definitions.specs.Limits.{nodes, levels, absent}
use Rattle.definitions.specs.Tree.{Tree, Sound, level}
use Rattle.definitions.specs.Book.{word}
use Rattle.definitions.proofs.Options.{none_some, present}
use Rattle.definitions.proofs.Path.{Deep, at_root, under, deep, level_on, level_deep, level_bound}
use Rattle.definitions.proofs.Words.{present_word, holder_range, no_holder, no_start}
use Rattle.refreshing.specs.Refresh.{machine_level}

-- ---- levels

module _ {t : Tree} (sound : Sound t) where
  -- the level of a machine in use is that of any of its nodes
  pub level_node : {m s n : ℕ} → t.start m ≡ some s → t.owner n ≡ some m → machine_level t m ≡ level t n
  level_node {m} {s} {n} used own =
      let (k, small, way) = deep sound used in
      rw used (level_deep sound (sound.start_owned m s used) way ∙ sym (level_deep sound own way))

  -- it is 1 to 8
  pub level_range : {m s : ℕ} → t.start m ≡ some s → (0 < machine_level t m) × (machine_level t m ≤ levels)
  level_range {m} {s} used =
      let own = sound.start_owned m s used in
      let (k, small, way) = deep sound used in
      (omega (arith, level_node used own, level_deep sound own way), omega (arith, level_node used own, level_bound sound own))

  -- no machine is at more than 8
  pub level_most : (m : ℕ) → machine_level t m ≤ levels
  level_most m = ⊎_elim (λ off. rw off (omega arith)) (λ used. (level_range used.1).1) (present (t.start m))

  -- a machine just below another is one level lower
  pub level_below : {n m b : ℕ} → t.owner n ≡ some m → t.below n ≡ some b → machine_level t b ≡ suc (machine_level t m)
  level_below {n} {m} {b} own down =
      let hold = sound.below_held n b down in
      let (f, used) = sound.owner_used n m own in
      let (g, used_b) = sound.held_used b n hold in
      let own_g = sound.start_owned b g used_b in
      level_node used_b own_g ∙ level_on sound own_g hold ∙ ap suc (sym (level_node used own))

  -- a machine that nothing holds is at level 1
  level_top : {m s : ℕ} → t.start m ≡ some s → t.holder m ≡ none → machine_level t m ≡ 1
  level_top {m} {s} used free =
      let own = sound.start_owned m s used in
      let (k, small, way) = deep sound used in
      level_node used own ∙ level_deep sound own way ∙ ap suc (go way)
    where
      go : {k : ℕ} → Deep t m k → k ≡ 0
      go (at_root e) = refl
      go (under hold own d) = absurd (none_some free hold)

-- a machine that has a level is in use
pub level_used : (t : Tree) (m : ℕ) → 0 < machine_level t m → (s : ℕ) × (t.start m ≡ some s)
level_used t m high = ⊎_elim (λ off. absurd (omega (arith, unused off))) (λ used. used) (present (t.start m))
  where
    unused : t.start m ≡ none → machine_level t m ≡ 0
    unused off = rw off

-- ---- the climb

-- p is the machine where the climb from m has come, past so many machines
pub record Climbed (t : Tree) (m p count : ℕ) : Type 0 where
  pub used : (s : ℕ) × (t.start p ≡ some s)
  pub same : count + machine_level t p ≡ suc (machine_level t m)

-- a machine that is not in use
pub level_unused : {t : Tree} → Sound t → (m : ℕ) {w : ℕ} → w ≡ word (t.start m) → w ≡ absent → 0 ≡ machine_level t m
level_unused {t} sound m says e = sym (rw (no_start t sound m says e))

-- the climb begins
pub climbed_first : {t : Tree} {m w : ℕ} → w ≡ word (t.start m) → (w ≡ absent → ⊥) → Climbed t m m 1
climbed_first {t} {m} says there = record { used = (_, present_word (t.start m) says there); same = omega arith }

module _ {t : Tree} (sound : Sound t) {m p count : ℕ} (at : Climbed t m p count) where
  -- nothing holds it: so many machines make up the level
  pub climbed_top : {h : ℕ} → h ≡ word (t.holder p) → h ≡ absent → count ≡ machine_level t m
  climbed_top says e =
      let (s, used) = at.used in
      omega (arith, level_top sound used (no_holder t sound p says e), at.same)

  module _ {h : ℕ} (says : h ≡ word (t.holder p)) (there : h ≡ absent → ⊥) where
    held : t.holder p ≡ some h
    held = present_word (t.holder p) says there

    -- a node holds it
    pub climbed_holder : h < nodes
    climbed_holder = (holder_range t sound p h held).1

    -- not all levels are passed
    pub climbed_below : count < levels
    climbed_below =
        let (q, own) = sound.holder_used p h held in
        let (f, used) = sound.owner_used h q own in
        omega (arith, at.same, level_below sound own (sound.held_below p h held), level_range sound used, level_most sound m)

    -- the machine of that node is next
    pub climbed_up : {w : ℕ} → w ≡ word (t.owner h) → Climbed t m w (count + 1)
    unfolding word
    climbed_up {w} says_owner =
        let (q, own) = sound.holder_used p h held in
        let same : w ≡ q = says_owner ∙ ap word own in
        let own_w : t.owner h ≡ some w = own ∙ ap {B = Option ℕ} some (sym same) in
        record {
          used = sound.owner_used h w own_w;
          same = omega (arith, at.same, level_below sound own_w (sound.held_below p h held));
        }
