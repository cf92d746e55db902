-- The level and entering, one node at a time, as the loops go, and the step from what the climb finds. Assumes nothing.
use mathlib.Core.Path.{◌≡◌, sym, ◌∙◌, ap}
use mathlib.Core.Option.{none, some}
use mathlib.Core.List.{List}
use Prim.Native.Nat.{ℕ, suc, ◌-◌, ◌<◌}
use native.Mathlib.Omega.{arith}
use lib.ListN.{length}
use Rattle.definitions.specs.Limits.{machines, nodes, levels, absent}
use Rattle.definitions.specs.Tree.{Tree, UsedNode, Sound, level}
use Rattle.definitions.specs.Step.{found, passed, climb, enter, follow, step_in, step, found_at, acting}
use Rattle.definitions.specs.Book.{word, tree_of, WellFormed}
use Rattle.definitions.proofs.Path.{Deep, at_root, under, deep, path_root, climb_found, enter_plain, enter_down, level_on, level_bound}
use Rattle.definitions.proofs.Words.{present_word, owner_range, below_range, no_holder, no_below}

-- a machine in use that nothing holds is the root
pub top_root : {t : Tree} → Sound t → {m f : ℕ} → t.start m ≡ some f → t.holder m ≡ none → m ≡ t.root
top_root {t} s {m} st free =
    let (k, small, way) = deep s st in
    go way
  where
    go : {k : ℕ} → Deep t m k → m ≡ t.root
    go (at_root e) = e
    go (under hold own d) = absurd (let z : ◌≡◌ {A = ℕ} 0 1 = cc in omega arith)

-- ---- what the words of a node in use say

module _ (ws : List ℕ) (w : WellFormed ws) (n : ℕ) (used : UsedNode (tree_of ws) n) where
  -- a node in use is in range, and so is its owner
  pub used_range : n < nodes
  used_range = w.sound.node_range n used.0 used.1

  -- the owner's word is the owner
  pub owner_told : {o : ℕ} → o ≡ word ((tree_of ws).owner n) → ((tree_of ws).owner n ≡ some o) × (o < machines)
  unfolding word
  owner_told {o} e =
      let same : o ≡ used.0 = e ∙ ap word used.1 in
      let own : (tree_of ws).owner n ≡ some o = used.1 ∙ ap some (sym same) in
      (own, (owner_range (tree_of ws) w.sound n o own).1)

  -- ---- the level

  -- the level of a node of the root, and of another
  pub level_top : {o h : ℕ} → o ≡ word ((tree_of ws).owner n) → h ≡ word ((tree_of ws).holder o) → h ≡ absent
      → level (tree_of ws) n ≡ 1
  unfolding level
  level_top {o} eo eh top =
      ap length (path_root (tree_of ws) (owner_told eo).0 (no_holder (tree_of ws) w.sound o eh top))

  pub level_up : {o h : ℕ} → o ≡ word ((tree_of ws).owner n) → h ≡ word ((tree_of ws).holder o) → (h ≡ absent → ⊥)
      → UsedNode (tree_of ws) h × (level (tree_of ws) n ≡ suc (level (tree_of ws) h))
  level_up {o} {h} eo eh held =
      let hold = present_word ((tree_of ws).holder o) eh held in
      (w.sound.holder_used o h hold, level_on w.sound (owner_told eo).0 hold)

  -- ---- entering

  -- a plain node
  pub plain_told : {b : ℕ} → b ≡ word ((tree_of ws).below n) → b ≡ absent → enter (tree_of ws) n ≡ some n
  plain_told e none_below = enter_plain (tree_of ws) n (no_below (tree_of ws) w.sound n e none_below)

  -- the machine below is in range
  pub below_told : {b : ℕ} → b ≡ word ((tree_of ws).below n) → (b ≡ absent → ⊥) → b < machines
  below_told {b} e held = (below_range (tree_of ws) w.sound n b (present_word ((tree_of ws).below n) e held)).1

  -- its start node is entered where the node is
  pub record EnteredOn (f : ℕ) : Type 0 where
    pub used_start : UsedNode (tree_of ws) f
    pub same : enter (tree_of ws) n ≡ enter (tree_of ws) f
    pub lower : levels - level (tree_of ws) f < levels - level (tree_of ws) n

  pub down_told : {b f : ℕ} → b ≡ word ((tree_of ws).below n) → (b ≡ absent → ⊥) → f ≡ word ((tree_of ws).start b) → EnteredOn f
  unfolding word
  down_told {b} {f} eb held ef =
      let s = w.sound in
      let bel = present_word ((tree_of ws).below n) eb held in
      let hold = s.below_held n b bel in
      let (g, st) = s.held_used b n hold in
      let same : f ≡ g = ef ∙ ap word st in
      let st_f : (tree_of ws).start b ≡ some f = st ∙ ap some (sym same) in
      let own_f = s.start_owned b f st_f in
      record {
        used_start = (b, own_f);
        same = enter_down s used.1 bel st_f;
        lower = omega (arith, level_on s own_f hold, level_bound s own_f, level_bound s used.1);
      }

-- ---- the step, from what the climb finds

module _ (t : Tree) (n x : ℕ) where
  -- the target of what is found is in use
  pub target_used : Sound t → {u v c : ℕ} → found u v c ≡ climb t t.root n x → UsedNode t v
  target_used s e = let at = climb_found s t.root n x (sym e) in (at.machine, at.target_owner)

  pub step_found : {u v c e : ℕ} → found u v c ≡ climb t t.root n x → enter t v ≡ some e → step t n x ≡ some (record { node = e; cost = c })
  unfolding step_in
  step_found up en = ap (follow t) (sym up) ∙ rw en

  pub acting_found : {u v c : ℕ} → found u v c ≡ climb t t.root n x → acting t n x ≡ some u
  unfolding acting
  acting_found up = ap found_at (sym up)

  pub step_passed : {l : ℕ} → passed l ≡ climb t t.root n x → step t n x ≡ none
  unfolding step_in
  step_passed up = ap (follow t) (sym up)
