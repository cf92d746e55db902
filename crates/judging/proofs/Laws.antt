-- Laws of two tests in their order, and of what the words of a book say to each test. Assumes nothing.
use mathlib.Core.Path.{◌≡◌, refl, sym, ◌∙◌, ap}
use mathlib.Core.Logic.{⊎_elim}
use mathlib.Core.Bool.{Bool, true, false, not, ◌||◌}
use mathlib.Core.Option.{Option, none, some}
use mathlib.Core.List.{List}
use Prim.Native.Nat.{ℕ, ◌<◌}
use native.Mathlib.Omega.{arith}
use lib.Dec.{eqb}
use borrow.Author.Tests.{eq-eqb, ne_eqb}
use Rattle.definitions.specs.Limits.{machines, nodes, levels, absent}
use Rattle.definitions.specs.Basics.{option, is_some}
use Rattle.definitions.specs.Tree.{Tree, UsedNode, Sound, used_machine, used_node, level}
use Rattle.definitions.specs.Book.{word, tree_of, WellFormed}
use Rattle.definitions.specs.Edit.{is_start, apart, lowest, any_lowest}
use Rattle.definitions.proofs.Options.{decided, true_false}
use Rattle.definitions.proofs.Path.{same_level}
use Rattle.definitions.proofs.Words.{present_word, owner_range, start_range, below_range, no_start}
use Rattle.definitions.proofs.Commands.{none_below, below_none}
use Rattle.stepping.proofs.Laws.{owner_told}

-- ---- what the words say

-- a word that is not that of an absent number
pub there : (o : Option ℕ) → ((n : ℕ) → o ≡ some n → n < absent) → {w : ℕ} → w ≡ word o → not (eqb w absent) ≡ is_some o
unfolding word
there none fits {w} e = rw (eq-eqb w absent e)
there (some n) fits {w} e = let small : n < absent = fits n refl in rw (ne_eqb w absent (λ same. omega arith))

-- a node in use that is the lowest stands at level 8
lowest_used : (t : Tree) {n m : ℕ} → t.owner n ≡ some m → lowest t n ≡ eqb (level t n) levels
lowest_used t own = rw own

-- a machine whose start node is the lowest, and no such machine
pub machine_lowest : (t : Tree) → Sound t → (m : ℕ) → option false (lowest t) (t.start m) ≡ true
    → any_lowest t ≡ true
machine_lowest t s m e = go (t.start m) refl e
  where
    go : (o : Option ℕ) → t.start m ≡ o → option false (lowest t) o ≡ true → any_lowest t ≡ true
    go none st e = absurd (true_false e refl)
    go (some f) st e =
        ⊎_elim (λ holds. holds)
        (λ fails. absurd (true_false e (none_below nodes (lowest t) fails f (start_range t s m f st).1)))
        (decided (any_lowest t))

pub no_machine_lowest : (t : Tree) → Sound t → ((m : ℕ) → m < machines → option false (lowest t) (t.start m) ≡ false)
    → any_lowest t ≡ false
no_machine_lowest t s high = below_none nodes (lowest t) (λ n small. go n (t.owner n) refl)
  where
    go : (n : ℕ) (o : Option ℕ) → t.owner n ≡ o → lowest t n ≡ false
    go n none own = rw own
    go n (some m) own =
        let (f, st) = s.owner_used n m own in
        let own_f = s.start_owned m f st in
        let start_high : lowest t f ≡ false = rw st at (high m (s.machine_range m f st)) in
        lowest_used t own ∙ ap (λ (l : ℕ). eqb l levels) (same_level s own own_f) ∙ sym (lowest_used t own_f) ∙ start_high

module _ (ws : List ℕ) (w : WellFormed ws) where
  -- whether a machine and a node are in use, and whether a node is refined
  pub machine_told : (m : ℕ) {v : ℕ} → v ≡ word ((tree_of ws).start m) → not (eqb v absent) ≡ used_machine (tree_of ws) m
  machine_told m = there ((tree_of ws).start m) (λ f st. omega (arith, (start_range (tree_of ws) w.sound m f st).1))

  pub node_told : (n : ℕ) {v : ℕ} → v ≡ word ((tree_of ws).owner n) → not (eqb v absent) ≡ used_node (tree_of ws) n
  node_told n = there ((tree_of ws).owner n) (λ m own. omega (arith, (owner_range (tree_of ws) w.sound n m own).1))

  pub refined_told : (n : ℕ) {v : ℕ} → v ≡ word ((tree_of ws).below n) → not (eqb v absent) ≡ is_some ((tree_of ws).below n)
  refined_told n = there ((tree_of ws).below n) (λ m bel. omega (arith, (below_range (tree_of ws) w.sound n m bel).1))

  -- a machine that is not in use, and the start node of one that is
  pub no_machine_told : (m : ℕ) {f : ℕ} → f ≡ word ((tree_of ws).start m) → f ≡ absent
      → false ≡ option false (lowest (tree_of ws)) ((tree_of ws).start m)
  no_machine_told m e unused = rw (no_start (tree_of ws) w.sound m e unused)

  module _ (m : ℕ) {f : ℕ} (e : f ≡ word ((tree_of ws).start m)) (used : f ≡ absent → ⊥) where
    starts : (tree_of ws).start m ≡ some f
    starts = present_word ((tree_of ws).start m) e used

    pub start_used : UsedNode (tree_of ws) f
    start_used = (m, w.sound.start_owned m f starts)

    pub start_lowest : {r : Bool} → r ≡ lowest (tree_of ws) f → r ≡ option false (lowest (tree_of ws)) ((tree_of ws).start m)
    start_lowest low = rw starts low

  module _ (n : ℕ) (used : UsedNode (tree_of ws) n) where
    -- the start node of a node's machine
    pub start_told : {o f : ℕ} → o ≡ word ((tree_of ws).owner n) → f ≡ word ((tree_of ws).start o) → eqb f n ≡ is_start (tree_of ws) n
    unfolding word
    start_told {o} {f} eo ef =
        let own = (owner_told ws w n used eo).0 in
        let (g, st) = w.sound.owner_used n o own in
        rw (own, st) (ap (λ (k : ℕ). eqb k n) (ef ∙ ap word st))

    -- the owners of two nodes
    pub apart_told : (v : ℕ) → UsedNode (tree_of ws) v → {o p : ℕ} → o ≡ word ((tree_of ws).owner n) → p ≡ word ((tree_of ws).owner v)
        → not (eqb p o) ≡ apart (tree_of ws) n v
    apart_told v used_v eo ep = rw ((owner_told ws w n used eo).0, (owner_told ws w v used_v ep).0)
