-- Which nodes and machines are within a node, one node up at a time, and the list that says so. Assumes nothing.
use mathlib.Core.Path.{◌≡◌, refl, ap, sym, ◌∙◌}
use mathlib.Core.Logic.{⊎_elim}
use mathlib.Core.Bool.{Bool, false, ◌||◌, or-false}
use mathlib.Core.Option.{Option, none, some}
use mathlib.Core.List.{List}
use Prim.Native.Nat.{ℕ, ◌<◌}
use lib.Dec.{eqb}
use Rattle.definitions.specs.Basics.{option}
use Rattle.definitions.specs.Limits.{machines, nodes, absent}
use Rattle.definitions.specs.Tree.{within}
use Rattle.definitions.specs.Book.{word, tree_of, WellFormed}
use Rattle.definitions.specs.Edit.{held_within}
use Rattle.definitions.proofs.Options.{present}
use Rattle.definitions.proofs.Words.{present_word, no_holder, owner_range, holder_range}
use Rattle.definitions.proofs.Commands.{within_top, within_up}
use Rattle.book.specs.Chosen.{chosen}
use Rattle.stepping.proofs.Inside.{within_unused}
use Rattle.removing.specs.Within.{Listed, goes_with}

-- ---- the machines within a node

module _ (ws : List ℕ) (w : WellFormed ws) (n m : ℕ) {h : ℕ} (holder : h ≡ word ((tree_of ws).holder m)) where
  -- no node holds the machine
  pub not_held : h ≡ absent → false ≡ held_within (tree_of ws) n m
  not_held free = sym (ap (option false (within (tree_of ws) n)) (no_holder (tree_of ws) w.sound m holder free))

  module _ (present : h ≡ absent → ⊥) where
    held_by : (tree_of ws).holder m ≡ some h
    held_by = present_word ((tree_of ws).holder m) holder present

    pub held_range : h < nodes
    held_range = (holder_range (tree_of ws) w.sound m h held_by).1

    -- node h holds it
    pub held_told : within (tree_of ws) n h ≡ held_within (tree_of ws) n m
    held_told = sym (ap (option false (within (tree_of ws) n)) held_by)

-- ---- the nodes that go with a node

-- by such a list they are those within it
pub goes_within : (ws : List ℕ) → WellFormed ws → (n : ℕ) (list : List ℕ) → Listed machines (held_within (tree_of ws) n) list
    → (k : ℕ) → goes_with (tree_of ws) (chosen list) n k ≡ within (tree_of ws) n k
goes_within ws w n list listed k = ⊎_elim unused (λ own. used own.0 own.1) (present ((tree_of ws).owner k))
  where
    unused : (tree_of ws).owner k ≡ none → goes_with (tree_of ws) (chosen list) n k ≡ within (tree_of ws) n k
    unused own =
        ap (λ (o : Option ℕ). eqb n k || option false (chosen list) o) own
        ∙ or-false (eqb n k)
        ∙ sym (within_unused (tree_of ws) n own)

    used : (m : ℕ) → (tree_of ws).owner k ≡ some m → goes_with (tree_of ws) (chosen list) n k ≡ within (tree_of ws) n k
    used m own =
        ap (λ (o : Option ℕ). eqb n k || option false (chosen list) o) own
        ∙ ap (λ (b : Bool). eqb n k || b) (listed.at m (owner_range (tree_of ws) w.sound k m own).1)
        ∙ go ((tree_of ws).holder m) refl
      where
        go : (o : Option ℕ) → (tree_of ws).holder m ≡ o → (eqb n k || option false (within (tree_of ws) n) o) ≡ within (tree_of ws) n k
        go none free = or-false (eqb n k) ∙ sym (within_top (tree_of ws) n own free)
        go (some h) held = sym (within_up w.sound n own held)
