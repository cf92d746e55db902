-- Whether a node is within another, one node up at a time. Assumes nothing.
use mathlib.Core.Path.{◌≡◌, sym, ap, ◌∙◌}
use mathlib.Core.Bool.{true, false, or-false}
use mathlib.Core.Option.{none, some}
use mathlib.Core.List.{List}
use Prim.Native.Nat.{ℕ, ◌<◌}
use native.Mathlib.Omega.{arith}
use lib.Dec.{eqb}
use borrow.Author.Tests.{ne_eqb}
use Rattle.definitions.specs.Basics.{any_of}
use Rattle.definitions.specs.Limits.{machines, nodes, absent}
use Rattle.definitions.specs.Tree.{Tree, above, path_f, path, level, within}
use Rattle.definitions.specs.Book.{word, tree_of, WellFormed}
use Rattle.definitions.proofs.Path.{level_on}
use Rattle.definitions.proofs.Words.{present_word, no_owner, no_holder, owner_range, holder_range}
use Rattle.definitions.proofs.Commands.{within_self, within_top, within_up}

-- a node that is not in use is within itself alone
pub within_unused : (t : Tree) (n : ℕ) {d : ℕ} → t.owner d ≡ none → within t n d ≡ eqb n d
unfolding within path path_f above any_of
within_unused t n {d} own = rw own (or-false (eqb n d))

-- ---- the climb, from what the words say

-- the climb from d goes on from node k to node h, which is one level higher
pub record Up (t : Tree) (n d k h : ℕ) : Type 0 where
  pub range : h < nodes
  pub same : within t n d ≡ within t n h
  pub higher : level t h < level t k

module _ (ws : List ℕ) (w : WellFormed ws) (n d : ℕ) {k : ℕ} (same : within (tree_of ws) n d ≡ within (tree_of ws) n k) where
  -- the node itself is met
  pub met : k ≡ n → true ≡ within (tree_of ws) n d
  met e = sym (same ∙ ap (within (tree_of ws) n) e ∙ within_self (tree_of ws) n)

  module _ (other : k ≡ n → ⊥) {o : ℕ} (owner : o ≡ word ((tree_of ws).owner k)) where
    away : eqb n k ≡ false
    away = ne_eqb n k (λ e. other (sym e))

    -- a node that is not in use
    pub unused_told : o ≡ absent → false ≡ within (tree_of ws) n d
    unused_told none_owns = sym (same ∙ within_unused (tree_of ws) n (no_owner (tree_of ws) w.sound k owner none_owns) ∙ away)

    module _ (used : o ≡ absent → ⊥) where
      own : (tree_of ws).owner k ≡ some o
      own = present_word ((tree_of ws).owner k) owner used

      pub owner_told : o < machines
      owner_told = (owner_range (tree_of ws) w.sound k o own).1

      module _ {h : ℕ} (holder : h ≡ word ((tree_of ws).holder o)) where
        -- a node of the root
        pub top_told : h ≡ absent → false ≡ within (tree_of ws) n d
        top_told free = sym (same ∙ within_top (tree_of ws) n own (no_holder (tree_of ws) w.sound o holder free) ∙ away)

        -- on from the node that holds its machine
        pub up_told : (h ≡ absent → ⊥) → Up (tree_of ws) n d k h
        up_told present =
            let held : (tree_of ws).holder o ≡ some h = present_word ((tree_of ws).holder o) holder present in
            record {
              range = (holder_range (tree_of ws) w.sound o h held).1;
              same = same ∙ within_up w.sound n own held ∙ rw away;
              higher = omega (arith, level_on w.sound own held);
            }
