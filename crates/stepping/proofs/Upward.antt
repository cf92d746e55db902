-- One step up from a node in use, from what the words say: its machine, and the node that holds this. Assumes nothing.
use mathlib.Core.Path.{◌≡◌}
use mathlib.Core.Option.{none, some}
use mathlib.Core.List.{List}
use Prim.Native.Nat.{ℕ, ◌<◌}
use native.Mathlib.Omega.{arith}
use Rattle.definitions.specs.Limits.{absent}
use Rattle.definitions.specs.Tree.{UsedNode, level}
use Rattle.definitions.specs.Book.{word, tree_of, WellFormed}
use Rattle.definitions.proofs.Path.{level_on}
use Rattle.definitions.proofs.Words.{present_word, no_holder}
use Rattle.stepping.proofs.Laws.{owner_told}

module _ (book : List ℕ) (w : WellFormed book) (n : ℕ) (used : UsedNode (tree_of book) n) {o : ℕ} (owner : o ≡ word ((tree_of book).owner n)) where
  pub own : (tree_of book).owner n ≡ some o
  own = (owner_told book w n used owner).0

  module _ {h : ℕ} (holder : h ≡ word ((tree_of book).holder o)) where
    -- no node holds the machine
    pub top : h ≡ absent → (tree_of book).holder o ≡ none
    top free = no_holder (tree_of book) w.sound o holder free

    module _ (there : h ≡ absent → ⊥) where
      -- node h holds it, which is in use and a level higher
      pub held : (tree_of book).holder o ≡ some h
      held = present_word ((tree_of book).holder o) holder there

      pub used_holder : UsedNode (tree_of book) h
      used_holder = w.sound.holder_used o h held

      pub higher : level (tree_of book) h < level (tree_of book) n
      higher = omega (arith, level_on w.sound own held)
