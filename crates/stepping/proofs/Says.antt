-- Step's answer, refusal by refusal: what each way out of the call has to show. Assumes nothing.
use mathlib.Core.Path.{◌≡◌, refl}
use mathlib.Core.Logic.{inl, inr}
use mathlib.Core.List.{List}
use Prim.Native.Nat.{ℕ, ◌<◌}
use lib.ListN.{length}
use Rattle.definitions.specs.Limits.{nodes, commands, book_length, absent}
use Rattle.definitions.specs.Tree.{UsedNode}
use Rattle.definitions.specs.Book.{word, tree_of, WellFormed}
use Rattle.definitions.specs.Answer.{refuses}
use Rattle.definitions.specs.Calls.{StepSays}
use Rattle.definitions.proofs.Options.{none_some}
use Rattle.definitions.proofs.Words.{present_word, no_owner}

module _ (book : List ℕ) (s x : ℕ) where
  module _ (w : WellFormed book) where
    module _ (range : (s < nodes) × (x < commands)) where
      pub says_unused : {o : ℕ} → o ≡ word ((tree_of book).owner s) → o ≡ absent → StepSays book s x (refuses 7)
      says_unused e at = inr (w.length, inr (w, inr (range, inl (no_owner (tree_of book) w.sound s e at, refl))))

      module _ {o : ℕ} (e : o ≡ word ((tree_of book).owner s)) (present : o ≡ absent → ⊥) where
        -- the node is in use
        pub is_used : UsedNode (tree_of book) s
        is_used = (o, present_word ((tree_of book).owner s) e present)

        pub says_refined : {b : ℕ} → b ≡ word ((tree_of book).below s) → (b ≡ absent → ⊥) → StepSays book s x (refuses 14)
        says_refined {b} f held =
            inr (
              w.length,
              inr (w, inr (range, inr (is_used, inl (λ plain. none_some plain (present_word ((tree_of book).below s) f held), refl)))),
            )
