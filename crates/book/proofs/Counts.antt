-- The transition that counts, from the word that `counting` gives: whether there is one, its target and its cost. Assumes nothing.
use mathlib.Core.Path.{◌≡◌, sym, ◌∙◌, ap}
use mathlib.Core.Logic.{⊎_elim}
use mathlib.Core.Bool.{true, false}
use mathlib.Core.Option.{none, some}
use Prim.Native.Nat.{ℕ, ◌/◌, ◌%◌, ◌<◌}
use native.Mathlib.Omega.{arith}
use Rattle.definitions.specs.Limits.{nodes, costs, blank}
use Rattle.definitions.specs.Tree.{Tree, Transition, Sound, on_hold}
use Rattle.definitions.specs.Step.{counting}
use Rattle.definitions.specs.Book.{transition_word}
use Rattle.definitions.proofs.Options.{equal_or_not}
use Rattle.definitions.proofs.Path.{counting_is, counting_some, counting_shut, counting_none}
use Rattle.definitions.proofs.Words.{present_transition, blank_transition, target_range, no_transition, some_transition}

-- where none counts the word is blank
pub counting_blank : (t : Tree) (n x : ℕ) {w : ℕ} → w ≡ transition_word (counting t n x) → counting t n x ≡ none → w ≡ blank
unfolding transition_word
counting_blank t n x says free = rw free at says

-- the word of the transition that counts, from the word w of the transition and the hold of its target: of a word that is blank the target is
-- some node, and its hold makes no difference
module _ {t : Tree} (s : Sound t) (n x : ℕ) {w : ℕ} (says : w ≡ transition_word (t.transition n x)) where
  -- a transition's target is read off its word
  target_read : (w ≡ blank → ⊥) → on_hold t (w / costs) ≡ on_hold t (w / costs % nodes)
  target_read there =
      let same : w / costs ≡ w / costs % nodes = omega (arith, (target_range t s n x _ (some_transition t s n x says there)).1) in
      ap (on_hold t) same

  pub shut_word : on_hold t (w / costs % nodes) ≡ true → blank ≡ transition_word (counting t n x)
  unfolding transition_word
  shut_word shut =
      ⊎_elim (λ empty. rw (counting_none t n x (no_transition t s n x says empty)))
      (λ there. rw (counting_shut t n x _ (some_transition t s n x says there) (target_read there ∙ shut)))
      (equal_or_not w blank)

  pub open_word : on_hold t (w / costs % nodes) ≡ false → w ≡ transition_word (counting t n x)
  open_word free =
      ⊎_elim
      (λ empty.
      let none_there = no_transition t s n x says empty in
      says ∙ ap transition_word (none_there ∙ sym (counting_none t n x none_there)))
      (λ there.
      let has = some_transition t s n x says there in
      says ∙ ap transition_word (has ∙ sym (counting_some t n x _ has (target_read there ∙ free))))
      (equal_or_not w blank)

module _ {t : Tree} (s : Sound t) (n x : ℕ) where
  -- target and cost are in range
  counting_fits : (a : Transition) → counting t n x ≡ some a → (a.target < nodes) × (a.cost < costs)
  counting_fits a has =
      let is = counting_is t n x a has in
      ((target_range t s n x a is).1, (s.transition_range n x a is).1)

  module _ {w : ℕ} (says : w ≡ transition_word (counting t n x)) where
    -- the blank word says that none counts
    pub no_counting : w ≡ blank → counting t n x ≡ none
    no_counting = blank_transition (counting t n x) counting_fits says

    module _ (there : w ≡ blank → ⊥) where
      -- any other says the transition
      pub some_counting : counting t n x ≡ some (record { target = w / costs; cost = w % costs })
      some_counting = present_transition (counting t n x) (λ a has. (counting_fits a has).1) says there

      -- whose target is a node
      pub counting_node : w / costs < nodes
      counting_node = (counting_fits _ some_counting).0

      -- of the same machine
      pub counting_sibling : t.owner (w / costs) ≡ t.owner n
      counting_sibling = let (m, own, own_target) = s.transition_owned n x _ (counting_is t n x _ some_counting) in own_target ∙ sym own
