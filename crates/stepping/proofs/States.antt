-- Whether a node is a state, from its words; two states judged: what the number tells, and how the refusals after it go on. Assumes nothing.
use mathlib.Core.Path.{◌≡◌, refl}
use mathlib.Core.Logic.{◌⊎◌, inl, inr, ⊎_elim}
use mathlib.Core.Bool.{false}
use mathlib.Core.Option.{none}
use mathlib.Core.List.{[], List}
use Prim.Native.Nat.{ℕ, ◌<◌}
use lib.Dec.{eqb}
use borrow.Author.Tests.{eq-eqb, ne_eqb}
use Rattle.definitions.specs.Limits.{nodes, absent}
use Rattle.definitions.specs.Tree.{Tree, UsedNode, is_state, Sound}
use Rattle.definitions.specs.Book.{word, tree_of, WellFormed}
use Rattle.definitions.specs.Answer.{InOrder}
use Rattle.definitions.specs.Answer as asked
use Rattle.definitions.specs.Calls.{state_refusals}
use Rattle.definitions.proofs.Options.{equal_or_not}
use Rattle.definitions.proofs.Words.{present_word, no_owner, no_below}
use Rattle.std.proofs.Common.{Result, Ok, Err}
use Rattle.refusals.specs.Meaning.{Judged}
use Rattle.refusals.specs.declared.Refusal.{Refusal}
use Rattle.refusals.proofs.Judging.{judged_ok}

-- an unused node is no state; a node in use is one where it holds no machine
module _ {t : Tree} (s : Sound t) (n : ℕ) {o : ℕ} (own : o ≡ word (t.owner n)) where
  pub unused_state : o ≡ absent → false ≡ is_state t n
  unused_state at = rw (no_owner t s n own at)

  pub used_state : (o ≡ absent → ⊥) → {b : ℕ} → b ≡ word (t.below n) → eqb b absent ≡ is_state t n
  used_state used {b} bel =
      ⊎_elim (λ (at : b ≡ absent). rw (eq-eqb b absent at, present_word (t.owner n) own used, no_below t s n bel at))
      (λ (held : b ≡ absent → ⊥). rw (ne_eqb b absent held, present_word (t.owner n) own used, present_word (t.below n) bel held)) (equal_or_not b absent)

-- ---- what is judged, from what the words say

module _ (ws : List ℕ) (w : WellFormed ws) (a b : ℕ) (range : (a < nodes) × (b < nodes)) where
  pub judged_unused : ((tree_of ws).owner a ≡ none) ⊎ ((tree_of ws).owner b ≡ none)
      → Judged {A = Unit} (state_refusals (tree_of ws) a b []) (Err Refusal.NotInUse)
  judged_unused unused = inr (range, inl (unused, refl))

  module _ {p q : ℕ} (own_a : p ≡ word ((tree_of ws).owner a)) (p_present : p ≡ absent → ⊥) (own_b : q ≡ word ((tree_of ws).owner b)) (q_present : q ≡ absent → ⊥) where
    both_used : UsedNode (tree_of ws) a × UsedNode (tree_of ws) b
    both_used = ((p, present_word ((tree_of ws).owner a) own_a p_present), (q, present_word ((tree_of ws).owner b) own_b q_present))

    pub judged_refined : (((tree_of ws).below a ≡ none) × ((tree_of ws).below b ≡ none) → ⊥)
        → Judged {A = Unit} (state_refusals (tree_of ws) a b []) (Err Refusal.NotPlain)
    judged_refined refined = inr (range, inr (both_used, inl (refined, refl)))

    pub judged_states : ((tree_of ws).below a ≡ none) × ((tree_of ws).below b ≡ none) → Judged (state_refusals (tree_of ws) a b []) (Ok (tt {0}))
    judged_states plain = inr (range, inr (both_used, inr (plain, refl)))
