-- What the words of a list tell of the tree that they hold, whatever they are. Assumes nothing.
use mathlib.Core.Path.{◌≡◌, refl, sym, ap, ◌∙◌}
use mathlib.Core.Option.{Option, none, some}
use mathlib.Core.List.{List}
use Prim.Native.Nat.{ℕ, ◌+◌, ◌*◌, ◌/◌, ◌%◌, ◌≤◌, ◌<◌}
use native.Mathlib.Omega.{arith}
use Rattle.definitions.specs.Basics.{◌>>=◌}
use borrow.Author.Tests.{le-ltb}
use Rattle.definitions.specs.Limits.{machines, nodes, commands, costs, blank}
use Rattle.definitions.specs.Tree.{Tree, Transition, parent}
use Rattle.definitions.specs.Book.{word, transition_word, transition_of, under, machine_word, node_word, tree_of}
use Rattle.definitions.proofs.Options.{bind_some}
use Rattle.definitions.proofs.Words.{under_some}
use Rattle.book.proofs.Said.{Within, told, number_read, said_is, unsaid_is, outside}
use Rattle.wellformed.proofs.Fits.{Read}

-- a transition
transition_read : (w : ℕ) (a : Transition) → transition_of w ≡ some a → (a.cost < costs) × (transition_word (some a) ≡ blank → ⊥)
unfolding transition_of transition_word
transition_read w a e =
    let (same, other) = told w blank (record { target = w / costs; cost = w % costs }) e in
    let target : w / costs ≡ a.target = ap (λ (b : Transition). b.target) same in
    let cost : w % costs ≡ a.cost = ap (λ (b : Transition). b.cost) same in
    (omega arith, λ z. other (omega arith))

-- the tree of a list is read out of words
pub tree_of_read : (ws : List ℕ) → Read (tree_of ws)
unfolding tree_of
tree_of_read ws =
    record {
      owner = λ n m e. number_read nodes n (node_word ws n 0) e;
      below = λ n m e. number_read nodes n (node_word ws n 1) e;
      start = λ m s e. number_read machines m (machine_word ws m 1) e;
      holder = λ m n e. number_read machines m (machine_word ws m 0) e;
      transition =
          λ n x a e.
          let (hn, f) = under_some nodes n (under commands x (transition_of (node_word ws n (2 + x)))) e in
          let (hx, g) = under_some commands x (transition_of (node_word ws n (2 + x))) f in
          let (cost, other) = transition_read (node_word ws n (2 + x)) a g in
          (hn, hx, cost, other);
      hold = λ n past. rw (le-ltb n nodes past);
      leave = λ m past. rw (le-ltb m machines past);
    }

-- ---- the machine just above a machine

-- its word is that of the holder's owner
pub parent_word : {t : Tree} → Read t → (m : ℕ) {h p : ℕ} → h ≡ word (t.holder m) → p ≡ word (t.owner h) → p ≡ word (parent t m)
unfolding parent word
parent_word {t} r m {h} {p} eh ep = go (t.holder m) refl
  where
    go : (o : Option ℕ) → t.holder m ≡ o → p ≡ word (o >>= t.owner)
    go none e =
        let far : nodes ≤ h = omega (arith, unsaid_is eh e) in
        ep ∙ sym (outside (t.owner h) (r.owner h) far)
    go (some k) e = ep ∙ ap (λ (n : ℕ). word (t.owner n)) (said_is (t.holder m) eh e)

-- it is read out of words too
pub parent_read : {t : Tree} → Read t → (m : ℕ) → Within machines m (parent t m)
unfolding parent
parent_read {t} r m p e =
    let (h, eh, eo) = bind_some (t.holder m) t.owner e in
    ((r.holder m h eh).0, (r.owner h p eo).1)

-- ---- the word of a transition

-- a word that is not blank says a transition
pub transition_said : {w : ℕ} (o : Option Transition) → w ≡ transition_word o → (w ≡ blank → ⊥) → (a : Transition) × (o ≡ some a)
unfolding transition_word
transition_said none e other = absurd (other e)
transition_said (some a) e other = (a, refl)

-- whose target is the upper half of the word
pub transition_target : {t : Tree} → Read t → (n x : ℕ) (a : Transition) {w : ℕ} → w ≡ transition_word (t.transition n x)
    → t.transition n x ≡ some a → (w / costs ≡ a.target) × (w ≡ blank → ⊥)
unfolding transition_word
transition_target {t} r n x a {w} e f =
    let (hn, hx, cost, other) = r.transition n x a f in
    let same : w ≡ a.target * costs + a.cost = e ∙ ap transition_word f in
    (omega arith, λ z. other (sym same ∙ z))
