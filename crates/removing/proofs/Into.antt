-- The transitions of a node into another are cleared, one after the other. Assumes nothing.
use mathlib.Core.Path.{◌≡◌, refl, ap, sym, ◌∙◌, fun_ext}
use mathlib.Core.Logic.{⊎_elim}
use mathlib.Core.Bool.{Bool, true, false, cond}
use mathlib.Core.Option.{Option, none, some}
use mathlib.Core.List.{List}
use Prim.Native.Nat.{ℕ, ◌+◌, ◌/◌, ◌%◌, ◌≤◌, ◌<◌}
use native.Mathlib.Omega.{arith}
use lib.Dec.{eqb, ltb}
use lib.ListN.{length}
use borrow.Author.Tests.{ltb-true, ltb-false, lt-ltb, le-ltb, eq-eqb, ne_eqb}
use Rattle.definitions.specs.Basics.{put}
use Rattle.definitions.specs.Limits.{nodes, commands, costs, book_length, blank}
use Rattle.definitions.specs.Tree.{Tree, Transition, with_transitions}
use Rattle.definitions.specs.Book.{transition_word, transition_of, under, node_word, tree_of}
use Rattle.definitions.specs.Edit.{with_transition}
use Rattle.definitions.proofs.Options.{equal_or_not, none_some, some_same}
use Rattle.book.specs.Fields.{Holds}
use Rattle.book.proofs.Places.{grid_past}
use Rattle.book.proofs.Stores.{holds_then}
use Rattle.removing.specs.Within.{not_into, without_into_at}

-- ---- a function changed from the front

-- g below i, and f from there on
abbrev pub grown : {A : Type 0} → (ℕ → A) → (ℕ → A) → ℕ → ℕ → A
grown f g i k = cond (ltb k i) (g k) (f k)

-- at i it is f still
pub grown_at : {A : Type 0} (f g : ℕ → A) (i : ℕ) → grown f g i i ≡ f i
grown_at f g i = rw (le-ltb i i (omega arith))

pub grown_more : {A : Type 0} (f g : ℕ → A) (i : ℕ) → put (grown f g i) i (g i) ≡ grown f g (i + 1)
grown_more {A} f g i =
    fun_ext λ k.
    ⊎_elim (λ e. rw (eq-eqb k i e, lt-ltb k (i + 1) (omega arith)) (ap g (sym e)))
    (λ ne. rw (ne_eqb k i ne) (ap (λ (b : Bool). cond b (g k) (f k)) (same k ne (ltb k i) refl)))
    (equal_or_not k i)
  where
    same : (k : ℕ) → (k ≡ i → ⊥) → (b : Bool) → ltb k i ≡ b → b ≡ ltb k (i + 1)
    same k ne true e = sym (lt-ltb k (i + 1) (omega (arith, ltb-true k i e)))
    same k ne false e = sym (le-ltb k (i + 1) (omega (arith, ltb-false k i e)))

-- where they are the same from i on, it is g
pub grown_all : {A : Type 0} (f g : ℕ → A) (i : ℕ) → ((k : ℕ) → i ≤ k → f k ≡ g k) → grown f g i ≡ g
grown_all {A} f g i past = fun_ext λ k. go k (ltb k i) refl
  where
    go : (k : ℕ) (b : Bool) → ltb k i ≡ b → cond b (g k) (f k) ≡ g k
    go k true e = refl
    go k false e = past k (ltb-false k i e)

-- a function put to its own value, and put twice
pub put_own : {A : Type 0} (f : ℕ → A) (i : ℕ) → put f i (f i) ≡ f
put_own f i = fun_ext λ k. ⊎_elim (λ e. rw (eq-eqb k i e) (ap f (sym e))) (λ ne. rw (ne_eqb k i ne)) (equal_or_not k i)

put_twice : {A : Type 0} (f : ℕ → A) (i : ℕ) (v w : A) → put (put f i v) i w ≡ put f i w
put_twice {A} f i v w = fun_ext λ k. go (eqb k i) (f k)
  where
    go : (b : Bool) (a : A) → cond b w (cond b v a) ≡ cond b w a
    go true a = refl
    go false a = refl

-- ---- one transition

-- the cost of a book's transition is in range, whatever the words are
cost_small : (ws : List ℕ) (k x : ℕ) (a : Transition) → (tree_of ws).transition k x ≡ some a → a.cost < costs
unfolding tree_of under transition_of
cost_small ws k x a e = go (node_word ws k (2 + x)) (ltb k nodes) (ltb x commands) (eqb (node_word ws k (2 + x)) blank) e
  where
    go : (w : ℕ) (b c d : Bool) → cond b (cond c (cond d none (some (record { target = w / costs; cost = w % costs }))) none) none ≡ some a
        → a.cost < costs
    go w true true true e = absurd (none_some refl e)
    go w true true false e =
        let same : w % costs ≡ a.cost = ap (λ (v : Transition). v.cost) (some_same refl e) in
        omega arith
    go w true false d e = absurd (none_some refl e)
    go w false c d e = absurd (none_some refl e)

module _ (ws : List ℕ) (k x n : ℕ) (hn : n < nodes) {w : ℕ} (told : w ≡ transition_word ((tree_of ws).transition k x)) where
  into_split : (o : Option Transition) → (tree_of ws).transition k x ≡ o → w ≡ transition_word o
      → ((w / 65536 ≡ n → ⊥) → not_into n o ≡ o) × (w / 65536 ≡ n → not_into n o ≡ none)
  unfolding transition_word
  into_split none at e = ((λ ne. refl), λ hit. refl)
  into_split (some a) at e =
      let small : a.cost < costs = cost_small ws k x a at in
      let target : w / 65536 ≡ a.target = omega arith in
      ((λ ne. rw (ne_eqb a.target n (λ same. ne (target ∙ same)))), λ hit. rw (eq-eqb a.target n (sym target ∙ hit)))

  -- it leads elsewhere: it stays
  pub into_stays : length ws ≡ book_length → (w / 65536 ≡ n → ⊥)
      → Holds ws (with_transition (tree_of ws) k x (not_into n ((tree_of ws).transition k x)))
  unfolding with_transition
  into_stays l ne =
      let kept = (into_split ((tree_of ws).transition k x) refl told).0 ne in
      let row : put ((tree_of ws).transition k) x (not_into n ((tree_of ws).transition k x)) ≡ (tree_of ws).transition k =
      ap (put ((tree_of ws).transition k) x) kept ∙ put_own ((tree_of ws).transition k) x in
      record {
        length = l;
        tree = ap (with_transitions (tree_of ws)) (sym (ap (put (tree_of ws).transition k) row ∙ put_own (tree_of ws).transition k));
      }

  -- it leads to n: it goes
  pub into_goes : {after : List ℕ} → w / 65536 ≡ n → Holds after (with_transition (tree_of ws) k x none)
      → Holds after (with_transition (tree_of ws) k x (not_into n ((tree_of ws).transition k x)))
  into_goes hit held =
      record {
        length = held.length;
        tree = held.tree ∙ ap (with_transition (tree_of ws) k x) (sym ((into_split ((tree_of ws).transition k x) refl told).1 hit));
      }

-- a book has no transition past its last command
past_commands : (ws : List ℕ) (k x : ℕ) → commands ≤ x → (tree_of ws).transition k x ≡ none
unfolding tree_of
past_commands ws k x past = grid_past nodes commands k x (transition_of (node_word ws k (2 + x))) past

-- ---- the transitions of one node

-- those of node k below command i are cleared
abbrev pub from_to : List ℕ → ℕ → ℕ → ℕ → Tree
from_to ws n k i =
    with_transitions (tree_of ws)
    (put (tree_of ws).transition k (grown ((tree_of ws).transition k) (λ x. not_into n ((tree_of ws).transition k x)) i))

module _ (ws : List ℕ) (n k : ℕ) where
  from_step : (grid : ℕ → ℕ → Option Transition) (i : ℕ) (row : ℕ → Option Transition) → row i ≡ grid k i
      → put (put grid k row) k (put (put grid k row k) i (not_into n (put grid k row k i))) ≡ put grid k (put row i (not_into n (grid k i)))
  from_step grid i row e =
      put_twice grid k row _
      ∙ ap (put grid k) (rw (eq-eqb k k refl) (ap (λ o. put row i (not_into n o)) e))

  pub from_more : (i : ℕ) {now after : List ℕ} → Holds now (from_to ws n k i)
      → Holds after (with_transition (tree_of now) k i (not_into n ((tree_of now).transition k i))) → Holds after (from_to ws n k (i + 1))
  unfolding with_transition
  from_more i first second =
      let grid : ℕ → ℕ → Option Transition = (tree_of ws).transition in
      let goal : ℕ → Option Transition = λ x. not_into n (grid k x) in
      let then = holds_then (λ u. with_transition u k i (not_into n (u.transition k i))) first second in
      record {
        length = then.length;
        tree =
            then.tree
            ∙ ap (with_transitions (tree_of ws))
            (from_step grid i (grown (grid k) goal i) (grown_at (grid k) goal i) ∙ ap (put grid k) (grown_more (grid k) goal i));
      }

  pub from_all : (i : ℕ) {now : List ℕ} → i ≡ commands → Holds now (from_to ws n k i) → Holds now (without_into_at (tree_of ws) n k)
  from_all i e held =
      record {
        length = held.length;
        tree =
            held.tree
            ∙ ap (λ row. with_transitions (tree_of ws) (put (tree_of ws).transition k row))
            (grown_all ((tree_of ws).transition k) (λ x. not_into n ((tree_of ws).transition k x)) i
            (λ x past. let free = past_commands ws k x (omega arith) in free ∙ sym (ap (not_into n) free)));
      }
