-- The one look at the nodes: below the node in hand each record and row is as remove leaves it, from there on as it was. Assumes nothing.
use mathlib.Core.Path.{◌≡◌, refl, ap, sym, ◌∙◌, fun_ext}
use mathlib.Core.Logic.{⊎_elim}
use mathlib.Core.Bool.{Bool, true, false, ◌||◌, cond}
use mathlib.Core.Option.{Option, none, some}
use mathlib.Core.List.{List}
use Prim.Native.Nat.{ℕ, ◌+◌, ◌≤◌, ◌<◌}
use native.Mathlib.Omega.{arith}
use lib.Dec.{eqb}
use lib.ListN.{length}
use borrow.Author.Tests.{le-ltb, ne_eqb}
use Rattle.definitions.specs.Basics.{option, unless, put}
use Rattle.definitions.specs.Limits.{machines, nodes, commands, sheet_length, absent}
use Rattle.definitions.specs.Tree.{Tree, Transition, with_nodes, with_transitions, UsedNode, within}
use Rattle.definitions.specs.Book.{word, number, transition_of, under, node_word, tree_of, WellFormed}
use Rattle.definitions.specs.Sheet.{Rows, cost_of, node_row_word, rows_of}
use Rattle.definitions.specs.Edit.{held_within}
use Rattle.definitions.proofs.Options.{some_same, equal_or_not}
use Rattle.definitions.proofs.Words.{same_rows, present_word, absent_word, owner_range}
use Rattle.book.specs.Fields.{Holds}
use Rattle.stepping.proofs.Laws.{owner_told}
use Rattle.book.specs.Chosen.{chosen}
use Rattle.sheet.specs.Fields.{with_blank_nodes}
use Rattle.marking.specs.Stale.{owned_by}
use Rattle.clearing.specs.Gone.{Sized, Left}
use Rattle.clearing.proofs.Laws.{left_same, left_then}
use Rattle.removing.specs.Within.{Listed, not_into, without_into_at, without_into, goes_with, cut, with_node_of, with_row_of, OwnerInRange, Linked}
use Rattle.removing.specs.Within.{RemovedAt, NodesRemoved}
use Rattle.removing.proofs.Lists.{goes_within}
use Rattle.removing.proofs.Into.{grown, grown_at, grown_more, grown_all, put_own}

-- ---- whether a node goes, from what the words say

module _ (ws list : List ℕ) (n k : ℕ) where
  module _ (range : OwnerInRange (tree_of ws) k) (other : n ≡ k → ⊥) {o : ℕ} (told : o ≡ word ((tree_of ws).owner k)) where
    by_owner : {v : Option ℕ} → (tree_of ws).owner k ≡ v → option false (chosen list) v ≡ goes_with (tree_of ws) (chosen list) n k
    by_owner own =
        sym
        (ap (λ (b : Bool). b || owned_by (tree_of ws) (chosen list) k) (ne_eqb n k other)
        ∙ ap (option false (chosen list)) own)

    -- a node that is not in use
    pub goes_unused : o ≡ absent → false ≡ goes_with (tree_of ws) (chosen list) n k
    goes_unused free = by_owner (absent_word ((tree_of ws).owner k) (λ m e. omega (arith, range m e)) told free)

    module _ (used : o ≡ absent → ⊥) where
      own : (tree_of ws).owner k ≡ some o
      own = present_word ((tree_of ws).owner k) told used

      -- a node in use
      pub machine_range : o < machines
      machine_range = range o own

      pub goes_owned : chosen list o ≡ goes_with (tree_of ws) (chosen list) n k
      goes_owned = by_owner own

-- ---- one node

-- two functions that are the same are so at each number
at : {A : Type 0} {f g : ℕ → A} → f ≡ g → (k : ℕ) → f k ≡ g k
at e k = ap (λ f. f k) e

-- the record and the row of node k are left by what the test says of it
record_by : (t : Tree) (gone : ℕ → Bool) (n k : ℕ) {b : Bool} → gone k ≡ b
    → with_node_of t (cut t (λ j. b) n) k ≡ with_node_of t (cut t gone n) k
record_by t gone n k says = ap (λ (c : Bool). with_node_of t (cut t (λ j. c) n) k) (sym says)

row_by : (r : Rows) (gone : ℕ → Bool) (k : ℕ) {b : Bool} → gone k ≡ b
    → with_row_of r (with_blank_nodes r (λ j. b)) k ≡ with_row_of r (with_blank_nodes r gone) k
row_by r gone k says = ap (λ (c : Bool). with_row_of r (with_blank_nodes r (λ j. c)) k) (sym says)

module _ (book : List ℕ) (gone : ℕ → Bool) (n k : ℕ) where
  -- it stays, and its transitions into n are cleared
  pub node_cleared : (sheet : List ℕ) {book' : List ℕ} → length sheet ≡ sheet_length → gone k ≡ false
      → Holds book' (without_into_at (tree_of book) n k) → RemovedAt book sheet book' sheet gone n k
  node_cleared sheet l off cleared =
      left_same (record { book = cleared; sheet = record { length = l; marks = λ marks. marks; rows = refl } })
      (record_kept (tree_of book) ∙ record_by (tree_of book) gone n k off)
      (row_kept (rows_of sheet) ∙ row_by (rows_of sheet) gone k off)
    where
      record_kept : (t : Tree) → without_into_at t n k ≡ with_node_of t (without_into t n) k
      record_kept t = sym (λ i. with_nodes t (put_own t.owner k i) (put_own t.below k i) (without_into_at t n k).transition (put_own t.hold k i))

      row_kept : (r : Rows) → r ≡ with_row_of r r k
      row_kept r =
          same_rows _ _ (λ m. refl) (λ m x. refl) (λ m x. refl) (at (sym (put_own r.cost k))) (at (sym (put_own r.before k)))
          (at (sym (put_own r.by k)))

  -- it stays and has none of them, since its machine is not p
  pub node_stays : (sheet : List ℕ) → Sized book sheet → gone k ≡ false → {p : ℕ} → Linked (tree_of book) p n k → {o : ℕ}
      → o ≡ word ((tree_of book).owner k)
      → (o ≡ p → ⊥)
      → RemovedAt book sheet book sheet gone n k
  unfolding word
  node_stays sheet sized off linked told other =
      node_cleared sheet sized.sheet off
      (record {
        length = sized.book;
        tree =
            sym
            (ap (with_transitions (tree_of book))
            (ap (put (tree_of book).transition k) (fun_ext λ x. no_into x ((tree_of book).transition k x) refl)
            ∙ put_own (tree_of book).transition k));
      })
    where
      no_into : (x : ℕ) (a : Option Transition) → (tree_of book).transition k x ≡ a → not_into n a ≡ a
      no_into x none e = refl
      no_into x (some a) e =
          ⊎_elim (λ same. absurd (other (told ∙ ap word (linked.into x a e same)))) (λ ne. rw (ne_eqb a.target n ne))
          (equal_or_not a.target n)

-- ---- the nodes one after the other

-- the tree with the records that u has of the nodes below i, and rows with the rows that q has of them
abbrev pub tree_to : Tree → Tree → ℕ → Tree
tree_to t u i =
    with_nodes t (grown t.owner u.owner i) (grown t.below u.below i) (grown t.transition u.transition i)
    (grown t.hold u.hold i)

abbrev pub rows_to : Rows → Rows → ℕ → Rows
rows_to r q i =
    record {
      stale = r.stale;
      exit = r.exit;
      last = r.last;
      cost = grown r.cost q.cost i;
      before = grown r.before q.before i;
      by = grown r.by q.by i;
    }

-- one node more, whose record, or row, is the one that is wanted
grown_on : {A : Type 0} (f g : ℕ → A) (i : ℕ) {v : A} → v ≡ g i → put (grown f g i) i v ≡ grown f g (i + 1)
grown_on f g i e = ap (put (grown f g i) i) e ∙ grown_more f g i

tree_more : (t u v : Tree) (i : ℕ) → v.owner i ≡ u.owner i → v.below i ≡ u.below i → v.transition i ≡ u.transition i
    → v.hold i ≡ u.hold i → with_node_of (tree_to t u i) v i ≡ tree_to t u (i + 1)
tree_more t u v i owner below transition hold =
    λ j.
    with_nodes t (grown_on t.owner u.owner i owner j) (grown_on t.below u.below i below j)
    (grown_on t.transition u.transition i transition j) (grown_on t.hold u.hold i hold j)

rows_more : (r q p : Rows) (i : ℕ) → p.cost i ≡ q.cost i → p.before i ≡ q.before i → p.by i ≡ q.by i
    → with_row_of (rows_to r q i) p i ≡ rows_to r q (i + 1)
rows_more r q p i cost before by =
    same_rows _ _ (λ m. refl) (λ m x. refl) (λ m x. refl) (at (grown_on r.cost q.cost i cost))
    (at (grown_on r.before q.before i before)) (at (grown_on r.by q.by i by))

-- two tests agree on node i: the nodes before it were cut by the one, and it is cut by the other
module _ (gone test : ℕ → Bool) (n i : ℕ) (agree : gone i ≡ test i) where
  same : {A : Type 0} {v : Option A} (w : Option A) → v ≡ w → unless (gone i) v ≡ unless (test i) w
  same w e = ap (λ o. unless (gone i) o) e ∙ ap (λ (b : Bool). unless b w) agree

  cut_more : (t : Tree) → with_node_of (tree_to t (cut t test n) i) (cut (tree_to t (cut t test n) i) gone n) i ≡ tree_to t (cut t test n) (i + 1)
  cut_more t =
      tree_more t (cut t test n) (cut (tree_to t (cut t test n) i) gone n) i
      (same (t.owner i) (grown_at t.owner (cut t test n).owner i))
      (same (t.below i) (grown_at t.below (cut t test n).below i))
      (fun_ext λ x.
      same (not_into n (t.transition i x))
      (ap (λ (f : ℕ → Option Transition). not_into n (f x)) (grown_at t.transition (cut t test n).transition i)))
      (ap (cond (gone i) 0) (grown_at t.hold (cut t test n).hold i) ∙ ap (λ (b : Bool). cond b 0 (t.hold i)) agree)

  blank_more : (r : Rows)
      → with_row_of (rows_to r (with_blank_nodes r test) i) (with_blank_nodes (rows_to r (with_blank_nodes r test) i) gone) i
      ≡ rows_to r (with_blank_nodes r test) (i + 1)
  blank_more r =
      rows_more r (with_blank_nodes r test) (with_blank_nodes (rows_to r (with_blank_nodes r test) i) gone) i
      (same (r.cost i) (grown_at r.cost (with_blank_nodes r test).cost i))
      (same (r.before i) (grown_at r.before (with_blank_nodes r test).before i))
      (same (r.by i) (grown_at r.by (with_blank_nodes r test).by i))

-- after the last: a book and a sheet say nothing of nodes past their limit
past_none : {A : Type 0} (k : ℕ) (o : Option A) → nodes ≤ k → under nodes k o ≡ none
unfolding under
past_none k o past = rw (le-ltb k nodes past)

stays_none : {A : Type 0} (b : Bool) {o v : Option A} → o ≡ none → v ≡ none → o ≡ unless b v
stays_none true e f = e
stays_none false e f = e ∙ sym f

module _ (ws : List ℕ) (test : ℕ → Bool) where
  cut_all : (n : ℕ) → tree_to (tree_of ws) (cut (tree_of ws) test n) nodes ≡ cut (tree_of ws) test n
  unfolding tree_of
  cut_all n =
      let owner = grown_all (tree_of ws).owner (cut (tree_of ws) test n).owner nodes
      (λ k past. let free = past_none k (number (node_word ws k 0)) past in stays_none (test k) free free) in
      let below = grown_all (tree_of ws).below (cut (tree_of ws) test n).below nodes
      (λ k past. let free = past_none k (number (node_word ws k 1)) past in stays_none (test k) free free) in
      let transition = grown_all (tree_of ws).transition (cut (tree_of ws) test n).transition nodes
      (λ k past.
      fun_ext λ x.
      let free = past_none k (under commands x (transition_of (node_word ws k (2 + x)))) past in
      stays_none (test k) free (ap (not_into n) free)) in
      let hold = grown_all (tree_of ws).hold (cut (tree_of ws) test n).hold nodes (λ k past. rw (le-ltb k nodes past) (zeros (test k))) in
      λ i. with_nodes (tree_of ws) (owner i) (below i) (transition i) (hold i)
    where
      zeros : (b : Bool) → ◌≡◌ {A = ℕ} 0 (cond b 0 0)
      zeros true = refl
      zeros false = refl

  blank_all : rows_to (rows_of ws) (with_blank_nodes (rows_of ws) test) nodes ≡ with_blank_nodes (rows_of ws) test
  unfolding rows_of
  blank_all =
      same_rows _ _ (λ m. refl) (λ m x. refl) (λ m x. refl)
      (at
      (grown_all (rows_of ws).cost (with_blank_nodes (rows_of ws) test).cost nodes
      (λ k past. let free = past_none k (cost_of (node_row_word ws k 0)) past in stays_none (test k) free free)))
      (at
      (grown_all (rows_of ws).before (with_blank_nodes (rows_of ws) test).before nodes
      (λ k past. let free = past_none k (number (node_row_word ws k 1)) past in stays_none (test k) free free)))
      (at
      (grown_all (rows_of ws).by (with_blank_nodes (rows_of ws) test).by nodes
      (λ k past. let free = past_none k (number (node_row_word ws k 2)) past in stays_none (test k) free free)))

-- ---- the whole pass

-- node n, the nodes below it and the transitions into it are removed, of the nodes below i
abbrev pub Passed : List ℕ → List ℕ → ℕ → ℕ → List ℕ → List ℕ → Type 0
Passed b s n i b' s' =
    Left s b' s' (tree_to (tree_of b) (cut (tree_of b) (within (tree_of b) n) n) i)
    (rows_to (rows_of s) (with_blank_nodes (rows_of s) (within (tree_of b) n)) i)

module _ (b : List ℕ) (w : WellFormed b) (s : List ℕ) (n : ℕ) where
  module _ (i : ℕ) {b₁ s₁ : List ℕ} (passed : Passed b s n i b₁ s₁) where
    -- what there was of the node in hand is there still
    owner_still : (tree_of b₁).owner i ≡ (tree_of b).owner i
    owner_still = ap (λ (t : Tree). t.owner i) passed.book.tree ∙ grown_at (tree_of b).owner (cut (tree_of b) (within (tree_of b) n) n).owner i

    transition_still : (x : ℕ) → (tree_of b₁).transition i x ≡ (tree_of b).transition i x
    transition_still x =
        ap (λ (t : Tree). t.transition i x) passed.book.tree
        ∙ at (grown_at (tree_of b).transition (cut (tree_of b) (within (tree_of b) n) n).transition i) x

    pub pass_linked : UsedNode (tree_of b) n → {p : ℕ} → p ≡ word ((tree_of b).owner n) → Linked (tree_of b₁) p n i
    pass_linked used {p} told =
        record {
          range = λ m own. (owner_range (tree_of b) w.sound i m (sym owner_still ∙ own)).1;
          into = λ x a e same.
              let (m, own, target) = w.sound.transition_owned i x a (sym (transition_still x) ∙ e) in
              let here : (tree_of b).owner n ≡ some m = ap (tree_of b).owner (sym same) ∙ target in
              owner_still ∙ own ∙ ap some (some_same here (owner_told b w n used told).0);
        }

    pub pass_more : (list : List ℕ) → Listed machines (held_within (tree_of b) n) list → {b₂ s₂ : List ℕ}
        → RemovedAt b₁ s₁ b₂ s₂ (goes_with (tree_of b₁) (chosen list) n) n i
        → Passed b s n (i + 1) b₂ s₂
    pass_more list listed removed =
        let gone : ℕ → Bool = goes_with (tree_of b₁) (chosen list) n in
        let agree : gone i ≡ within (tree_of b) n i =
        ap (λ (o : Option ℕ). eqb n i || option false (chosen list) o) owner_still ∙ goes_within b w n list listed i in
        left_same (left_then (λ t. with_node_of t (cut t gone n) i) (λ r. with_row_of r (with_blank_nodes r gone) i) passed removed)
        (cut_more gone (within (tree_of b) n) n i agree (tree_of b))
        (blank_more gone (within (tree_of b) n) n i agree (rows_of s))

  pub pass_all : (i : ℕ) → i ≡ nodes → {b' s' : List ℕ} → Passed b s n i b' s' → NodesRemoved b s b' s' n
  pass_all i e passed =
      left_same passed
      (ap (tree_to (tree_of b) (cut (tree_of b) (within (tree_of b) n) n)) e ∙ cut_all b (within (tree_of b) n) n)
      (ap (rows_to (rows_of s) (with_blank_nodes (rows_of s) (within (tree_of b) n))) e ∙ blank_all s (within (tree_of b) n))
