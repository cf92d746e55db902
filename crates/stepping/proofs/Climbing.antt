-- The climb, one node at a time, as the loop goes. Assumes nothing.
use mathlib.Core.Path.{◌≡◌, ◌∙◌, ap}
use mathlib.Core.Option.{none, some}
use mathlib.Core.List.{List}
use Prim.Native.Nat.{ℕ, ◌+◌, ◌/◌, ◌%◌}
use Rattle.definitions.specs.Limits.{costs, absent, blank}
use Rattle.definitions.specs.Tree.{Tree, UsedNode, Sound}
use Rattle.definitions.specs.Step.{counting, found, passed, past, climb}
use Rattle.definitions.specs.Book.{word, transition_word, tree_of, WellFormed}
use Rattle.definitions.proofs.Path.{root_holder, climb_own, climb_top, climb_on}
use Rattle.definitions.proofs.Inside.{past_past}
use Rattle.definitions.proofs.Realize.{past_zero}
use Rattle.book.proofs.Counts.{no_counting, some_counting}
use Rattle.stepping.proofs.Laws.{top_root}
use Rattle.stepping.proofs.Upward.{own, top, held, used_holder}

module _ {t : Tree} (s : Sound t) {n m : ℕ} (x : ℕ) (own_n : t.owner n ≡ some m) (free : counting t n x ≡ none) where
  -- a node of the root without a transition: nothing is found
  pub climb_ends : t.holder m ≡ none → climb t t.root n x ≡ passed 0
  climb_ends top_m =
      let (f, used) = s.owner_used n m own_n in
      climb_top t t.root n x (own_n ∙ ap some (top_root s used top_m)) free

  -- another: on from the node that holds its machine, which is left
  pub climb_up : {h : ℕ} → t.holder m ≡ some h → climb t t.root n x ≡ past (t.leave m) (climb t t.root h x)
  climb_up hold = climb_on s t.root x own_n (λ same. root_holder s same hold) hold free

-- the climb for x from node s comes to node n, and leaving the machines on the way costs left
pub record ClimbedTo (t : Tree) (s x n left : ℕ) : Type 0 where
  pub used : UsedNode t n
  pub same : climb t t.root s x ≡ past left (climb t t.root n x)

-- it begins at s
pub climbed_first : {t : Tree} (s x : ℕ) → UsedNode t s → ClimbedTo t s x s 0
climbed_first {t} s x used = record { used = used; same = past_zero (climb t t.root s x) }

module _ (ws : List ℕ) (w : WellFormed ws) {s x n left a : ℕ} (to : ClimbedTo (tree_of ws) s x n left)
    (says : a ≡ transition_word (counting (tree_of ws) n x)) where
  -- a transition's word that is not blank is what it finds
  pub climbed_found : (a ≡ blank → ⊥) → climb (tree_of ws) (tree_of ws).root s x ≡ found n (a / costs) (left + a % costs)
  climbed_found there = to.same ∙ ap (past left) (climb_own (tree_of ws) (tree_of ws).root n x _ (some_counting w.sound n x says there))

  module _ (free : a ≡ blank) {o h : ℕ} (owner : o ≡ word ((tree_of ws).owner n)) (holder : h ≡ word ((tree_of ws).holder o)) where
    -- no transition that counts, and no node holds the owner
    pub climbed_ends : h ≡ absent → climb (tree_of ws) (tree_of ws).root s x ≡ passed (left + 0)
    climbed_ends none_holds =
        to.same
        ∙ ap (past left)
        (climb_ends w.sound x (own ws w n to.used owner) (no_counting w.sound n x says free) (top ws w n to.used owner holder none_holds))

    -- no transition that counts, and node h holds the owner
    pub climbed_on : (h ≡ absent → ⊥) → ClimbedTo (tree_of ws) s x h (left + (tree_of ws).leave o)
    climbed_on there =
        record {
          used = used_holder ws w n to.used owner holder there;
          same =
              to.same
              ∙ ap (past left)
              (climb_up w.sound x (own ws w n to.used owner) (no_counting w.sound n x says free) (held ws w n to.used owner holder there))
              ∙ past_past left ((tree_of ws).leave o) (climb (tree_of ws) (tree_of ws).root h x);
        }
