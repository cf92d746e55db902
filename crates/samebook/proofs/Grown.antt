-- The tree that stands after the commands before a place of Write's stream, from begin's one machine to the whole tree, and what the
-- command at a place makes of it. Assumes nothing.
use mathlib.Core.Path.{◌≡◌, refl, sym, ap, ◌∙◌, fun_ext}
use mathlib.Core.Logic.{◌⊎◌, inl, inr, ⊎_elim}
use mathlib.Core.Bool.{Bool, true, false, cond}
use mathlib.Core.Option.{Option, none, some}
use Prim.Native.Nat.{ℕ, suc, ◌≤◌, ◌<◌}
use native.Mathlib.Decide.{dec_le}
use native.Mathlib.Omega.{arith}
use lib.Dec.{ltb}
use borrow.Author.Tests.{lt-ltb, le-ltb, eq-eqb, ne_eqb}
use Rattle.definitions.specs.Basics.{put}
use Rattle.definitions.specs.Limits.{machines, nodes, commands, levels}
use Rattle.definitions.specs.Tree.{Tree, Transition, with_nodes, Sound, above, level}
use Rattle.definitions.specs.Stream.{add, refine, arrow, hold, leave}
use Rattle.definitions.specs.Edit.{single, with_transition, edited}
use Rattle.definitions.proofs.Options.{bind_some, present, none_some, some_same, equal_or_not}
use Rattle.definitions.proofs.Words.{same_tree, owner_range, start_range, target_range, unused_hold}
use Rattle.definitions.proofs.Path.{root_holder}
use Rattle.definitions.proofs.Commands.{TakenAdd, TakenRefine, TakenArrow, TakenHold, TakenLeave}
use Rattle.samebook.proofs.Levels.{level_refined, level_less}
use Rattle.samebook.proofs.Clock.{add_at, refine_at, arrow_at, hold_at, leave_at, after_begin, after_all, add_place, refine_place, machine_place, node_place}
use Rattle.samebook.proofs.Clock.{place_free, place_held, place_start, place_other, machine_early, node_early}
use Rattle.samebook.proofs.Clock.{machine_late, node_late, refine_late, machine_all, node_all, refine_all, arrow_at_arrow}
use Rattle.samebook.proofs.Clock.{node_at_add, machine_at_add, refine_at_add, node_at_refine, machine_at_refine, refine_at_refine}

-- ---- values that come at their place

-- v, once its place w is before T, and before that e, the empty value
abbrev passed : {A : Type 0} → A → ℕ → ℕ → A → A
passed e T w v = cond (ltb w T) v e

-- a value that may be absent is empty, or is there and what follows from that holds
given : {A P : Type 0} {o : Option A} → ((a : A) → o ≡ some a → P) → (o ≡ none) ⊎ P
given {o = o} h = ⊎_elim inl (λ is. inr (h is.0 is.1)) (present o)

module _ {A : Type 0} (e : A) (T w : ℕ) (v : A) where
  -- it is there
  passed_in : w < T → passed e T w v ≡ v
  passed_in h = rw (lt-ltb w T h)

  -- it is not there yet
  passed_out : T ≤ w → passed e T w v ≡ e
  passed_out h = rw (le-ltb w T h)

  -- the empty value never comes
  passed_empty : v ≡ e → passed e T w v ≡ e
  passed_empty empty = go (ltb w T)
    where
      go : (b : Bool) → cond b v e ≡ e
      go true = empty
      go false = refl

  -- it is there, if it is anywhere and its place has passed
  passed_all : (v ≡ e) ⊎ (w < T) → passed e T w v ≡ v
  passed_all = ⊎_elim (λ empty. passed_empty empty ∙ sym empty) passed_in

  -- it is not there yet, if it is anywhere
  passed_late : (v ≡ e) ⊎ (T ≤ w) → passed e T w v ≡ e
  passed_late = ⊎_elim passed_empty passed_out

  -- what is there and is not empty is the value
  passed_is : {a : A} → (a ≡ e → ⊥) → passed e T w v ≡ a → v ≡ a
  passed_is {a} full = go (ltb w T)
    where
      go : (b : Bool) → cond b v e ≡ a → v ≡ a
      go true same = same
      go false same = absurd (full (sym same))

-- nothing comes at place T
passed_still : {A : Type 0} (e : A) (T w : ℕ) (v : A) → (v ≡ e) ⊎ (w ≡ T → ⊥) → passed e T w v ≡ passed e (suc T) w v
passed_still e T w v =
    ⊎_elim (λ empty. passed_empty e T w v empty ∙ sym (passed_empty e (suc T) w v empty))
    (λ apart.
    elim (dec_le (suc w) T) [
      | yes in_time ↦ passed_in e T w v in_time ∙ sym (passed_in e (suc T) w v (omega arith))
      | no late ↦ passed_out e T w v (omega arith) ∙ sym (passed_out e (suc T) w v (omega arith))
    ])

-- a function changed at n is another that has the new value there and the old ones elsewhere
put_is : {A : Type 0} (f g : ℕ → A) (n : ℕ) (v : A) → g n ≡ v → ((k : ℕ) → (k ≡ n → ⊥) → f k ≡ g k) → (k : ℕ) → put f n v k ≡ g k
put_is f g n v here other k =
    ⊎_elim (λ same. rw (eq-eqb k n same) (sym (ap g same ∙ here))) (λ away. rw (ne_eqb k n away) (other k away)) (equal_or_not k n)

-- at place T comes the value at n, and no other
passed_put : {A : Type 0} (e : A) (T : ℕ) (w : ℕ → ℕ) (f : ℕ → A) (n : ℕ) (v : A) → f n ≡ v → w n ≡ T
    → ((k : ℕ) → (f k ≡ e) ⊎ (w k ≡ T → k ≡ n)) → (k : ℕ) → put (λ i. passed e T (w i) (f i)) n v k ≡ passed e (suc T) (w k) (f k)
passed_put e T w f n v here at only =
    put_is (λ i. passed e T (w i) (f i)) (λ i. passed e (suc T) (w i) (f i)) n v (passed_in e (suc T) (w n) (f n) (omega arith) ∙ here)
    (λ k other. passed_still e T (w k) (f k) (⊎_elim inl (λ alone. inr (λ now. other (alone now))) (only k)))

-- before place T comes the value at n, and no other
put_first : {A : Type 0} (e : A) (T : ℕ) (w : ℕ → ℕ) (f : ℕ → A) (n : ℕ) (v : A) → f n ≡ v → w n < T
    → ((k : ℕ) → (k ≡ n → ⊥) → (f k ≡ e) ⊎ (T ≤ w k)) → (k : ℕ) → put (λ i. e) n v k ≡ passed e T (w k) (f k)
put_first e T w f n v here early late =
    put_is (λ i. e) (λ i. passed e T (w i) (f i)) n v (passed_in e T (w n) (f n) early ∙ here)
    (λ k other. sym (passed_late e T (w k) (f k) (late k other)))

-- ---- the tree before a place

-- what the commands before place T have made
unfoldable pub grown : Tree → ℕ → Tree
grown t T =
    record {
      root = t.root;
      owner = λ n. passed none T (node_place t n) (t.owner n);
      below = λ n. passed none T (refine_place t n) (t.below n);
      start = λ m. passed none T (machine_place t m) (t.start m);
      holder = λ m. passed none T (machine_place t m) (t.holder m);
      transition = λ n x. passed none T (arrow_at n x) (t.transition n x);
      hold = λ n. passed 0 T (hold_at n) (t.hold n);
      leave = λ m. passed 0 T (leave_at m) (t.leave m);
    }

-- no refinement, no machine and no leaving cost comes at a place: the tree stays, but for the nodes, the transitions and the holds that come
grown_next : {t : Tree} → Sound t → (T : ℕ) → ((n b : ℕ) → t.below n ≡ some b → refine_place t n ≡ T → ⊥)
    → ((m f : ℕ) → t.start m ≡ some f → machine_place t m ≡ T → ⊥) → ((m : ℕ) → (t.leave m ≡ 0) ⊎ (leave_at m ≡ T → ⊥))
    → {owner : ℕ → Option ℕ} {transition : ℕ → ℕ → Option Transition}
    → {hold : ℕ → ℕ} → ((n : ℕ) → owner n ≡ (grown t (suc T)).owner n) → ((n x : ℕ) → transition n x ≡ (grown t (suc T)).transition n x)
    → ((n : ℕ) → hold n ≡ (grown t (suc T)).hold n) → with_nodes (grown t T) owner (grown t T).below transition hold ≡ grown t (suc T)
unfolding grown
grown_next {t} s T refined machine left owner transition holds =
    same_tree _ _ refl owner (λ n. passed_still none T (refine_place t n) (t.below n) (given (refined n)))
    (λ m. passed_still none T (machine_place t m) (t.start m) (given (machine m)))
    (λ m. passed_still none T (machine_place t m) (t.holder m) (given λ h e. let (f, used) = s.held_used m h e in machine m f used))
    transition holds (λ m. passed_still 0 T (leave_at m) (t.leave m) (left m))

-- nothing comes at a place: the tree stays
grown_still : {t : Tree} → Sound t → (T : ℕ) → ((n m : ℕ) → t.owner n ≡ some m → node_place t n ≡ T → ⊥)
    → ((n b : ℕ) → t.below n ≡ some b → refine_place t n ≡ T → ⊥) → ((m f : ℕ) → t.start m ≡ some f → machine_place t m ≡ T → ⊥)
    → ((n x : ℕ) (a : Transition) → t.transition n x ≡ some a → arrow_at n x ≡ T → ⊥)
    → ((n : ℕ) → (t.hold n ≡ 0) ⊎ (hold_at n ≡ T → ⊥)) → ((m : ℕ) → (t.leave m ≡ 0) ⊎ (leave_at m ≡ T → ⊥)) → grown t T ≡ grown t (suc T)
unfolding grown
grown_still {t} s T node refined machine drawn held left =
    grown_next s T refined machine left (λ n. passed_still none T (node_place t n) (t.owner n) (given (node n)))
    (λ n x. passed_still none T (arrow_at n x) (t.transition n x) (given (drawn n x)))
    (λ n. passed_still 0 T (hold_at n) (t.hold n) (held n))

-- what is in use is in use in the whole tree, and what it stands below, it stands below there
pub grown_above : (t : Tree) (T n h : ℕ) → above (grown t T) n ≡ some h → above t n ≡ some h
unfolding grown above
grown_above t T n h e =
    let (m, own, held) = bind_some ((grown t T).owner n) (grown t T).holder e in
    let whole_own : t.owner n ≡ some m = passed_is none T (node_place t n) (t.owner n) (λ e. none_some e refl) own in
    rw whole_own (passed_is none T (machine_place t m) (t.holder m) (λ e. none_some e refl) held)

-- ---- the first place and the last

-- after begin there is the root machine with its start
pub grown_begin : {t : Tree} → Sound t → (f : ℕ) → t.start t.root ≡ some f → single t.root f ≡ grown t after_begin
unfolding grown single
grown_begin {t} s f first =
    let own : t.owner f ≡ some t.root = s.start_owned t.root f first in
    let root : machine_place t t.root ≡ 0 = place_free t s.root_free in
    same_tree _ _ refl
    (put_first none after_begin (node_place t) t.owner f (some t.root) own (omega (arith, place_start t own first))
    (λ n other. given λ m e. node_late s e (λ at. other (some_same at first))))
    (λ n. sym (passed_late none after_begin (refine_place t n) (t.below n) (given λ b e. refine_late s e)))
    (put_first none after_begin (machine_place t) t.start t.root (some f) first (omega arith)
    (λ m other. given λ k e. machine_late s e other))
    (λ m.
    sym
    (passed_late none after_begin (machine_place t m) (t.holder m)
    (given λ h e. machine_late s (s.held_used m h e).1 (λ same. root_holder s same e))))
    (λ n x. sym (passed_late none after_begin (arrow_at n x) (t.transition n x) (inr (omega arith))))
    (λ n. sym (passed_late 0 after_begin (hold_at n) (t.hold n) (inr (omega arith))))
    (λ m. sym (passed_late 0 after_begin (leave_at m) (t.leave m) (inr (omega arith))))

-- after the last place there is the whole tree
pub grown_end : {t : Tree} → Sound t → grown t after_all ≡ t
unfolding grown
grown_end {t} s =
    same_tree _ _ refl
    (λ n. passed_all none after_all (node_place t n) (t.owner n) (given λ m e. omega (arith, node_all s e)))
    (λ n. passed_all none after_all (refine_place t n) (t.below n) (given λ b e. omega (arith, refine_all s e)))
    (λ m. passed_all none after_all (machine_place t m) (t.start m) (given λ f e. omega (arith, machine_all s e)))
    (λ m. passed_all none after_all (machine_place t m) (t.holder m) (given λ h e. omega (arith, machine_all s (s.held_used m h e).1)))
    (λ n x.
    passed_all none after_all (arrow_at n x) (t.transition n x)
    (given λ a e. omega (arith, target_range t s n x a e, s.transition_range n x a e)))
    (λ n.
    passed_all 0 after_all (hold_at n) (t.hold n)
    (⊎_elim (λ unused. inl (unused_hold t s n unused)) (λ own. inr (omega (arith, s.node_range n own.0 own.1))) (present (t.owner n))))
    (λ m.
    passed_all 0 after_all (leave_at m) (t.leave m)
    (⊎_elim (λ unused. inl (s.leave_used m unused)) (λ used. inr (omega (arith, s.machine_range m used.0 used.1))) (present (t.start m))))

-- ---- the adds

module _ {t : Tree} (s : Sound t) (l i : ℕ) (high : l < levels) (small : i < nodes) where
  -- at the place of node i among the adds of level l + 1 no refinement, machine, transition, hold or leaving cost comes
  refine_not : (n b : ℕ) → t.below n ≡ some b → refine_place t n ≡ add_at (suc l) i → ⊥
  refine_not n b holds here = refine_at_add s l i small holds here

  machine_not : (m : ℕ) → machine_place t m ≡ add_at (suc l) i → ⊥
  machine_not m here = machine_at_add s l i small m here

  arrow_not : (n x : ℕ) → arrow_at n x ≡ add_at (suc l) i → ⊥
  arrow_not n x here = omega arith

  hold_not : (n : ℕ) → hold_at n ≡ add_at (suc l) i → ⊥
  hold_not n here = omega arith

  leave_not : (m : ℕ) → leave_at m ≡ add_at (suc l) i → ⊥
  leave_not m here = omega arith

  -- node i is not added at this level: the tree stays
  pub add_none : ((m : ℕ) → t.owner i ≡ some m → (t.start m ≡ some i → ⊥) → level t i ≡ suc l → ⊥)
      → grown t (add_at (suc l) i) ≡ grown t (suc (add_at (suc l) i))
  add_none not_here =
      grown_still s (add_at (suc l) i)
      (λ n m own here.
      let (other, same, at) = node_at_add s l i small own here in
      not_here m (rw same at own) (rw same at other) (rw same at at))
      refine_not (λ m f used. machine_not m) (λ n x a e. arrow_not n x) (λ n. inr (hold_not n)) (λ m. inr (leave_not m))

  module _ {m : ℕ} (own : t.owner i ≡ some m) (other : t.start m ≡ some i → ⊥) (at : level t i ≡ suc l) where
    -- the node's place
    add_here : node_place t i ≡ add_at (suc l) i
    unfolding add_place
    add_here = place_other t own other ∙ rw at

    -- it is taken
    pub add_may : TakenAdd (grown t (add_at (suc l) i)) m i
    unfolding grown
    add_may =
        let (f, used) = s.owner_used i m own in
        let early : machine_place t m < add_at (level t i) 0 = machine_early s own in
        record {
          machine_range = (owner_range t s i m own).1;
          node_range = small;
          machine_used = (f, passed_in none (add_at (suc l) i) (machine_place t m) (t.start m) (omega arith) ∙ used);
          node_new = passed_out none (add_at (suc l) i) (node_place t i) (t.owner i) (omega (arith, add_here));
        }

    -- and what it leaves
    pub add_done : edited (grown t (add_at (suc l) i)) (add m i) ≡ grown t (suc (add_at (suc l) i))
    unfolding grown edited
    add_done =
        grown_next s (add_at (suc l) i) refine_not (λ p f used. machine_not p) (λ p. inr (leave_not p))
        (passed_put none (add_at (suc l) i) (node_place t) t.owner i (some m) own add_here
        (λ k. given λ a e here. (node_at_add s l i small e here).1))
        (λ n x. passed_still none (add_at (suc l) i) (arrow_at n x) (t.transition n x) (inr (arrow_not n x)))
        (λ n. passed_still 0 (add_at (suc l) i) (hold_at n) (t.hold n) (inr (hold_not n)))

-- ---- the refines

module _ {t : Tree} (s : Sound t) (l i : ℕ) (high : l < levels) (small : i < nodes) where
  -- at the place of node i among the refines of level l + 1 no transition, hold or leaving cost comes
  no_arrow : (n x : ℕ) → arrow_at n x ≡ refine_at (suc l) i → ⊥
  no_arrow n x here = omega arith

  no_hold : (n : ℕ) → hold_at n ≡ refine_at (suc l) i → ⊥
  no_hold n here = omega arith

  no_leave : (m : ℕ) → leave_at m ≡ refine_at (suc l) i → ⊥
  no_leave m here = omega arith

  -- node i is not refined at this level: the tree stays
  pub refine_none : ((b : ℕ) → t.below i ≡ some b → level t i ≡ suc l → ⊥)
      → grown t (refine_at (suc l) i) ≡ grown t (suc (refine_at (suc l) i))
  refine_none not_here =
      grown_still s (refine_at (suc l) i)
      (λ n m own here.
      let (start, held, at) = node_at_refine s l i small own here in
      not_here m (s.held_below m i held) at)
      (λ n b holds here.
      let (same, at) = refine_at_refine s l i small holds here in
      not_here b (rw same at holds) (rw same at at))
      (λ m f used here.
      let (held, at) = machine_at_refine s l i small here in
      not_here m (s.held_below m i held) at)
      (λ n x a e. no_arrow n x) (λ n. inr (no_hold n)) (λ m. inr (no_leave m))

  module _ {b f : ℕ} (holds : t.below i ≡ some b) (first : t.start b ≡ some f) (at : level t i ≡ suc l) where
    -- node i holds no other machine
    only_held : {m : ℕ} → t.holder m ≡ some i → m ≡ b
    only_held {m} held = some_same (s.held_below m i held) holds

    -- the places of the refinement, of the machine below and of its start
    refine_here : refine_place t i ≡ refine_at (suc l) i
    unfolding refine_place
    refine_here = rw at

    machine_here : machine_place t b ≡ refine_at (suc l) i
    machine_here = place_held t (s.below_held i b holds) ∙ refine_here

    start_here : node_place t f ≡ refine_at (suc l) i
    start_here = place_start t (s.start_owned b f first) first ∙ machine_here

    -- it is taken
    pub refine_may : TakenRefine (grown t (refine_at (suc l) i)) i b f
    unfolding grown
    refine_may =
        let (m, own) = s.holder_used b i (s.below_held i b holds) in
        let early : node_place t i < refine_at (level t i) 0 = node_early s own in
        record {
          node_range = small;
          machine_range = (start_range t s b f first).0;
          first_range = (start_range t s b f first).1;
          node_used = (m, passed_in none (refine_at (suc l) i) (node_place t i) (t.owner i) (omega arith) ∙ own);
          machine_new = passed_out none (refine_at (suc l) i) (machine_place t b) (t.start b) (omega (arith, machine_here));
          first_new = passed_out none (refine_at (suc l) i) (node_place t f) (t.owner f) (omega (arith, start_here));
          node_plain = passed_out none (refine_at (suc l) i) (refine_place t i) (t.below i) (omega (arith, refine_here));
          not_lowest = λ lowest.
              omega (arith, level_refined s own holds, level_less (grown t (refine_at (suc l) i)) t (grown_above t (refine_at (suc l) i)) i);
        }

    -- and what it leaves
    pub refine_done : edited (grown t (refine_at (suc l) i)) (refine i b f) ≡ grown t (suc (refine_at (suc l) i))
    unfolding grown edited
    refine_done =
        same_tree _ _ refl
        (passed_put none (refine_at (suc l) i) (node_place t) t.owner f (some b) (s.start_owned b f first) start_here
        (λ k.
        given λ m own here.
        let (start, held, level_i) = node_at_refine s l i small own here in
        let same : m ≡ b = only_held held in
        some_same (rw same at start) first))
        (passed_put none (refine_at (suc l) i) (refine_place t) t.below i (some b) holds refine_here
        (λ k. given λ a e here. (refine_at_refine s l i small e here).0))
        (passed_put none (refine_at (suc l) i) (machine_place t) t.start b (some f) first machine_here
        (λ k. inr (λ here. only_held (machine_at_refine s l i small here).0)))
        (passed_put none (refine_at (suc l) i) (machine_place t) t.holder b (some i) (s.below_held i b holds) machine_here
        (λ k. inr (λ here. only_held (machine_at_refine s l i small here).0)))
        (λ n x. passed_still none (refine_at (suc l) i) (arrow_at n x) (t.transition n x) (inr (no_arrow n x)))
        (λ n. passed_still 0 (refine_at (suc l) i) (hold_at n) (t.hold n) (inr (no_hold n)))
        (λ m. passed_still 0 (refine_at (suc l) i) (leave_at m) (t.leave m) (inr (no_leave m)))

-- ---- the arrows

module _ {t : Tree} (s : Sound t) (n x : ℕ) (small : n < nodes) (known : x < commands) where
  -- at the place of node n and command x among the arrows no node, refinement, machine, hold or leaving cost comes
  node_past : (k m : ℕ) → t.owner k ≡ some m → node_place t k ≡ arrow_at n x → ⊥
  node_past k m own here = omega (arith, node_all s own)

  refine_past : (k b : ℕ) → t.below k ≡ some b → refine_place t k ≡ arrow_at n x → ⊥
  refine_past k b holds here = omega (arith, refine_all s holds)

  machine_past : (m f : ℕ) → t.start m ≡ some f → machine_place t m ≡ arrow_at n x → ⊥
  machine_past m f used here = omega (arith, machine_all s used)

  hold_past : (k : ℕ) → hold_at k ≡ arrow_at n x → ⊥
  hold_past k here = omega arith

  leave_past : (m : ℕ) → leave_at m ≡ arrow_at n x → ⊥
  leave_past m here = omega arith

  -- the node has no transition for the command: the tree stays
  pub arrow_none : t.transition n x ≡ none → grown t (arrow_at n x) ≡ grown t (suc (arrow_at n x))
  arrow_none free =
      grown_still s (arrow_at n x) node_past refine_past machine_past
      (λ k y a e here.
      let (node, command) = arrow_at_arrow n x k y known (s.transition_range k y a e).0 here in
      none_some free (rw (node, command) at e))
      (λ k. inr (hold_past k)) (λ m. inr (leave_past m))

  module _ {a : Transition} (drawn : t.transition n x ≡ some a) where
    -- it is taken
    pub arrow_may : TakenArrow (grown t (arrow_at n x)) n x a.target
    unfolding grown
    arrow_may =
        let (m, own, there) = s.transition_owned n x a drawn in
        record {
          node_range = small;
          command_range = known;
          target_range = (target_range t s n x a drawn).1;
          one_machine = (
            m,
            passed_in none (arrow_at n x) (node_place t n) (t.owner n) (omega (arith, node_all s own)) ∙ own,
            passed_in none (arrow_at n x) (node_place t a.target) (t.owner a.target) (omega (arith, node_all s there)) ∙ there,
          );
        }

    -- the transitions after it
    arrow_put : (k y : ℕ)
        → (with_transition (grown t (arrow_at n x)) n x (some a)).transition k y ≡ (grown t (suc (arrow_at n x))).transition k y
    unfolding grown with_transition
    arrow_put k y =
        let old : ℕ → ℕ → Option Transition = (grown t (arrow_at n x)).transition in
        ap (λ (row : ℕ → Option Transition). row y)
        (put_is old (grown t (suc (arrow_at n x))).transition n (put (old n) x (some a))
        (fun_ext λ j.
        sym
        (passed_put none (arrow_at n x) (arrow_at n) (t.transition n) x (some a) drawn refl
        (λ j. given λ b e here. (arrow_at_arrow n x n j known (s.transition_range n j b e).0 here).1) j))
        (λ i other.
        fun_ext λ j.
        passed_still none (arrow_at n x) (arrow_at i j) (t.transition i j)
        (given λ b e here. other (arrow_at_arrow n x i j known (s.transition_range i j b e).0 here).0)) k)

    -- and what it leaves
    pub arrow_done : edited (grown t (arrow_at n x)) (arrow n x a.target a.cost) ≡ grown t (suc (arrow_at n x))
    unfolding grown edited with_transition
    arrow_done =
        grown_next s (arrow_at n x) refine_past machine_past (λ m. inr (leave_past m))
        (λ k. passed_still none (arrow_at n x) (node_place t k) (t.owner k) (given (node_past k))) arrow_put
        (λ k. passed_still 0 (arrow_at n x) (hold_at k) (t.hold k) (inr (hold_past k)))

-- ---- the holds

module _ {t : Tree} (s : Sound t) (n : ℕ) (small : n < nodes) where
  -- at the place of node n among the holds no node, refinement, machine, transition or leaving cost comes
  node_gone : (k m : ℕ) → t.owner k ≡ some m → node_place t k ≡ hold_at n → ⊥
  node_gone k m own here = omega (arith, node_all s own)

  refine_gone : (k b : ℕ) → t.below k ≡ some b → refine_place t k ≡ hold_at n → ⊥
  refine_gone k b holds here = omega (arith, refine_all s holds)

  machine_gone : (m f : ℕ) → t.start m ≡ some f → machine_place t m ≡ hold_at n → ⊥
  machine_gone m f used here = omega (arith, machine_all s used)

  arrow_gone : (k x : ℕ) (a : Transition) → t.transition k x ≡ some a → arrow_at k x ≡ hold_at n → ⊥
  arrow_gone k x a e here = omega (arith, target_range t s k x a e, s.transition_range k x a e)

  leave_gone : (m : ℕ) → leave_at m ≡ hold_at n → ⊥
  leave_gone m here = omega arith

  -- the node is not held: the tree stays
  pub hold_none : t.hold n ≡ 0 → grown t (hold_at n) ≡ grown t (suc (hold_at n))
  hold_none free =
      grown_still s (hold_at n) node_gone refine_gone machine_gone arrow_gone
      (λ k. ⊎_elim (λ same. inl (ap t.hold same ∙ free)) (λ other. inr (λ here. other (omega arith))) (equal_or_not k n))
      (λ m. inr (leave_gone m))

  module _ (one : t.hold n ≡ 1) where
    -- it is taken
    pub hold_may : TakenHold (grown t (hold_at n)) n 1
    unfolding grown
    hold_may =
        let (m, own) = s.hold_used n one in
        record {
          node_range = small;
          hold_range = omega arith;
          node_used = (m, passed_in none (hold_at n) (node_place t n) (t.owner n) (omega (arith, node_all s own)) ∙ own);
          no_start = λ e p up first.
              let start : t.start p ≡ some n = passed_is none (hold_at n) (machine_place t p) (t.start p) (λ e. none_some e refl) first in
              omega (arith, s.hold_start p n start);
        }

    -- and what it leaves
    pub hold_done : edited (grown t (hold_at n)) (hold n 1) ≡ grown t (suc (hold_at n))
    unfolding grown edited
    hold_done =
        grown_next s (hold_at n) refine_gone machine_gone (λ m. inr (leave_gone m))
        (λ k. passed_still none (hold_at n) (node_place t k) (t.owner k) (given (node_gone k)))
        (λ k x. passed_still none (hold_at n) (arrow_at k x) (t.transition k x) (given (arrow_gone k x)))
        (passed_put 0 (hold_at n) hold_at t.hold n 1 one refl (λ k. inr (λ here. omega arith)))

-- a hold has not come before its place
pub hold_late : (t : Tree) (n : ℕ) → (grown t (hold_at n)).hold n ≡ 0
unfolding grown
hold_late t n = passed_out 0 (hold_at n) (hold_at n) (t.hold n) (omega arith)

-- ---- the leaving costs

module _ {t : Tree} (s : Sound t) (m : ℕ) (small : m < machines) where
  -- at the place of machine m among the leaving costs nothing else comes
  node_over : (k p : ℕ) → t.owner k ≡ some p → node_place t k ≡ leave_at m → ⊥
  node_over k p own here = omega (arith, node_all s own)

  refine_over : (k b : ℕ) → t.below k ≡ some b → refine_place t k ≡ leave_at m → ⊥
  refine_over k b holds here = omega (arith, refine_all s holds)

  machine_over : (p f : ℕ) → t.start p ≡ some f → machine_place t p ≡ leave_at m → ⊥
  machine_over p f used here = omega (arith, machine_all s used)

  arrow_over : (k x : ℕ) (a : Transition) → t.transition k x ≡ some a → arrow_at k x ≡ leave_at m → ⊥
  arrow_over k x a e here = omega (arith, target_range t s k x a e, s.transition_range k x a e)

  hold_over : (k : ℕ) → (t.hold k ≡ 0) ⊎ (hold_at k ≡ leave_at m → ⊥)
  hold_over k =
      ⊎_elim (λ unused. inl (unused_hold t s k unused)) (λ own. inr (λ here. omega (arith, s.node_range k own.0 own.1))) (present (t.owner k))

  -- leaving the machine costs nothing: the tree stays
  pub leave_none : t.leave m ≡ 0 → grown t (leave_at m) ≡ grown t (suc (leave_at m))
  leave_none free =
      grown_still s (leave_at m) node_over refine_over machine_over arrow_over hold_over
      (λ p. ⊎_elim (λ same. inl (ap t.leave same ∙ free)) (λ other. inr (λ here. other (omega arith))) (equal_or_not p m))

  module _ (charged : t.leave m ≡ 0 → ⊥) where
    -- it is taken
    pub leave_may : TakenLeave (grown t (leave_at m)) m
    unfolding grown
    leave_may =
        record {
          machine_range = small;
          not_root = λ same. charged (ap t.leave same ∙ s.leave_root);
          machine_used =
              ⊎_elim (λ unused. absurd (charged (s.leave_used m unused)))
              (λ used.
              (used.0, passed_in none (leave_at m) (machine_place t m) (t.start m) (omega (arith, machine_all s used.1)) ∙ used.1))
              (present (t.start m));
        }

    -- and what it leaves
    pub leave_done : edited (grown t (leave_at m)) (leave m (t.leave m)) ≡ grown t (suc (leave_at m))
    unfolding grown edited
    leave_done =
        same_tree _ _ refl (λ k. passed_still none (leave_at m) (node_place t k) (t.owner k) (given (node_over k)))
        (λ k. passed_still none (leave_at m) (refine_place t k) (t.below k) (given (refine_over k)))
        (λ p. passed_still none (leave_at m) (machine_place t p) (t.start p) (given (machine_over p)))
        (λ p.
        passed_still none (leave_at m) (machine_place t p) (t.holder p)
        (given λ h e. let (f, used) = s.held_used p h e in machine_over p f used))
        (λ k x. passed_still none (leave_at m) (arrow_at k x) (t.transition k x) (given (arrow_over k x)))
        (λ k. passed_still 0 (leave_at m) (hold_at k) (t.hold k) (hold_over k))
        (passed_put 0 (leave_at m) leave_at t.leave m (t.leave m) refl refl (λ k. inr (λ here. omega arith)))

-- a leaving cost has not come before its place
pub leave_late : (t : Tree) (m : ℕ) → (grown t (leave_at m)).leave m ≡ 0
unfolding grown
leave_late t m = passed_out 0 (leave_at m) (leave_at m) (t.leave m) (omega arith)
