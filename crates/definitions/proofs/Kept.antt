-- Soundness is kept by every edit that is taken: one law for each edit, then one for all, for a stream and for a list of streams.
-- Assumes nothing.
use mathlib.Core.Path.{◌≡◌, refl, sym, ap, subst, ◌∙◌}
use mathlib.Core.Logic.{◌⊎◌, inl, inr, ⊎_elim}
use mathlib.Core.Bool.{Bool, true, false, cond, ◌||◌}
use mathlib.Core.Option.{Option, none, some}
use mathlib.Core.List.{[], List, ◌∷◌}
use Prim.Native.Nat.{ℕ, zero, suc, ◌+◌, ◌<◌}
use native.Mathlib.Omega.{arith}
use lib.Dec.{eqb}
use lib.ListN.{drop}
use borrow.Author.Tests.{eq-eqb, ne_eqb, eqb-false}
use Rattle.definitions.specs.Basics.{◌>>=◌, unless, put, iterate, All}
use Rattle.definitions.specs.Limits.{machines, nodes, commands, costs, levels}
use Rattle.definitions.specs.Tree.{Tree, Transition, with_root, with_node_hold, with_start_of, Sound, parent, level, within}
use Rattle.definitions.specs.Stream.{Edit, begin, add, refine, remove, arrow, clear, start, crown, hold, leave, Command, edit, refresh}
use Rattle.definitions.specs.Stream.{byte_at, pair_at, decode, taken}
use Rattle.definitions.specs.Edit.{refusal, edited, HoldReleased, single, held_within, without, with_transition, with_start, with_machine, with_held, tree_after}
use Rattle.definitions.specs.Load.{next, load, expected}
use Rattle.definitions.specs.Demand.{Bytes}
use Rattle.definitions.proofs.Options.{bind_some, present, none_some, some_same, unless_some, true_false, equal_or_not, put_same, put_other}
use Rattle.definitions.proofs.Path.{Deep, at_root, under, deep, deep_small, level_deep}
use Rattle.definitions.proofs.Words.{same_tree, hold_zero, unused_below, unused_hold, unused_holder}
use Rattle.definitions.proofs.Commands.{TakenBegin, taken_begin, TakenAdd, taken_add, TakenRefine, taken_refine}
use Rattle.definitions.proofs.Commands.{TakenRemove, taken_remove, TakenArrow, taken_arrow, TakenStart, taken_start}
use Rattle.definitions.proofs.Commands.{TakenCrown, taken_crown, TakenHold, taken_hold, hold_taken, TakenLeave, taken_leave, within_top, within_up}
use Rattle.definitions.proofs.Streams.{read_taken, next_taken, load_induction}

-- ---- functions changed at one number, and values taken away

-- a function changed at k has the new value at a number that is k
put_here : {A : Type 0} (f : ℕ → A) (k : ℕ) (v : A) (n : ℕ) → n ≡ k → put f k v n ≡ v
put_here f k v n same = rw (eq-eqb n k same)

-- a value of a changed function is the new one at k, or an old one
pub put_some : {A : Type 0} (f : ℕ → Option A) (k : ℕ) (v : A) (n : ℕ) {a : A} → put f k (some v) n ≡ some a
    → ((n ≡ k) × (v ≡ a)) ⊎ (f n ≡ some a)
put_some f k v n e =
    ⊎_elim (λ same. inl (same, some_same (put_here f k (some v) n same) e)) (λ other. inr (sym (put_other f k (some v) n other) ∙ e))
    (equal_or_not n k)

-- what has none after a value was put somewhere had none before
put_none : (f : ℕ → Option ℕ) (k v n : ℕ) → put f k (some v) n ≡ none → f n ≡ none
put_none f k v n e =
    ⊎_elim (λ here. absurd (none_some e (put_here f k (some v) n here))) (λ away. sym (put_other f k (some v) n away) ∙ e) (equal_or_not n k)

-- an old value stays where the function is changed at a number that had none
put_kept : {A : Type 0} (f : ℕ → Option A) (k : ℕ) (v : Option A) → f k ≡ none → {n : ℕ} {a : A} → f n ≡ some a → put f k v n ≡ some a
put_kept f k v new {n} e = put_other f k v n (λ same. none_some (ap f same ∙ new) e) ∙ e

-- and what had a value has one
put_still : {A : Type 0} (f : ℕ → Option A) (k : ℕ) (v : A) (n : ℕ) {a : A} → f n ≡ some a → (b : A) × (put f k (some v) n ≡ some b)
put_still f k v n {a} e =
    ⊎_elim (λ same. (v, put_here f k (some v) n same)) (λ other. (a, put_other f k (some v) n other ∙ e)) (equal_or_not n k)

-- a value stays where the test does not hold
unless_kept : {A : Type 0} {b : Bool} {o : Option A} {a : A} → b ≡ false → o ≡ some a → unless b o ≡ some a
unless_kept off e = rw (off, e)

-- the second of two tests does not hold where neither does
second_off : (a : Bool) {b : Bool} → (a || b) ≡ false → b ≡ false
second_off true e = absurd (true_false refl e)
second_off false e = e

-- ---- how deep machines are

-- a machine k below the root climbs to it in k steps
pub deep_climbs : {t : Tree} {m k : ℕ} → Deep t m k → iterate (parent t) k m ≡ some t.root
unfolding iterate parent
deep_climbs (at_root e) = ap {B = Option ℕ} some e
deep_climbs (under held up way) = rw (held, up) (deep_climbs way)

-- every value of f is one of g
abbrev pub Stays : (ℕ → Option ℕ) → (ℕ → Option ℕ) → Type 0
Stays f g = (i a : ℕ) → f i ≡ some a → g i ≡ some a

-- machine m climbs to the root in at most 7 steps
abbrev Climbs : Tree → ℕ → Type 0
Climbs t m = (k : ℕ) × (k < levels) × (iterate (parent t) k m ≡ some t.root)

-- where a tree keeps holders and owners and puts the old root d below its own, every machine comes d deeper
deep_onto : {t u : Tree} {d : ℕ} → Deep u t.root d → Stays t.holder u.holder → Stays t.owner u.owner
    → {m k : ℕ} → Deep t m k → (j : ℕ) × (j ≡ k + d) × Deep u m j
deep_onto {u = u} {d = d} base holders owners (at_root e) = (d, omega arith, subst (λ (i : ℕ). Deep u i d) (sym e) base)
deep_onto base holders owners (under held up way) =
    let (j, sum, found) = deep_onto base holders owners way in
    (suc j, omega arith, under (holders _ _ held) (owners _ _ up) found)

-- and so every machine in use climbs, if none was too deep for it
pub climbs_onto : {t u : Tree} → Sound t → {d : ℕ} → Deep u t.root d → Stays t.holder u.holder → Stays t.owner u.owner
    → ((m f k : ℕ) → t.start m ≡ some f → Deep t m k → k + d < levels) → (m f : ℕ) → t.start m ≡ some f → Climbs u m
climbs_onto s {d} base holders owners room m f used =
    let (k, small, way) = deep s used in
    let (j, sum, found) = deep_onto base holders owners way in
    let fits : k + d < levels = room m f k used way in
    (j, omega arith, deep_climbs found)

-- in particular where the root stays
pub climbs_kept : {t : Tree} → Sound t → (u : Tree) → t.root ≡ u.root → Stays t.holder u.holder → Stays t.owner u.owner
    → (m f : ℕ) → t.start m ≡ some f → Climbs u m
climbs_kept s u same holders owners =
    climbs_onto s (at_root same) holders owners (λ m f k used way. omega (arith, deep_small s used way))

-- and a machine below a node climbs, if the node was not at the lowest level
climbs_under : {t : Tree} → Sound t → (u : Tree) → t.root ≡ u.root → Stays t.holder u.holder → Stays t.owner u.owner
    → (m n p : ℕ) → t.owner n ≡ some p → (level t n ≡ levels → ⊥) → u.holder m ≡ some n → Climbs u m
climbs_under s u same holders owners m n p own high held =
    let (k, small, way) = deep s (s.owner_used n p own).1 in
    let (j, sum, found) = deep_onto {u = u} (at_root same) holders owners way in
    let other : suc k ≡ levels → ⊥ = λ e. high (level_deep s own way ∙ e) in
    (suc j, omega arith, deep_climbs (under held (owners n p own) found))

-- ---- begin

-- one machine with one node is sound
pub single_sound : {m n : ℕ} → TakenBegin m n → Sound (single m n)
unfolding single
single_sound {m} {n} k =
    record {
      root_used = (n, put_same (λ q. none) m (some n));
      root_free = refl;
      machine_range = λ p f e. rw (only m n p f e).0 k.machine_range;
      node_range = λ i p e. rw (only n m i p e).0 k.node_range;
      owner_used = λ i p e. (n, put_here (λ q. none) m (some n) p (sym (only n m i p e).1));
      start_owned = λ p f e. put_here (λ q. none) n (some m) f (sym (only m n p f e).1) ∙ ap {B = Option ℕ} some (sym (only m n p f e).0);
      below_held = λ i p e. absurd (none_some refl e);
      held_below = λ p i e. absurd (none_some refl e);
      holder_used = λ p i e. absurd (none_some refl e);
      held_used = λ p i e. absurd (none_some refl e);
      transition_range = λ i x a e. absurd (none_some refl e);
      transition_owned = λ i x a e. absurd (none_some refl e);
      hold_range = λ i. omega arith;
      hold_used = λ i e. absurd (omega arith);
      hold_start = λ p f e. refl;
      leave_range = λ p. omega arith;
      leave_used = λ p e. refl;
      leave_root = refl;
      climbs = λ p f e. (0, omega arith, deep_climbs (at_root (only m n p f e).0));
    }
  where
    only : (i v j a : ℕ) → put (λ q. none) i (some v) j ≡ some a → (j ≡ i) × (v ≡ a)
    only i v j a e = ⊎_elim (λ new. new) (λ old. absurd (none_some refl old)) (put_some (λ q. none) i v j e)

-- begin leaves such a tree
pub begin_sound : (t : Tree) {m n : ℕ} → TakenBegin m n → Sound (edited t (begin m n))
unfolding edited
begin_sound t k = single_sound k

-- ---- add

-- a new node of a machine in use
pub add_sound : {t : Tree} → Sound t → {m n : ℕ} → TakenAdd t m n → Sound (edited t (add m n))
unfolding edited
add_sound {t} s {m} {n} k =
    let kept : Stays t.owner (put t.owner n (some m)) = λ i p e. put_kept t.owner n (some m) k.node_new e in
    record {
      root_used = s.root_used;
      root_free = s.root_free;
      machine_range = s.machine_range;
      node_range = λ i p e. ⊎_elim (λ new. rw new.0 k.node_range) (s.node_range i p) (put_some t.owner n m i e);
      owner_used = λ i p e. ⊎_elim (λ new. rw (← new.1) k.machine_used) (s.owner_used i p) (put_some t.owner n m i e);
      start_owned = λ p f e. kept f p (s.start_owned p f e);
      below_held = s.below_held;
      held_below = s.held_below;
      holder_used = λ p i e. let (q, up) = s.holder_used p i e in (q, kept i q up);
      held_used = s.held_used;
      transition_range = s.transition_range;
      transition_owned = λ i x a e.
          let (p, here, there) = s.transition_owned i x a e in
          (p, kept i p here, kept a.target p there);
      hold_range = s.hold_range;
      hold_used = λ i e. let (p, own) = s.hold_used i e in (p, kept i p own);
      hold_start = s.hold_start;
      leave_range = s.leave_range;
      leave_used = s.leave_used;
      leave_root = s.leave_root;
      climbs = climbs_kept s (edited t (add m n)) refl (λ p h e. e) kept;
    }

-- ---- refine and crown

-- the tree with a new machine m whose one node is f, and with machine b held by node n
abbrev grafted : Tree → (root m f b n : ℕ) → Tree
grafted t root m f b n = with_root (with_held (with_machine t m f) n b) root

-- the new numbers are in range and were not in use, n and b were not refined and held, and are in use after
record Graft (t : Tree) (m f b n : ℕ) : Type 0 where
  machine_range : m < machines
  node_range : f < nodes
  machine_new : t.start m ≡ none
  node_new : t.owner f ≡ none
  plain : t.below n ≡ none
  free : t.holder b ≡ none
  holder_used : (p : ℕ) × (put t.owner f (some m) n ≡ some p)
  held_used : (g : ℕ) × (put t.start m (some f) b ≡ some g)

-- all that the old tree had stays
module _ {t : Tree} {m f b n : ℕ} (k : Graft t m f b n) where
  owners : Stays t.owner (put t.owner f (some m))
  owners i p e = put_kept t.owner f (some m) k.node_new e

  belows : Stays t.below (put t.below n (some b))
  belows i p e = put_kept t.below n (some b) k.plain e

  starts : Stays t.start (put t.start m (some f))
  starts p i e = put_kept t.start m (some f) k.machine_new e

  holders : Stays t.holder (put t.holder b (some n))
  holders p i e = put_kept t.holder b (some n) k.free e

-- such a tree is sound, if its root is in use, not held and left at no cost, and every machine climbs to it
grafted_sound : {t : Tree} → Sound t → (root : ℕ) {m f b n : ℕ} → Graft t m f b n
    → (g : ℕ) × (put t.start m (some f) root ≡ some g) → put t.holder b (some n) root ≡ none → t.leave root ≡ 0
    → ((p i : ℕ) → put t.start m (some f) p ≡ some i → Climbs (grafted t root m f b n) p) → Sound (grafted t root m f b n)
grafted_sound {t} s root {m} {f} {b} {n} k used free none_spent climbs =
    record {
      root_used = used;
      root_free = free;
      machine_range = λ p i e. ⊎_elim (λ new. rw new.0 k.machine_range) (s.machine_range p i) (put_some t.start m f p e);
      node_range = λ i p e. ⊎_elim (λ new. rw new.0 k.node_range) (s.node_range i p) (put_some t.owner f m i e);
      owner_used = λ i p e.
          ⊎_elim (λ new. (f, put_here t.start m (some f) p (sym new.1)))
          (λ old. let (g, st) = s.owner_used i p old in (g, starts k p g st)) (put_some t.owner f m i e);
      start_owned = λ p i e.
          ⊎_elim (λ new. back t.owner i new.1 new.0) (λ old. owners k i p (s.start_owned p i old))
          (put_some t.start m f p e);
      below_held = λ i p e.
          ⊎_elim (λ new. back t.holder p new.1 new.0) (λ old. holders k p i (s.below_held i p old))
          (put_some t.below n b i e);
      held_below = λ p i e.
          ⊎_elim (λ new. back t.below i new.1 new.0) (λ old. belows k i p (s.held_below p i old))
          (put_some t.holder b n p e);
      holder_used = λ p i e.
          ⊎_elim (λ new. rw (← new.1) k.holder_used)
          (λ old. let (q, up) = s.holder_used p i old in (q, owners k i q up)) (put_some t.holder b n p e);
      held_used = λ p i e.
          ⊎_elim (λ new. rw new.0 k.held_used)
          (λ old. let (g, st) = s.held_used p i old in (g, starts k p g st)) (put_some t.holder b n p e);
      transition_range = s.transition_range;
      transition_owned = λ i x a e.
          let (p, here, there) = s.transition_owned i x a e in
          (p, owners k i p here, owners k a.target p there);
      hold_range = s.hold_range;
      hold_used = λ i e. let (p, own) = s.hold_used i e in (p, owners k i p own);
      hold_start = λ p i e.
          ⊎_elim (λ new. rw (← new.1) (unused_hold t s f k.node_new)) (s.hold_start p i) (put_some t.start m f p e);
      leave_range = s.leave_range;
      leave_used = λ p e. s.leave_used p (put_none t.start m f p e);
      leave_root = none_spent;
      climbs = climbs;
    }
  where
    back : (g : ℕ → Option ℕ) {i j : ℕ} (v : ℕ) {w : ℕ} → j ≡ v → w ≡ i → put g j (some i) v ≡ some w
    back g {i} {j} v {w} same equal = put_here g j (some i) v (sym same) ∙ ap {B = Option ℕ} some (sym equal)

-- a new machine below a plain node that is not at the lowest level
pub refine_sound : {t : Tree} → Sound t → {n m f : ℕ} → TakenRefine t n m f → Sound (edited t (refine n m f))
unfolding edited
refine_sound {t} s {n} {m} {f} k =
    let (r, root) = s.root_used in
    let (q, up) = k.node_used in
    let u : Tree = grafted t t.root m f m n in
    let g : Graft t m f m n = record {
      machine_range = k.machine_range;
      node_range = k.first_range;
      machine_new = k.machine_new;
      node_new = k.first_new;
      plain = k.node_plain;
      free = unused_holder t s m k.machine_new;
      holder_used = (q, put_kept t.owner f (some m) k.first_new up);
      held_used = (f, put_same t.start m (some f));
    } in
    grafted_sound s t.root g (r, starts g t.root r root)
    (put_other t.holder m (some n) t.root (λ same. none_some k.machine_new (rw same at root)) ∙ s.root_free) s.leave_root
    (λ p i e.
    ⊎_elim
    (λ new. climbs_under s u refl (holders g) (owners g) p n q up k.not_lowest (put_here t.holder m (some n) p new.0))
    (climbs_kept s u refl (holders g) (owners g) p i) (put_some t.start m f p e))

-- a new root above the old one, if no node was at the lowest level
pub crown_sound : {t : Tree} → Sound t → {m n : ℕ} → TakenCrown t m n → Sound (edited t (crown m n))
unfolding edited
crown_sound {t} s {m} {n} k =
    let (r, root) = s.root_used in
    let own : put t.owner n (some m) n ≡ some m = put_same t.owner n (some m) in
    let g : Graft t m n t.root n = record {
      machine_range = k.machine_range;
      node_range = k.node_range;
      machine_new = k.machine_new;
      node_new = k.node_new;
      plain = unused_below t s n k.node_new;
      free = s.root_free;
      holder_used = (m, own);
      held_used = (r, put_kept t.start m (some n) k.machine_new root);
    } in
    let base : Deep (grafted t m m n t.root n) t.root 1 =
    under {h = n} (put_same t.holder t.root (some n)) own (at_root refl) in
    grafted_sound s m g (n, put_same t.start m (some n))
    (put_other t.holder t.root (some n) m (λ same. none_some k.machine_new (rw (← same) at root))
    ∙ unused_holder t s m k.machine_new) (s.leave_used m k.machine_new)
    (λ p i e.
    ⊎_elim (λ new. (0, omega arith, deep_climbs {t = grafted t m m n t.root n} (at_root new.0)))
    (climbs_onto s base (holders g) (owners g) room p i) (put_some t.start m n p e))
  where
    room : (p i d : ℕ) → t.start p ≡ some i → Deep t p d → d + 1 < levels
    room p i d used way =
        let own : t.owner i ≡ some p = s.start_owned p i used in
        let other : suc d ≡ levels → ⊥ = λ e. k.none_lowest i p (s.node_range i p own) own (level_deep s own way ∙ e) in
        omega (arith, deep_small s used way)

-- ---- remove

-- a machine with a node that is not within n is not held within n
kept_up : {t : Tree} → Sound t → (n : ℕ) {d m : ℕ} → t.owner d ≡ some m → within t n d ≡ false → held_within t n m ≡ false
kept_up {t} s n {d} {m} own off =
    ⊎_elim (λ free. rw free) (λ h. rw h.1 (second_off (eqb n d) (sym (within_up s n own h.1) ∙ off))) (present (t.holder m))

-- and the other way, but for n itself
pub kept_down : {t : Tree} → Sound t → (n : ℕ) {d m : ℕ} → t.owner d ≡ some m → (n ≡ d → ⊥) → held_within t n m ≡ false → within t n d ≡ false
kept_down {t} s n {d} {m} own other off =
    ⊎_elim (λ free. within_top t n own free ∙ ne_eqb n d other)
    (λ h. within_up s n own h.1 ∙ rw (ne_eqb n d other) (rw h.1 at off)) (present (t.holder m))

-- a machine that is not held within n is as deep as before
deep_left : {t : Tree} → Sound t → (n : ℕ) {m k : ℕ} → Deep t m k → held_within t n m ≡ false → Deep (without t n) m k
unfolding without
deep_left s n (at_root e) off = at_root e
deep_left {t} s n (under {h = h} held up way) off =
    let stays : within t n h ≡ false = rw held at off in
    under {h = h} (unless_kept off held) (unless_kept stays up) (deep_left s n way (kept_up s n up stays))

-- what is left of a hold, and of a leaving cost
left_range : (b : Bool) {h k : ℕ} → h < k → cond b 0 h < k
left_range true small = omega arith
left_range false small = small

left_unused : (b : Bool) {o : Option ℕ} {h : ℕ} → (o ≡ none → h ≡ 0) → unless b o ≡ none → cond b 0 h ≡ 0
left_unused true f e = refl
left_unused false f e = f e

left_one : (b : Bool) {h : ℕ} → cond b 0 h ≡ 1 → (b ≡ false) × (h ≡ 1)
left_one true e = absurd (omega arith)
left_one false e = (refl, e)

left_zero : (b : Bool) {h : ℕ} → h ≡ 0 → cond b 0 h ≡ 0
left_zero true e = refl
left_zero false e = e

-- the tree without a node that is not a start node
pub remove_sound : {t : Tree} → Sound t → {n : ℕ} → TakenRemove t n → Sound (edited t (remove n))
unfolding edited without
remove_sound {t} s {n} k =
    let free : held_within t n t.root ≡ false = rw s.root_free in
    record {
      root_used = let (f, used) = s.root_used in (f, unless_kept free used);
      root_free = rw s.root_free;
      machine_range = λ p f e. let (off, used) = machine p f e in s.machine_range p f used;
      node_range = λ i p e. let (off, own) = node i p e in s.node_range i p own;
      owner_used = λ i p e.
          let (off, own) = node i p e in
          let (f, used) = s.owner_used i p own in
          (f, unless_kept (kept_up s n own off) used);
      start_owned = λ p f e.
          let (off, used) = machine p f e in
          let own : t.owner f ≡ some p = s.start_owned p f used in
          let other : n ≡ f → ⊥ = λ same. k.no_start p (rw same own) (rw same used) in
          unless_kept (kept_down s n own other off) own;
      below_held = λ i p e.
          let (off, down) = unless_some (within t n i) (t.below i) e in
          let held : t.holder p ≡ some i = s.below_held i p down in
          let stays : held_within t n p ≡ false = rw held off in
          unless_kept stays held;
      held_below = λ p i e. let (off, held) = holder p i e in unless_kept (rw held at off) (s.held_below p i held);
      holder_used = λ p i e.
          let (off, held) = holder p i e in
          let (q, up) = s.holder_used p i held in
          (q, unless_kept (rw held at off) up);
      held_used = λ p i e.
          let (off, held) = holder p i e in
          let (f, used) = s.held_used p i held in
          (f, unless_kept off used);
      transition_range = λ i x a e. let (off, other, has) = transition i x a e in s.transition_range i x a has;
      transition_owned = λ i x a e.
          let (off, other, has) = transition i x a e in
          let (p, here, there) = s.transition_owned i x a has in
          (p, unless_kept off here, unless_kept (kept_down s n there other (kept_up s n here off)) there);
      hold_range = λ i. left_range (within t n i) (s.hold_range i);
      hold_used = λ i e.
          let (off, one) = left_one (within t n i) e in
          let (p, own) = s.hold_used i one in
          (p, unless_kept off own);
      hold_start = λ p f e. let (off, used) = machine p f e in left_zero (within t n f) (s.hold_start p f used);
      leave_range = λ p. left_range (held_within t n p) (s.leave_range p);
      leave_used = λ p e. left_unused (held_within t n p) (s.leave_used p) e;
      leave_root = left_zero (held_within t n t.root) s.leave_root;
      climbs = λ p f e.
          let (off, used) = machine p f e in
          let (j, small, way) = deep s used in
          (j, small, deep_climbs (deep_left s n way off));
    }
  where
    machine : (p f : ℕ) → (without t n).start p ≡ some f → (held_within t n p ≡ false) × (t.start p ≡ some f)
    machine p f e = unless_some (held_within t n p) (t.start p) e

    holder : (p i : ℕ) → (without t n).holder p ≡ some i → (held_within t n p ≡ false) × (t.holder p ≡ some i)
    holder p i e = unless_some (held_within t n p) (t.holder p) e

    node : (i p : ℕ) → (without t n).owner i ≡ some p → (within t n i ≡ false) × (t.owner i ≡ some p)
    node i p e = unless_some (within t n i) (t.owner i) e

    transition : (i x : ℕ) (a : Transition) → (without t n).transition i x ≡ some a
        → (within t n i ≡ false) × (n ≡ a.target → ⊥) × (t.transition i x ≡ some a)
    transition i x a e =
        let (off, rest) = unless_some (within t n i) (t.transition i x >>= λ b. unless (eqb b.target n) (some b)) e in
        let (b, has, left) = bind_some (t.transition i x) (λ b. unless (eqb b.target n) (some b)) rest in
        let (other, same) = unless_some (eqb b.target n) (some b) left in
        let equal : b ≡ a = cc in
        (off, λ into. eqb-false b.target n other (ap (λ (c : Transition). c.target) equal ∙ sym into), has ∙ same)

-- ---- arrow and clear

-- the tree with another transition of a node, or with none
transition_sound : {t : Tree} → Sound t → (n x : ℕ) (o : Option Transition)
    → ((a : Transition) → o ≡ some a → (x < commands) × (a.cost < costs))
    → ((a : Transition) → o ≡ some a → (m : ℕ) × (t.owner n ≡ some m) × (t.owner a.target ≡ some m))
    → Sound (with_transition t n x o)
unfolding with_transition
transition_sound {t} s n x o range owned =
    record {
      root_used = s.root_used;
      root_free = s.root_free;
      machine_range = s.machine_range;
      node_range = s.node_range;
      owner_used = s.owner_used;
      start_owned = s.start_owned;
      below_held = s.below_held;
      held_below = s.held_below;
      holder_used = s.holder_used;
      held_used = s.held_used;
      transition_range = λ i y a e. ⊎_elim (λ new. rw new.1 (range a new.2)) (s.transition_range i y a) (cases i y a e);
      transition_owned = λ i y a e. ⊎_elim (λ new. rw new.0 (owned a new.2)) (s.transition_owned i y a) (cases i y a e);
      hold_range = s.hold_range;
      hold_used = s.hold_used;
      hold_start = s.hold_start;
      leave_range = s.leave_range;
      leave_used = s.leave_used;
      leave_root = s.leave_root;
      climbs = climbs_kept s (with_transition t n x o) refl (λ m h e. e) (λ i m e. e);
    }
  where
    cases : (i y : ℕ) (a : Transition) → (with_transition t n x o).transition i y ≡ some a
        → ((i ≡ n) × (y ≡ x) × (o ≡ some a)) ⊎ (t.transition i y ≡ some a)
    cases i y a e =
        ⊎_elim
        (λ here.
        let at : put (t.transition n) x o y ≡ some a =
        sym (ap (λ (f : ℕ → Option Transition). f y) (put_here t.transition n (put (t.transition n) x o) i here)) ∙ e in
        ⊎_elim (λ same. inl (here, same, sym (put_here (t.transition n) x o y same) ∙ at))
        (λ other. inr (rw here (sym (put_other (t.transition n) x o y other) ∙ at))) (equal_or_not y x))
        (λ away. inr (sym (ap (λ (f : ℕ → Option Transition). f y) (put_other t.transition n (put (t.transition n) x o) i away)) ∙ e))
        (equal_or_not i n)

-- a transition between two nodes of a machine
pub arrow_sound : {t : Tree} → Sound t → {n x v : ℕ} → TakenArrow t n x v → {c : ℕ} → c < costs → Sound (edited t (arrow n x v c))
unfolding edited
arrow_sound {t} s {n} {x} {v} k {c} small =
    let b : Transition = record { target = v; cost = c } in
    transition_sound s n x (some b)
    (λ a e. subst (λ (d : Transition). (x < commands) × (d.cost < costs)) (some_same refl e) (k.command_range, small))
    (λ a e.
    subst (λ (d : Transition). (m : ℕ) × (t.owner n ≡ some m) × (t.owner d.target ≡ some m)) (some_same refl e) k.one_machine)

-- one transition less
pub clear_sound : {t : Tree} → Sound t → (n x : ℕ) → Sound (edited t (clear n x))
unfolding edited
clear_sound s n x = transition_sound s n x none (λ a e. absurd (none_some refl e)) (λ a e. absurd (none_some refl e))

-- ---- start

-- the tree with another start node of a machine
restarted_sound : {t : Tree} → Sound t → {n m : ℕ} → t.owner n ≡ some m → t.hold n ≡ 0 → Sound (with_start_of t m (some n))
restarted_sound {t} s {n} {m} own free =
    record {
      root_used = let (f, used) = s.root_used in put_still t.start m n t.root used;
      root_free = s.root_free;
      machine_range = λ p f e. let (g, used) = was p f e in s.machine_range p g used;
      node_range = s.node_range;
      owner_used = λ i p e. let (f, used) = s.owner_used i p e in put_still t.start m n p used;
      start_owned = λ p f e. ⊎_elim (λ new. rw (new.0, ← new.1) own) (s.start_owned p f) (put_some t.start m n p e);
      below_held = s.below_held;
      held_below = s.held_below;
      holder_used = s.holder_used;
      held_used = λ p i e. let (f, used) = s.held_used p i e in put_still t.start m n p used;
      transition_range = s.transition_range;
      transition_owned = s.transition_owned;
      hold_range = s.hold_range;
      hold_used = s.hold_used;
      hold_start = λ p f e. ⊎_elim (λ new. rw (← new.1) free) (s.hold_start p f) (put_some t.start m n p e);
      leave_range = s.leave_range;
      leave_used = λ p e. s.leave_used p (put_none t.start m n p e);
      leave_root = s.leave_root;
      climbs = λ p f e. let (g, used) = was p f e in climbs_kept s (with_start_of t m (some n)) refl (λ q h a. a) (λ i q a. a) p g used;
    }
  where
    was : (p f : ℕ) → put t.start m (some n) p ≡ some f → (g : ℕ) × (t.start p ≡ some g)
    was p f e = ⊎_elim (λ new. rw new.0 (s.owner_used n m own)) (λ old. (f, old)) (put_some t.start m n p e)

-- a node in use becomes the start of its machine
pub start_sound : {t : Tree} → Sound t → {n : ℕ} → TakenStart t n → Sound (edited t (start n))
unfolding edited with_start
start_sound {t} s {n} k = let (m, own) = k.node_used in rw own (restarted_sound s own (hold_zero t s n k.not_on_hold))

-- ---- hold

-- the tree with another hold of a node
pub hold_sound : {t : Tree} → Sound t → {n b : ℕ} → TakenHold t n b → Sound (edited t (hold n b))
unfolding edited
hold_sound {t} s {n} {b} k =
    record {
      root_used = s.root_used;
      root_free = s.root_free;
      machine_range = s.machine_range;
      node_range = s.node_range;
      owner_used = s.owner_used;
      start_owned = s.start_owned;
      below_held = s.below_held;
      held_below = s.held_below;
      holder_used = s.holder_used;
      held_used = s.held_used;
      transition_range = s.transition_range;
      transition_owned = s.transition_owned;
      hold_range = λ i.
          ⊎_elim (λ here. rw (put_here t.hold n b i here) k.hold_range) (λ away. rw (put_other t.hold n b i away) (s.hold_range i))
          (equal_or_not i n);
      hold_used = λ i e.
          ⊎_elim (λ here. rw here k.node_used) (λ away. s.hold_used i (sym (put_other t.hold n b i away) ∙ e)) (equal_or_not i n);
      hold_start = λ p f e.
          ⊎_elim
          (λ here.
          let other : b ≡ 1 → ⊥ = λ one. k.no_start one p (rw here at (s.start_owned p f e)) (rw here at e) in
          put_here t.hold n b f here ∙ omega (arith, k.hold_range))
          (λ away. put_other t.hold n b f away ∙ s.hold_start p f e) (equal_or_not f n);
      leave_range = s.leave_range;
      leave_used = s.leave_used;
      leave_root = s.leave_root;
      climbs = climbs_kept s (edited t (hold n b)) refl (λ m h e. e) (λ i m e. e);
    }

-- ---- leave

-- the tree where leaving a machine that is not the root costs something else
pub leave_sound : {t : Tree} → Sound t → {m : ℕ} → TakenLeave t m → {c : ℕ} → c < costs → Sound (edited t (leave m c))
unfolding edited
leave_sound {t} s {m} k {c} small =
    record {
      root_used = s.root_used;
      root_free = s.root_free;
      machine_range = s.machine_range;
      node_range = s.node_range;
      owner_used = s.owner_used;
      start_owned = s.start_owned;
      below_held = s.below_held;
      held_below = s.held_below;
      holder_used = s.holder_used;
      held_used = s.held_used;
      transition_range = s.transition_range;
      transition_owned = s.transition_owned;
      hold_range = s.hold_range;
      hold_used = s.hold_used;
      hold_start = s.hold_start;
      leave_range = λ p.
          ⊎_elim (λ here. rw (put_here t.leave m c p here) small) (λ away. rw (put_other t.leave m c p away) (s.leave_range p))
          (equal_or_not p m);
      leave_used = λ p e.
          ⊎_elim (λ here. absurd (none_some (rw here at e) k.machine_used.1)) (λ away. put_other t.leave m c p away ∙ s.leave_used p e)
          (equal_or_not p m);
      leave_root = put_other t.leave m c t.root (λ same. k.not_root (sym same)) ∙ s.leave_root;
      climbs = climbs_kept s (edited t (leave m c)) refl (λ p h e. e) (λ i p e. e);
    }

-- ---- all edits

-- the cost that an arrow or a leaving cost brings is less than 65,536
abbrev pub CostInRange : Edit → Type 0
CostInRange (begin m n) = Unit
CostInRange (add m n) = Unit
CostInRange (refine n m f) = Unit
CostInRange (remove n) = Unit
CostInRange (arrow n x v c) = c < costs
CostInRange (clear n x) = Unit
CostInRange (start n) = Unit
CostInRange (crown m n) = Unit
CostInRange (hold n b) = Unit
CostInRange (leave m c) = c < costs

-- an edit that is taken leaves a sound tree sound
pub edited_sound : {t : Tree} → Sound t → (e : Edit) → CostInRange e → refusal t (edit e) ≡ 0 → Sound (edited t e)
edited_sound {t} s (begin m n) range ok = begin_sound t (taken_begin t m n ok)
edited_sound {t} s (add m n) range ok = add_sound s (taken_add t m n ok)
edited_sound {t} s (refine n m f) range ok = refine_sound s (taken_refine t n m f ok)
edited_sound {t} s (remove n) range ok = remove_sound s (taken_remove t n ok)
edited_sound {t} s (arrow n x v c) range ok = arrow_sound s (taken_arrow t n x v c ok) range
edited_sound {t} s (clear n x) range ok = clear_sound s n x
edited_sound {t} s (start n) range ok = start_sound s (taken_start t n ok)
edited_sound {t} s (crown m n) range ok = crown_sound s (taken_crown t m n ok)
edited_sound {t} s (hold n b) range ok = hold_sound s (taken_hold t n b ok)
edited_sound {t} s (leave m c) range ok = leave_sound s (taken_leave t m c ok) range

-- a hold and its release give back the tree
pub hold_released : HoldReleased
unfolding edited
hold_released t n s off ok =
    let k = taken_hold t n 1 ok in
    let free : refusal (with_node_hold t n 1) (edit (hold n 0)) ≡ 0 =
    hold_taken (record {
      node_range = k.node_range;
      hold_range = omega arith;
      node_used = k.node_used;
      no_start = λ one. absurd (omega (arith, one));
    }) in (
      free,
      same_tree _ t refl (λ i. refl) (λ i. refl) (λ i. refl) (λ i. refl) (λ i x. refl)
          (λ i.
          ⊎_elim (λ same. rw same (put_same (put t.hold n 1) n 0 ∙ sym (hold_zero t s n off)))
          (λ other. put_other (put t.hold n 1) n 0 i other ∙ put_other t.hold n 1 i other) (equal_or_not i n))
          (λ p. refl),
    )

-- ---- streams of bytes

-- the cost that a command brings is less than 65,536
abbrev pub CommandInRange : Command → Type 0
CommandInRange (edit e) = CostInRange e
CommandInRange refresh = Unit

-- a command that is taken leaves a sound tree sound
pub command_sound : {t : Tree} → Sound t → (c : Command) → CommandInRange c → refusal t c ≡ 0 → Sound (tree_after t c)
command_sound s (edit e) range ok = edited_sound s e range ok
command_sound s refresh range ok = s

-- what holds of two values holds of either
either_way : {A : Type 0} (P : A → Type 0) (b : Bool) {x y : A} → P x → P y → P (cond b x y)
either_way P true p q = p
either_way P false p q = q

-- a byte of a list of bytes is under 256
byte_small : (bytes : List ℕ) → Bytes bytes → (i : ℕ) → byte_at bytes i < 256
byte_small [] h i = omega arith
byte_small (b ∷ rest) h zero = h.0
byte_small (b ∷ rest) h (suc i) = byte_small rest h.1 i

-- and two of them under 65,536
pair_small : (bytes : List ℕ) → Bytes bytes → (i : ℕ) → pair_at bytes i < 65536
pair_small bytes h i =
    let high = byte_small bytes h i in
    let low = byte_small bytes h (suc i) in
    omega arith

-- a command whose operands are bytes brings a cost in range
abbrev pub DecodedInRange : Option Command → Type 0
DecodedInRange none = Unit
DecodedInRange (some c) = CommandInRange c

pub decode_range : (op : ℕ) (bytes : List ℕ) → Bytes bytes → DecodedInRange (decode op bytes)
unfolding decode
decode_range op bytes h =
    let W = DecodedInRange in
    either_way W (eqb op 0x10) tt
    (either_way W (eqb op 0x11) tt
    (either_way W (eqb op 0x12) tt
    (either_way W (eqb op 0x13) tt
    (either_way W (eqb op 0x14) (pair_small bytes h 5)
    (either_way W (eqb op 0x15) tt
    (either_way W (eqb op 0x16) tt
    (either_way W (eqb op 0x17) tt
    (either_way W (eqb op 0x18) tt (either_way W (eqb op 0x1A) tt (either_way W (eqb op 0x1B) (pair_small bytes h 1) tt))))))))))

-- the rest of a list of bytes is one
pub drop_bytes : (size : ℕ) (bytes : List ℕ) → Bytes bytes → Bytes (drop size bytes)
drop_bytes zero bytes h = h
drop_bytes (suc n) [] h = h
drop_bytes (suc n) (b ∷ rest) h = drop_bytes n rest h.1

-- what stands next in a list of bytes brings a cost in range
pub next_range : (t : Tree) (bytes : List ℕ) {c : Command} {size : ℕ} → Bytes bytes → next t bytes ≡ taken c size → CommandInRange c
next_range t bytes h e =
    let r = read_taken bytes (next_taken t bytes e).0 in
    rw r.command at (decode_range r.opcode r.rest (rw r.split at h).1)

-- a stream of bytes leaves a sound tree sound
pub load_sound : {t : Tree} → Sound t → (bytes : List ℕ) → Bytes bytes → Sound (load t bytes).tree
load_sound {t} s bytes h =
    load_induction (λ t bytes o. Sound t → Bytes bytes → Sound o.tree) (λ t s h. s) (λ t bytes k e s h. s)
    (λ t bytes c size o e rest s h.
    rest (command_sound s c (next_range t bytes h e) (next_taken t bytes e).1) (drop_bytes size bytes h))
    t bytes s h

-- and so does a list of streams
pub expected_sound : {t : Tree} → Sound t → (streams : List (List ℕ)) → All Bytes streams → Sound (expected t streams)
unfolding expected
expected_sound {t = t} s [] h = s
expected_sound {t = t} s (bytes ∷ rest) h = expected_sound {t = (load t bytes).tree} (load_sound s bytes h.0) rest h.1
