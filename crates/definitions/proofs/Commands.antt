-- What each command of a stream means: when it is taken, and every field of the tree and of the rows at every number after it,
-- from those before it. The statements do not use the terms by which the edits are defined: of a tree they know its fields, and
-- `over` and `within`, which `over_climbs` and `within_climbs` put as climbs. Assumes nothing.
use mathlib.Core.Path.{◌≡◌, refl, sym, ◌∙◌, ap, subst}
use mathlib.Core.Logic.{◌⊎◌, inl, inr, ⊎_elim}
use mathlib.Core.Bool.{Bool, true, false, not, ◌&&◌, ◌||◌, or-true, or-false}
use mathlib.Core.Option.{Option, none, some}
use mathlib.Core.List.{[], List, ◌∷◌}
use Prim.Native.Nat.{ℕ, zero, suc, ◌≤◌, ◌<◌}
use native.Mathlib.Omega.{arith}
use lib.Dec.{eqb, ltb}
use borrow.Author.Tests.{ltb-true, lt-ltb, eqb-true, eqb-false, eq-eqb, ne_eqb, not-false}
use Rattle.definitions.specs.Basics.{◌>>=◌, option, unless, is_some, is_at, put, iterate, any_of, any_below}
use Rattle.definitions.specs.Limits.{machines, nodes, commands, levels}
use Rattle.definitions.specs.Tree.{Tree, Transition, Sound, on_hold, parent, above, level, path_f, path, within, over}
use Rattle.definitions.specs.Sheet.{Rows}
use Rattle.definitions.specs.Truth.{BlankRule, TrueMachine}
use Rattle.definitions.specs.Stream.{Edit, Command, edit, refresh}
use Rattle.definitions.specs.Edit.{Test, ◌when◌, first_holding, lowest, apart, is_start, refusals, refusal, edited, touches, with_stale, edited_rows, tree_after, RowsAfter, single, held_within, without, with_transition, with_start, Refreshed}
use Rattle.definitions.proofs.Words.{unused_below, unused_hold, unused_transition, unused_holder}
use Rattle.definitions.proofs.Path.{Deep, at_root, under, deep, deep_unique, path_root, path_on}
use Rattle.definitions.proofs.Options.{present, none_some, some_same, decided, true_false, equal_or_not, put_same, put_other, is_some_true, is_some_false, is_at_true}

-- ---- when a command is taken: for each command the facts that this means, read off (taken-add) and the way back (add-taken)

-- the first test does not hold, and none of the others does
passed : (k : ℕ) (b : Bool) (rest : List Test) → first_holding ((suc k when b) ∷ rest) ≡ 0 → (b ≡ false) × (first_holding rest ≡ 0)
unfolding first_holding
passed k true rest e = absurd (omega arith)
passed k false rest e = (refl, e)

-- neither of two tests holds
pub neither : {a b : Bool} → (a || b) ≡ false → (a ≡ false) × (b ≡ false)
neither {a = true} e = absurd (true_false refl e)
neither {a = false} e = (refl, e)

-- a test that is not true is false
pub not_true_false : {b : Bool} → (b ≡ true → ⊥) → b ≡ false
not_true_false {b} h = ⊎_elim (λ holds. absurd (h holds)) (λ e. e) (decided b)

-- a number is in range
pub in_range : {k limit : ℕ} → not (ltb k limit) ≡ false → k < limit
in_range {k} {limit} e = ltb-true k limit (not-false (ltb k limit) e)

-- a value is there
is_there : {A : Type 0} {o : Option A} → not (is_some o) ≡ false → (a : A) × (o ≡ some a)
is_there {A} {o} e = is_some_true o (not-false (is_some o) e)

-- begin: its numbers are in range
pub record TakenBegin (m n : ℕ) : Type 0 where
  pub machine_range : m < machines
  pub node_range : n < nodes

pub taken_begin : (t : Tree) (m n : ℕ) → refusal t (edit (Edit.begin m n)) ≡ 0 → TakenBegin m n
unfolding refusal refusals
taken_begin t m n e =
    let (ranges, end) = passed 5 _ _ e in
    let (machine, node) = neither ranges in
    record { machine_range = in_range machine; node_range = in_range node }

pub begin_taken : (t : Tree) {m n : ℕ} → TakenBegin m n → refusal t (edit (Edit.begin m n)) ≡ 0
unfolding refusal refusals first_holding
begin_taken t {m} {n} k = rw (lt-ltb m machines k.machine_range, lt-ltb n nodes k.node_range)

-- add: a machine in use and a node that is not
pub record TakenAdd (t : Tree) (m n : ℕ) : Type 0 where
  pub machine_range : m < machines
  pub node_range : n < nodes
  pub machine_used : (s : ℕ) × (t.start m ≡ some s)
  pub node_new : t.owner n ≡ none

pub taken_add : (t : Tree) (m n : ℕ) → refusal t (edit (Edit.add m n)) ≡ 0 → TakenAdd t m n
unfolding refusal refusals
taken_add t m n e =
    let (ranges, e6) = passed 5 _ _ e in
    let (machine, node) = neither ranges in
    let (used, e7) = passed 6 _ _ e6 in
    let (new, end) = passed 7 _ _ e7 in
    record {
      machine_range = in_range machine;
      node_range = in_range node;
      machine_used = is_there used;
      node_new = is_some_false (t.owner n) new;
    }

pub add_taken : {t : Tree} {m n : ℕ} → TakenAdd t m n → refusal t (edit (Edit.add m n)) ≡ 0
unfolding refusal refusals first_holding
add_taken {t} {m} {n} k = rw (lt-ltb m machines k.machine_range, lt-ltb n nodes k.node_range, k.machine_used.1, k.node_new)

-- refine: a plain node in use, not at the lowest level, and a machine and a node that are not in use
pub record TakenRefine (t : Tree) (n m s : ℕ) : Type 0 where
  pub node_range : n < nodes
  pub machine_range : m < machines
  pub first_range : s < nodes
  pub node_used : (p : ℕ) × (t.owner n ≡ some p)
  pub machine_new : t.start m ≡ none
  pub first_new : t.owner s ≡ none
  pub node_plain : t.below n ≡ none
  pub not_lowest : level t n ≡ levels → ⊥

-- a node in use that is not the lowest is at another level
higher : (t : Tree) (n : ℕ) {p : ℕ} → t.owner n ≡ some p → lowest t n ≡ false → level t n ≡ levels → ⊥
higher t n own e = eqb-false (level t n) levels (rw own at e)

pub taken_refine : (t : Tree) (n m s : ℕ) → refusal t (edit (Edit.refine n m s)) ≡ 0 → TakenRefine t n m s
unfolding refusal refusals
taken_refine t n m s e =
    let (ranges, e6) = passed 5 _ _ e in
    let (numbers, first) = neither ranges in
    let (node, machine) = neither numbers in
    let (used, e7) = passed 6 _ _ e6 in
    let (new, e8) = passed 7 _ _ e7 in
    let (machine_new, first_new) = neither new in
    let (plain, e9) = passed 8 _ _ e8 in
    let (high, end) = passed 11 _ _ e9 in
    let own : (p : ℕ) × (t.owner n ≡ some p) = is_there used in
    record {
      node_range = in_range node;
      machine_range = in_range machine;
      first_range = in_range first;
      node_used = own;
      machine_new = is_some_false (t.start m) machine_new;
      first_new = is_some_false (t.owner s) first_new;
      node_plain = is_some_false (t.below n) plain;
      not_lowest = higher t n own.1 high;
    }

pub refine_taken : {t : Tree} {n m s : ℕ} → TakenRefine t n m s → refusal t (edit (Edit.refine n m s)) ≡ 0
unfolding refusal refusals first_holding
refine_taken {t} {n} {m} {s} k =
    rw (
      lt-ltb n nodes k.node_range,
      lt-ltb m machines k.machine_range,
      lt-ltb s nodes k.first_range,
      k.node_used.1,
      k.machine_new,
      k.first_new,
      k.node_plain,
      ne_eqb (level t n) levels k.not_lowest,
    )

-- remove: a node in use that is not the start node of its machine
pub record TakenRemove (t : Tree) (n : ℕ) : Type 0 where
  pub node_range : n < nodes
  pub node_used : (p : ℕ) × (t.owner n ≡ some p)
  pub no_start : (p : ℕ) → t.owner n ≡ some p → t.start p ≡ some n → ⊥

-- the test for a start node does not hold
not_start : (t : Tree) (n : ℕ) → is_start t n ≡ false → (p : ℕ) → t.owner n ≡ some p → t.start p ≡ some n → ⊥
not_start t n e p own st = eqb-false n n (rw (own, st) at e) refl

pub taken_remove : (t : Tree) (n : ℕ) → refusal t (edit (Edit.remove n)) ≡ 0 → TakenRemove t n
unfolding refusal refusals
taken_remove t n e =
    let (range, e6) = passed 5 _ _ e in
    let (used, e7) = passed 6 _ _ e6 in
    let (inner, end) = passed 9 _ _ e7 in
    record { node_range = in_range range; node_used = is_there used; no_start = not_start t n inner }

-- a node that is not the start of its machine fails the test
start_other : (t : Tree) (n p : ℕ) → t.owner n ≡ some p → (t.start p ≡ some n → ⊥) → is_start t n ≡ false
start_other t n p own other = rw own (not_true_false (λ e. other (is_at_true (t.start p) n e)))

pub remove_taken : {t : Tree} {n : ℕ} → TakenRemove t n → refusal t (edit (Edit.remove n)) ≡ 0
unfolding refusal refusals first_holding
remove_taken {t} {n} k =
    let (p, own) = k.node_used in
    rw (lt-ltb n nodes k.node_range, start_other t n p own (k.no_start p own), own)

-- arrow: two nodes of one machine, and a command
pub record TakenArrow (t : Tree) (n x v : ℕ) : Type 0 where
  pub node_range : n < nodes
  pub command_range : x < commands
  pub target_range : v < nodes
  pub one_machine : (p : ℕ) × (t.owner n ≡ some p) × (t.owner v ≡ some p)

-- the test for nodes of different machines does not hold
together : (t : Tree) (n v p : ℕ) → t.owner n ≡ some p → apart t n v ≡ false → t.owner v ≡ some p
together t n v p own e = is_at_true (t.owner v) p (not-false (is_at (t.owner v) p) (rw own at e))

pub taken_arrow : (t : Tree) (n x v c : ℕ) → refusal t (edit (Edit.arrow n x v c)) ≡ 0 → TakenArrow t n x v
unfolding refusal refusals
taken_arrow t n x v c e =
    let (ranges, e6) = passed 5 _ _ e in
    let (numbers, target) = neither ranges in
    let (node, command) = neither numbers in
    let (used, e7) = passed 6 _ _ e6 in
    let (node_used, target_used) = neither used in
    let (same, end) = passed 10 _ _ e7 in
    let (p, own) = is_there {o = t.owner n} node_used in
    record {
      node_range = in_range node;
      command_range = in_range command;
      target_range = in_range target;
      one_machine = (p, own, together t n v p own same);
    }

pub arrow_taken : {t : Tree} {n x v : ℕ} → TakenArrow t n x v → (c : ℕ) → refusal t (edit (Edit.arrow n x v c)) ≡ 0
unfolding refusal refusals first_holding
arrow_taken {t} {n} {x} {v} k c =
    let (p, own, own_v) = k.one_machine in
    rw (lt-ltb n nodes k.node_range, lt-ltb x commands k.command_range, lt-ltb v nodes k.target_range, own, own_v, eq-eqb p p refl)

-- clear: a node in use and a command
pub record TakenClear (t : Tree) (n x : ℕ) : Type 0 where
  pub node_range : n < nodes
  pub command_range : x < commands
  pub node_used : (p : ℕ) × (t.owner n ≡ some p)

pub taken_clear : (t : Tree) (n x : ℕ) → refusal t (edit (Edit.clear n x)) ≡ 0 → TakenClear t n x
unfolding refusal refusals
taken_clear t n x e =
    let (ranges, e6) = passed 5 _ _ e in
    let (node, command) = neither ranges in
    let (used, end) = passed 6 _ _ e6 in
    record { node_range = in_range node; command_range = in_range command; node_used = is_there used }

pub clear_taken : {t : Tree} {n x : ℕ} → TakenClear t n x → refusal t (edit (Edit.clear n x)) ≡ 0
unfolding refusal refusals first_holding
clear_taken {t} {n} {x} k = rw (lt-ltb n nodes k.node_range, lt-ltb x commands k.command_range, k.node_used.1)

-- start: a node in use that is not held
pub record TakenStart (t : Tree) (n : ℕ) : Type 0 where
  pub node_range : n < nodes
  pub node_used : (p : ℕ) × (t.owner n ≡ some p)
  pub not_on_hold : on_hold t n ≡ false

pub taken_start : (t : Tree) (n : ℕ) → refusal t (edit (Edit.start n)) ≡ 0 → TakenStart t n
unfolding refusal refusals
taken_start t n e =
    let (range, e6) = passed 5 _ _ e in
    let (used, e7) = passed 6 _ _ e6 in
    let (free, end) = passed 20 _ _ e7 in
    record { node_range = in_range range; node_used = is_there used; not_on_hold = free }

pub start_taken : {t : Tree} {n : ℕ} → TakenStart t n → refusal t (edit (Edit.start n)) ≡ 0
unfolding refusal refusals first_holding
start_taken {t} {n} k = rw (lt-ltb n nodes k.node_range, k.node_used.1, k.not_on_hold)

-- hold: a node in use and 1 or 0; for 1 the node is not the start node of its machine
pub record TakenHold (t : Tree) (n b : ℕ) : Type 0 where
  pub node_range : n < nodes
  pub hold_range : b < 2
  pub node_used : (p : ℕ) × (t.owner n ≡ some p)
  pub no_start : b ≡ 1 → (p : ℕ) → t.owner n ≡ some p → t.start p ≡ some n → ⊥

pub taken_hold : (t : Tree) (n b : ℕ) → refusal t (edit (Edit.hold n b)) ≡ 0 → TakenHold t n b
unfolding refusal refusals
taken_hold t n b e =
    let (ranges, e6) = passed 5 _ _ e in
    let (node, byte) = neither ranges in
    let (used, e7) = passed 6 _ _ e6 in
    let (inner, end) = passed 20 _ _ e7 in
    record {
      node_range = in_range node;
      hold_range = in_range byte;
      node_used = is_there used;
      no_start = λ one. not_start t n (rw (eq-eqb b 1 one) at inner);
    }

pub hold_taken : {t : Tree} {n b : ℕ} → TakenHold t n b → refusal t (edit (Edit.hold n b)) ≡ 0
unfolding refusal refusals first_holding
hold_taken {t} {n} {b} k =
    let (p, own) = k.node_used in
    ⊎_elim
    (λ one. rw (lt-ltb n nodes k.node_range, lt-ltb b 2 k.hold_range, start_other t n p own (k.no_start one p own), own, eq-eqb b 1 one))
    (λ other. rw (lt-ltb n nodes k.node_range, lt-ltb b 2 k.hold_range, own, ne_eqb b 1 other)) (equal_or_not b 1)

-- leave: a machine in use that is not the root
pub record TakenLeave (t : Tree) (m : ℕ) : Type 0 where
  pub machine_range : m < machines
  pub not_root : m ≡ t.root → ⊥
  pub machine_used : (s : ℕ) × (t.start m ≡ some s)

pub taken_leave : (t : Tree) (m c : ℕ) → refusal t (edit (Edit.leave m c)) ≡ 0 → TakenLeave t m
unfolding refusal refusals
taken_leave t m c e =
    let (ranges, e6) = passed 5 _ _ e in
    let (machine, other) = neither ranges in
    let (used, end) = passed 6 _ _ e6 in
    record { machine_range = in_range machine; not_root = eqb-false m t.root other; machine_used = is_there used }

pub leave_taken : {t : Tree} {m : ℕ} (c : ℕ) → TakenLeave t m → refusal t (edit (Edit.leave m c)) ≡ 0
unfolding refusal refusals first_holding
leave_taken {t} {m} c k = rw (lt-ltb m machines k.machine_range, ne_eqb m t.root k.not_root, k.machine_used.1)

-- crown: a machine and a node that are not in use, and no node at the lowest level
pub record TakenCrown (t : Tree) (m n : ℕ) : Type 0 where
  pub machine_range : m < machines
  pub node_range : n < nodes
  pub machine_new : t.start m ≡ none
  pub node_new : t.owner n ≡ none
  pub none_lowest : (k p : ℕ) → k < nodes → t.owner k ≡ some p → level t k ≡ levels → ⊥

-- no number under the limit passes the test
pub none_below : (k : ℕ) (p : ℕ → Bool) → any_below k p ≡ false → (n : ℕ) → n < k → p n ≡ false
unfolding any_below
none_below zero p e n small = absurd (omega arith)
none_below (suc k) p e n small =
    let (here, rest) = neither e in
    ⊎_elim (λ same. subst (λ (i : ℕ). p i ≡ false) (sym same) here) (λ other. none_below k p rest n (omega arith)) (equal_or_not n k)

pub taken_crown : (t : Tree) (m n : ℕ) → refusal t (edit (Edit.crown m n)) ≡ 0 → TakenCrown t m n
unfolding refusal refusals
taken_crown t m n e =
    let (ranges, e6) = passed 5 _ _ e in
    let (machine, node) = neither ranges in
    let (new, e8) = passed 7 _ _ e6 in
    let (machine_new, node_new) = neither new in
    let (high, end) = passed 11 _ _ e8 in
    record {
      machine_range = in_range machine;
      node_range = in_range node;
      machine_new = is_some_false (t.start m) machine_new;
      node_new = is_some_false (t.owner n) node_new;
      none_lowest = λ k p small own. higher t k own (none_below nodes (lowest t) high k small);
    }

-- where no number under the limit passes the test, none is found
pub below_none : (k : ℕ) (p : ℕ → Bool) → ((n : ℕ) → n < k → p n ≡ false) → any_below k p ≡ false
unfolding any_below
below_none zero p off = refl
below_none (suc k) p off = rw (off k (omega arith)) (below_none k p (λ n small. off n (omega arith)))

-- a node in use at another level fails the test
not_lowest_test : (t : Tree) (k : ℕ) → ((p : ℕ) → t.owner k ≡ some p → level t k ≡ levels → ⊥) → lowest t k ≡ false
not_lowest_test t k other =
    ⊎_elim (λ unused. rw unused) (λ h. rw h.1 (ne_eqb (level t k) levels (other h.0 h.1))) (present (t.owner k))

pub crown_taken : {t : Tree} {m n : ℕ} → TakenCrown t m n → refusal t (edit (Edit.crown m n)) ≡ 0
unfolding refusal refusals first_holding
crown_taken {t} {m} {n} k =
    rw (
      lt-ltb m machines k.machine_range,
      lt-ltb n nodes k.node_range,
      k.machine_new,
      k.node_new,
      below_none nodes (lowest t) (λ i small. not_lowest_test t i (λ p own. k.none_lowest i p small own)),
    )

-- refresh is always taken
pub taken_refresh : (t : Tree) → refusal t refresh ≡ 0
unfolding refusal
taken_refresh t = refl

-- ---- the rows after a command

-- the same at every number
abbrev pub Same : {A : Type 0} → (ℕ → A) → (ℕ → A) → Type 0
Same f g = (k : ℕ) → g k ≡ f k

-- the same at every two numbers
abbrev pub SameBoth : {A : Type 0} → (ℕ → ℕ → A) → (ℕ → ℕ → A) → Type 0
SameBoth f g = (k x : ℕ) → g k x ≡ f k x

-- v at k, and the same at every other number
pub record Changed {A : Type 0} (f : ℕ → A) (k : ℕ) (v : A) (g : ℕ → A) : Type 0 where
  pub here : g k ≡ v
  pub elsewhere : (i : ℕ) → (i ≡ k → ⊥) → g i ≡ f i

-- The rows q after a command that leaves tree u, from the rows r before it. The machines that the command touches are marked and
-- blanked, with their nodes. The machines and nodes that fall out of use by it are blank and not marked. All else stays.
pub record RowsLeft (u : Tree) (Touched GoneMachine GoneNode : ℕ → Type 0) (r q : Rows) : Type 0 where
  pub touched_mark : (p : ℕ) → Touched p → q.stale p ≡ true
  pub touched_exit : (p x : ℕ) → Touched p → q.exit p x ≡ none
  pub touched_last : (p x : ℕ) → Touched p → q.last p x ≡ none
  pub touched_cost : (k p : ℕ) → u.owner k ≡ some p → Touched p → q.cost k ≡ none
  pub touched_before : (k p : ℕ) → u.owner k ≡ some p → Touched p → q.before k ≡ none
  pub touched_by : (k p : ℕ) → u.owner k ≡ some p → Touched p → q.by k ≡ none
  pub gone_mark : (p : ℕ) → GoneMachine p → q.stale p ≡ false
  pub gone_exit : (p x : ℕ) → GoneMachine p → q.exit p x ≡ none
  pub gone_last : (p x : ℕ) → GoneMachine p → q.last p x ≡ none
  pub gone_cost : (k : ℕ) → GoneNode k → q.cost k ≡ none
  pub gone_before : (k : ℕ) → GoneNode k → q.before k ≡ none
  pub gone_by : (k : ℕ) → GoneNode k → q.by k ≡ none
  pub kept_mark : (p : ℕ) → (Touched p → ⊥) → (GoneMachine p → ⊥) → q.stale p ≡ r.stale p
  pub kept_exit : (p x : ℕ) → x < commands → (Touched p → ⊥) → (GoneMachine p → ⊥) → q.exit p x ≡ r.exit p x
  pub kept_last : (p x : ℕ) → x < commands → (Touched p → ⊥) → (GoneMachine p → ⊥) → q.last p x ≡ r.last p x
  pub kept_cost : (k : ℕ) → ((p : ℕ) → u.owner k ≡ some p → Touched p → ⊥) → (GoneNode k → ⊥) → q.cost k ≡ r.cost k
  pub kept_before : (k : ℕ) → ((p : ℕ) → u.owner k ≡ some p → Touched p → ⊥) → (GoneNode k → ⊥) → q.before k ≡ r.before k
  pub kept_by : (k : ℕ) → ((p : ℕ) → u.owner k ≡ some p → Touched p → ⊥) → (GoneNode k → ⊥) → q.by k ≡ r.by k

-- no machine and no node falls out of use
abbrev pub NoneGone : ℕ → Type 0
NoneGone k = ⊥

-- what is touched, and what falls out of use, said of the tree t before and the tree u after a command
record Fits (t u : Tree) (touched : ℕ → Bool) (Touched GoneMachine GoneNode : ℕ → Type 0) : Type 0 where
  test_true : (p : ℕ) → Touched p → touched p ≡ true
  test_false : (p : ℕ) → (Touched p → ⊥) → touched p ≡ false
  touched_used : (p : ℕ) → Touched p → (s : ℕ) × (u.start p ≡ some s)
  machine_gone : (p : ℕ) → GoneMachine p → u.start p ≡ none
  machine_kept : (p : ℕ) → (GoneMachine p → ⊥) → u.start p ≡ none → t.start p ≡ none
  node_gone : (k : ℕ) → GoneNode k → u.owner k ≡ none
  node_kept : (k : ℕ) → (GoneNode k → ⊥) → u.owner k ≡ none → t.owner k ≡ none

-- the mark, and a value in the row, of a machine that is not touched, o being its start node
mark_stays : (o : Option ℕ) {touched mark : Bool} → touched ≡ false → (o ≡ none → mark ≡ false) → (is_some o && (touched || mark)) ≡ mark
mark_stays none off unused = sym (unused refl)
mark_stays (some s) off unused = rw off

machine_stays : (o v : Option ℕ) {touched : Bool} → touched ≡ false → (o ≡ none → v ≡ none) → unless (not (is_some o) || touched) v ≡ v
machine_stays none v off unused = sym (unused refl)
machine_stays (some s) v off unused = rw off

-- a value in the row of a node of a machine that is not touched, o being its owner
node_stays : (o v : Option ℕ) {touched : ℕ → Bool} → ((p : ℕ) → o ≡ some p → touched p ≡ false) → (o ≡ none → v ≡ none)
    → unless (option true touched o) v ≡ v
node_stays none v off unused = sym (unused refl)
node_stays (some p) v off unused = rw (off p refl)

-- the rows that a command leaves
rows_left : (t u : Tree) (touched : ℕ → Bool) {Touched GoneMachine GoneNode : ℕ → Type 0} (r : Rows) → BlankRule t r
    → Fits t u touched Touched GoneMachine GoneNode → RowsLeft u Touched GoneMachine GoneNode r (with_stale u touched r)
unfolding with_stale
rows_left t u touched r blanks f =
    record {
      touched_mark = λ p h. rw ((f.touched_used p h).1, f.test_true p h);
      touched_exit = λ p x h. rw ((f.touched_used p h).1, f.test_true p h);
      touched_last = λ p x h. rw ((f.touched_used p h).1, f.test_true p h);
      touched_cost = λ k p own h. rw (own, f.test_true p h);
      touched_before = λ k p own h. rw (own, f.test_true p h);
      touched_by = λ k p own h. rw (own, f.test_true p h);
      gone_mark = λ p h. rw (f.machine_gone p h);
      gone_exit = λ p x h. rw (f.machine_gone p h);
      gone_last = λ p x h. rw (f.machine_gone p h);
      gone_cost = λ k h. rw (f.node_gone k h);
      gone_before = λ k h. rw (f.node_gone k h);
      gone_by = λ k h. rw (f.node_gone k h);
      kept_mark = λ p off stays. mark_stays (u.start p) (f.test_false p off) (λ e. blanks.unused_stale p (f.machine_kept p stays e));
      kept_exit = λ p x small off stays.
          machine_stays (u.start p) (r.exit p x) (f.test_false p off)
          (λ e. (blanks.unused_machine_lem p (f.machine_kept p stays e)).exit x small);
      kept_last = λ p x small off stays.
          machine_stays (u.start p) (r.last p x) (f.test_false p off)
          (λ e. (blanks.unused_machine_lem p (f.machine_kept p stays e)).last x small);
      kept_cost = λ k off stays.
          node_stays (u.owner k) (r.cost k) (λ p own. f.test_false p (off p own))
          (λ e. (blanks.unused_node_lem k (f.node_kept k stays e)).cost);
      kept_before = λ k off stays.
          node_stays (u.owner k) (r.before k) (λ p own. f.test_false p (off p own))
          (λ e. (blanks.unused_node_lem k (f.node_kept k stays e)).before);
      kept_by = λ k off stays.
          node_stays (u.owner k) (r.by k) (λ p own. f.test_false p (off p own))
          (λ e. (blanks.unused_node_lem k (f.node_kept k stays e)).by);
    }

-- ---- what is over or within a node

-- a machine that is not in use has no nodes
unused_empty : {t : Tree} → Sound t → {m : ℕ} → t.start m ≡ none → (k : ℕ) → t.owner k ≡ some m → ⊥
unused_empty s {m} e k own = none_some e (s.owner_used k m own).1

-- some element passes the test
any_of_lem : (f : ℕ → Bool) (l : List ℕ) → any_of f l ≡ true → (d : ℕ) × (f d ≡ true)
unfolding any_of
any_of_lem f [] e = absurd (true_false e refl)
any_of_lem f (d ∷ l) e = ⊎_elim (λ here. (d, here)) (λ off. any_of_lem f l (rw off at e)) (decided (f d))

-- a machine over a node is in use
over_used : {t : Tree} → Sound t → (p n : ℕ) → over t p n ≡ true → (f : ℕ) × (t.start p ≡ some f)
unfolding over
over_used {t} s p n e =
    let (d, at) = any_of_lem (λ i. is_at (t.owner i) p) (path t n) e in
    s.owner_used d p (is_at_true (t.owner d) p at)

-- a node is within itself
pub within_self : (t : Tree) (n : ℕ) → within t n n ≡ true
unfolding within path path_f any_of
within_self t n = rw (eq-eqb n n refl)

-- the machines over a node: its own, and those over the node that holds its machine
pub over_top : (t : Tree) (p : ℕ) {n m : ℕ} → t.owner n ≡ some m → t.holder m ≡ none → over t p n ≡ eqb m p
unfolding over any_of
over_top t p {n} {m} own free = rw (path_root t own free, own) (or-false (eqb m p))

pub over_up : {t : Tree} → Sound t → (p : ℕ) {n m h : ℕ} → t.owner n ≡ some m → t.holder m ≡ some h
    → over t p n ≡ (eqb m p || over t p h)
unfolding over any_of
over_up s p own held = rw (path_on s own held, own)

-- the nodes that a node is within: itself, and those that the node that holds its machine is within
pub within_top : (t : Tree) (n : ℕ) {d m : ℕ} → t.owner d ≡ some m → t.holder m ≡ none → within t n d ≡ eqb n d
unfolding within any_of
within_top t n {d} own free = rw (path_root t own free) (or-false (eqb n d))

pub within_up : {t : Tree} → Sound t → (n : ℕ) {d m h : ℕ} → t.owner d ≡ some m → t.holder m ≡ some h
    → within t n d ≡ (eqb n d || within t n h)
unfolding within any_of
within_up s n own held = rw (path_on s own held)

-- one of two tests holds
either : {a b : Bool} → (a || b) ≡ true → (a ≡ true) ⊎ (b ≡ true)
either {a = true} e = inl refl
either {a = false} e = inr e

-- a machine over a node is no deeper than the node's machine
over_deep : {t : Tree} → Sound t → (p : ℕ) {n m k : ℕ} → t.owner n ≡ some m → Deep t m k → over t p n ≡ true
    → (j : ℕ) × (j ≤ k) × Deep t p j
over_deep {t} s p {n} {m} own (at_root e) ov =
    let same : m ≡ p = eqb-true m p (sym (over_top t p own (rw e s.root_free)) ∙ ov) in
    (0, omega arith, at_root (sym same ∙ e))
over_deep {t} s p {n} {m} own (under {k = k} held up way) ov =
    ⊎_elim (λ same. (suc k, omega arith, subst (λ (i : ℕ). Deep t i (suc k)) (eqb-true m p same) (under held up way)))
    (λ higher. let (j, small, found) = over_deep s p up way higher in (j, omega arith, found))
    (either (sym (over_up s p own held) ∙ ov))

-- a node that another is within is in use and no deeper
within_deep : {t : Tree} → Sound t → (n : ℕ) {d m k : ℕ} → t.owner d ≡ some m → Deep t m k → within t n d ≡ true
    → (q j : ℕ) × (t.owner n ≡ some q) × (j ≤ k) × Deep t q j
within_deep {t} s n {d} {m} own (at_root e) wi =
    let same : n ≡ d = eqb-true n d (sym (within_top t n own (rw e s.root_free)) ∙ wi) in
    (m, 0, rw same own, omega arith, at_root e)
within_deep {t} s n {d} {m} own (under {k = k} held up way) wi =
    ⊎_elim (λ same. (m, suc k, rw (eqb-true n d same) own, omega arith, under held up way))
    (λ higher. let (q, j, up_n, small, found) = within_deep s n up way higher in (q, j, up_n, omega arith, found))
    (either (sym (within_up s n own held) ∙ wi))

-- a machine is over a node exactly where the node's machine climbs to it
climbs_up : {t : Tree} → Sound t → (p : ℕ) {n m k : ℕ} → t.owner n ≡ some m → Deep t m k → over t p n ≡ true
    → (j : ℕ) × (iterate (parent t) j m ≡ some p)
unfolding iterate parent
climbs_up {t} s p {m = m} own (at_root e) ov =
    (0, ap {B = Option ℕ} some (eqb-true m p (sym (over_top t p own (rw e s.root_free)) ∙ ov)))
climbs_up {t} s p {m = m} own (under held up way) ov =
    ⊎_elim (λ same. (0, ap {B = Option ℕ} some (eqb-true m p same)))
    (λ higher. let (j, climb) = climbs_up s p up way higher in (suc j, rw (held, up) climb))
    (either (sym (over_up s p own held) ∙ ov))

up_climbs : {t : Tree} → Sound t → (p : ℕ) {n m k : ℕ} → t.owner n ≡ some m → Deep t m k → (j : ℕ) → iterate (parent t) j m ≡ some p
    → over t p n ≡ true
unfolding iterate parent
up_climbs {t} s p {m = m} own (at_root e) zero climb = over_top t p own (rw e s.root_free) ∙ eq-eqb m p (some_same refl climb)
up_climbs {t} s p {m = m} own (at_root e) (suc j) climb =
    let free : t.holder m ≡ none = rw e s.root_free in
    absurd (none_some {a = p} refl (rw free at climb))
up_climbs {t} s p {m = m} own (under held up way) zero climb = rw (over_up s p own held, eq-eqb m p (some_same refl climb))
up_climbs {t} s p {m = m} own (under held up way) (suc j) climb =
    over_up s p own held ∙ rw (up_climbs s p up way j (rw (held, up) at climb)) (or-true (eqb m p))

pub over_climbs : {t : Tree} → Sound t → (p : ℕ) {n m : ℕ} → t.owner n ≡ some m → over t p n ≡ true
    → (j : ℕ) × (iterate (parent t) j m ≡ some p)
over_climbs s p {n} {m} own ov = let (k, small, way) = deep s (s.owner_used n m own).1 in climbs_up s p own way ov

pub climbs_over : {t : Tree} → Sound t → (p : ℕ) {n m : ℕ} → t.owner n ≡ some m → (j : ℕ) → iterate (parent t) j m ≡ some p
    → over t p n ≡ true
climbs_over s p {n} {m} own j climb = let (k, small, way) = deep s (s.owner_used n m own).1 in up_climbs s p own way j climb

-- a node in use is within another exactly where it climbs to it
inner_climbs : {t : Tree} → Sound t → (n : ℕ) {d m k : ℕ} → t.owner d ≡ some m → Deep t m k → within t n d ≡ true
    → (j : ℕ) × (iterate (above t) j d ≡ some n)
unfolding iterate above
inner_climbs {t} s n {d = d} own (at_root e) wi =
    (0, ap {B = Option ℕ} some (sym (eqb-true n d (sym (within_top t n own (rw e s.root_free)) ∙ wi))))
inner_climbs {t} s n {d = d} own (under held up way) wi =
    ⊎_elim (λ same. (0, ap {B = Option ℕ} some (sym (eqb-true n d same))))
    (λ higher. let (j, climb) = inner_climbs s n up way higher in (suc j, rw (own, held) climb))
    (either (sym (within_up s n own held) ∙ wi))

climbs_inner : {t : Tree} → Sound t → (n : ℕ) {d m k : ℕ} → t.owner d ≡ some m → Deep t m k → (j : ℕ) → iterate (above t) j d ≡ some n
    → within t n d ≡ true
unfolding iterate above
climbs_inner {t} s n {d = d} own (at_root e) zero climb =
    within_top t n own (rw e s.root_free) ∙ eq-eqb n d (sym (some_same refl climb))
climbs_inner {t} s n {m = m} own (at_root e) (suc j) climb =
    let free : t.holder m ≡ none = rw e s.root_free in
    absurd (none_some {a = n} refl (rw (own, free) at climb))
climbs_inner {t} s n {d = d} own (under held up way) zero climb = rw (within_up s n own held, eq-eqb n d (sym (some_same refl climb)))
climbs_inner {t} s n {d = d} own (under held up way) (suc j) climb =
    within_up s n own held ∙ rw (climbs_inner s n up way j (rw (own, held) at climb)) (or-true (eqb n d))

pub within_climbs : {t : Tree} → Sound t → (n : ℕ) {d m : ℕ} → t.owner d ≡ some m → within t n d ≡ true
    → (j : ℕ) × (iterate (above t) j d ≡ some n)
within_climbs s n {d} {m} own wi = let (k, small, way) = deep s (s.owner_used d m own).1 in inner_climbs s n own way wi

pub climbs_within : {t : Tree} → Sound t → (n : ℕ) {d m : ℕ} → t.owner d ≡ some m → (j : ℕ) → iterate (above t) j d ≡ some n
    → within t n d ≡ true
climbs_within s n {d} {m} own j climb = let (k, small, way) = deep s (s.owner_used d m own).1 in climbs_inner s n own way j climb

-- machine p is held by node n or by a node below it
pub record HeldWithin (t : Tree) (n p : ℕ) : Type 0 where
  pub holder : ℕ
  pub held : t.holder p ≡ some holder
  pub inside : within t n holder ≡ true

-- a machine over a node is not held within it
over_free : {t : Tree} → Sound t → (p n : ℕ) → over t p n ≡ true → HeldWithin t n p → ⊥
over_free {t} s p n ov w =
    let (o, up) = s.holder_used p w.holder w.held in
    let (f, used) = s.owner_used w.holder o up in
    let (k, small, way) = deep s used in
    let (q, j, own, near, way_n) = within_deep s n up way w.inside in
    let (i, above_n, way_p) = over_deep s p own way_n ov in
    let same : i ≡ suc k = deep_unique s way_p (under w.held up way) in
    omega arith

-- ---- each command

-- what has a value after has one before, if it lost none
still_none : {A B : Type 0} {o : Option A} {v : Option B} → ((a : A) → o ≡ some a → (b : B) × (v ≡ some b)) → v ≡ none → o ≡ none
still_none {o = o} kept e = ⊎_elim (λ h. h) (λ h. absurd (none_some e (kept h.0 h.1).1)) (present o)

-- a command that touches the machines over node n, and by which nothing falls out of use
fits_over : {t : Tree} → Sound t → (u : Tree) (n : ℕ) (touched : ℕ → Bool) → ((p : ℕ) → touched p ≡ over t p n)
    → ((p f : ℕ) → t.start p ≡ some f → (g : ℕ) × (u.start p ≡ some g))
    → ((k p : ℕ) → t.owner k ≡ some p → (o : ℕ) × (u.owner k ≡ some o))
    → Fits t u touched (λ p. over t p n ≡ true) NoneGone NoneGone
fits_over {t} s u n touched test machine node =
    record {
      test_true = λ p h. test p ∙ h;
      test_false = λ p h. test p ∙ not_true_false h;
      touched_used = λ p h. let (f, used) = over_used s p n h in machine p f used;
      machine_gone = λ p h. absurd h;
      machine_kept = λ p stays e. still_none (machine p) e;
      node_gone = λ k h. absurd h;
      node_kept = λ k stays e. still_none (node k) e;
    }

-- a function changed at one number, and what had a value before it has one after
changed : {A : Type 0} (f : ℕ → A) (k : ℕ) (v : A) → Changed f k v (put f k v)
changed f k v = record { here = put_same f k v; elsewhere = put_other f k v }

still_some : {f g : ℕ → Option ℕ} {k v : ℕ} → Changed f k (some v) g → (n a : ℕ) → f n ≡ some a → (b : ℕ) × (g n ≡ some b)
still_some {g = g} {v = v} c n a e =
    ⊎_elim (λ same. (v, ap g same ∙ c.here)) (λ other. (a, c.elsewhere n other ∙ e)) (equal_or_not n _)

-- begin leaves one machine, the root, with one node, its start
pub record Begun (m n : ℕ) (u : Tree) (r q : Rows) : Type 0 where
  pub root : u.root ≡ m
  pub owner : Changed (λ k. none) n (some m) u.owner
  pub below : (k : ℕ) → u.below k ≡ none
  pub start : Changed (λ p. none) m (some n) u.start
  pub holder : (p : ℕ) → u.holder p ≡ none
  pub transition : (k x : ℕ) → u.transition k x ≡ none
  pub hold : (k : ℕ) → u.hold k ≡ 0
  pub leave : (p : ℕ) → u.leave p ≡ 0
  pub rows : RowsLeft u (λ p. p ≡ m) (λ p. p ≡ m → ⊥) (λ k. k ≡ n → ⊥) r q

pub begun : (t : Tree) (r : Rows) (m n : ℕ) → BlankRule t r → Begun m n (edited t (Edit.begin m n)) r (edited_rows t (Edit.begin m n) r)
unfolding edited edited_rows touches single
begun t r m n blanks =
    let owner : Changed (λ k. none) n (some m) (edited t (Edit.begin m n)).owner = changed (λ k. none) n (some m) in
    let start : Changed (λ p. none) m (some n) (edited t (Edit.begin m n)).start = changed (λ p. none) m (some n) in
    record {
      root = refl;
      owner = owner;
      below = λ k. refl;
      start = start;
      holder = λ p. refl;
      transition = λ k x. refl;
      hold = λ k. refl;
      leave = λ k. refl;
      rows = rows_left t _ _ r blanks (record {
        test_true = λ p same. eq-eqb p m same;
        test_false = λ p other. ne_eqb p m other;
        touched_used = λ p same. (n, rw same start.here);
        machine_gone = λ p other. start.elsewhere p other;
        machine_kept = λ p stays e. absurd (stays (λ same. none_some {a = n} e (rw same start.here)));
        node_gone = λ k other. owner.elsewhere k other;
        node_kept = λ k stays e. absurd (stays (λ same. none_some {a = m} e (rw same owner.here)));
      });
    }

-- add gives machine m, whose start node is s, the node n
pub record Added (t : Tree) (m n s : ℕ) (u : Tree) (r q : Rows) : Type 0 where
  pub root : u.root ≡ t.root
  pub owner : Changed t.owner n (some m) u.owner
  pub below : Same t.below u.below
  pub start : Same t.start u.start
  pub holder : Same t.holder u.holder
  pub transition : SameBoth t.transition u.transition
  pub hold : Same t.hold u.hold
  pub leave : Same t.leave u.leave
  pub new_plain : u.below n ≡ none
  pub new_free : (x : ℕ) → u.transition n x ≡ none
  pub new_open : u.hold n ≡ 0
  pub rows : RowsLeft u (λ p. over t p s ≡ true) NoneGone NoneGone r q

pub added : (t : Tree) (r : Rows) (m n s : ℕ) → Sound t → BlankRule t r → refusal t (edit (Edit.add m n)) ≡ 0 → t.start m ≡ some s
    → Added t m n s (edited t (Edit.add m n)) r (edited_rows t (Edit.add m n) r)
unfolding edited edited_rows touches
added t r m n s sound blanks ok st =
    let new : t.owner n ≡ none = (taken_add t m n ok).node_new in
    let owner : Changed t.owner n (some m) (edited t (Edit.add m n)).owner = changed t.owner n (some m) in
    record {
      root = refl;
      owner = owner;
      below = λ k. refl;
      start = λ k. refl;
      holder = λ k. refl;
      transition = λ k x. refl;
      hold = λ k. refl;
      leave = λ k. refl;
      new_plain = unused_below t sound n new;
      new_free = λ x. unused_transition t sound n x new;
      new_open = unused_hold t sound n new;
      rows = rows_left t _ _ r blanks (fits_over sound _ s _ (λ p. rw st) (λ p f e. (f, e)) (still_some owner));
    }

-- refine puts the new machine m, with only its start node s, below node n, which keeps its transitions and its hold
pub record Refined (t : Tree) (n m s : ℕ) (u : Tree) (r q : Rows) : Type 0 where
  pub root : u.root ≡ t.root
  pub owner : Changed t.owner s (some m) u.owner
  pub below : Changed t.below n (some m) u.below
  pub start : Changed t.start m (some s) u.start
  pub holder : Changed t.holder m (some n) u.holder
  pub transition : SameBoth t.transition u.transition
  pub hold : Same t.hold u.hold
  pub leave : Same t.leave u.leave
  pub new_plain : u.below s ≡ none
  pub new_free : (x : ℕ) → u.transition s x ≡ none
  pub new_open : u.hold s ≡ 0
  pub new_leave : u.leave m ≡ 0
  pub new_only : (k : ℕ) → u.owner k ≡ some m → k ≡ s
  pub rows : RowsLeft u (λ p. (p ≡ m) ⊎ (over t p n ≡ true)) NoneGone NoneGone r q

-- a new machine owns no node but its first
only_first : {t : Tree} → Sound t → {m s : ℕ} {g : ℕ → Option ℕ} → t.start m ≡ none → Changed t.owner s (some m) g
    → (k : ℕ) → g k ≡ some m → k ≡ s
only_first sound {m} {s} new c k own =
    ⊎_elim (λ same. same) (λ other. absurd (unused_empty sound new k (sym (c.elsewhere k other) ∙ own))) (equal_or_not k s)

pub refined : (t : Tree) (r : Rows) (n m s : ℕ) → Sound t → BlankRule t r → refusal t (edit (Edit.refine n m s)) ≡ 0
    → Refined t n m s (edited t (Edit.refine n m s)) r (edited_rows t (Edit.refine n m s) r)
unfolding edited edited_rows touches
refined t r n m s sound blanks ok =
    let taken : TakenRefine t n m s = taken_refine t n m s ok in
    let owner : Changed t.owner s (some m) (edited t (Edit.refine n m s)).owner = changed t.owner s (some m) in
    let below : Changed t.below n (some m) (edited t (Edit.refine n m s)).below = changed t.below n (some m) in
    let start : Changed t.start m (some s) (edited t (Edit.refine n m s)).start = changed t.start m (some s) in
    let apart_from : s ≡ n → ⊥ = λ same. none_some (rw (← same) taken.first_new) taken.node_used.1 in
    record {
      root = refl;
      owner = owner;
      below = below;
      start = start;
      holder = changed t.holder m (some n);
      transition = λ k x. refl;
      hold = λ k. refl;
      leave = λ k. refl;
      new_plain = below.elsewhere s apart_from ∙ unused_below t sound s taken.first_new;
      new_free = λ x. unused_transition t sound s x taken.first_new;
      new_open = unused_hold t sound s taken.first_new;
      new_leave = sound.leave_used m taken.machine_new;
      new_only = only_first sound taken.machine_new owner;
      rows = rows_left t _ _ r blanks (record {
        test_true = λ p. ⊎_elim (λ same. rw (eq-eqb p m same)) (λ h. rw h (or-true (eqb p m)));
        test_false = λ p off. rw (ne_eqb p m (λ same. off (inl same))) (not_true_false (λ h. off (inr h)));
        touched_used = λ p.
            ⊎_elim (λ same. (s, rw same start.here))
            (λ h. let (f, used) = over_used sound p n h in still_some start p f used);
        machine_gone = λ p h. absurd h;
        machine_kept = λ p stays e. still_none (still_some start p) e;
        node_gone = λ k h. absurd h;
        node_kept = λ k stays e. still_none (still_some owner k) e;
      });
    }

-- remove deletes node n, all below it, their holds and leaving costs, and the transitions into it
pub record Removed (t : Tree) (n : ℕ) (u : Tree) (r q : Rows) : Type 0 where
  pub root : u.root ≡ t.root
  pub itself : u.owner n ≡ none
  pub owner_gone : (k : ℕ) → within t n k ≡ true → u.owner k ≡ none
  pub owner_kept : (k : ℕ) → within t n k ≡ false → u.owner k ≡ t.owner k
  pub below_gone : (k : ℕ) → within t n k ≡ true → u.below k ≡ none
  pub below_kept : (k : ℕ) → within t n k ≡ false → u.below k ≡ t.below k
  pub start_gone : (p : ℕ) → HeldWithin t n p → u.start p ≡ none
  pub start_kept : (p : ℕ) → (HeldWithin t n p → ⊥) → u.start p ≡ t.start p
  pub holder_gone : (p : ℕ) → HeldWithin t n p → u.holder p ≡ none
  pub holder_kept : (p : ℕ) → (HeldWithin t n p → ⊥) → u.holder p ≡ t.holder p
  pub transition_gone : (k x : ℕ) → within t n k ≡ true → u.transition k x ≡ none
  pub transition_into : (k x : ℕ) (a : Transition) → t.transition k x ≡ some a → a.target ≡ n → u.transition k x ≡ none
  pub transition_kept : (k x : ℕ) → within t n k ≡ false → ((a : Transition) → t.transition k x ≡ some a → a.target ≡ n → ⊥)
      → u.transition k x ≡ t.transition k x
  pub hold_gone : (k : ℕ) → within t n k ≡ true → u.hold k ≡ 0
  pub hold_kept : (k : ℕ) → within t n k ≡ false → u.hold k ≡ t.hold k
  pub leave_gone : (p : ℕ) → HeldWithin t n p → u.leave p ≡ 0
  pub leave_kept : (p : ℕ) → (HeldWithin t n p → ⊥) → u.leave p ≡ t.leave p
  pub rows : RowsLeft u (λ p. over t p n ≡ true) (HeldWithin t n) (λ k. within t n k ≡ true) r q

-- whether a machine is held within a node, as a test
held_test : (t : Tree) (n p : ℕ) → HeldWithin t n p → held_within t n p ≡ true
held_test t n p w = rw w.held w.inside

pub free_test : (t : Tree) (n p : ℕ) → (HeldWithin t n p → ⊥) → held_within t n p ≡ false
free_test t n p free =
    ⊎_elim (λ none_holds. rw none_holds)
    (λ h. rw h.1 (not_true_false (λ e. free (record { holder = h.0; held = h.1; inside = e }))))
    (present (t.holder p))

-- a transition into node n goes, and any other stays
into_gone : (n : ℕ) (o : Option Transition) (a : Transition) → o ≡ some a → a.target ≡ n
    → (o >>= λ b. unless (eqb b.target n) (some b)) ≡ none
into_gone n o a e into = rw (e, eq-eqb a.target n into)

other_kept : (n : ℕ) (o : Option Transition) → ((a : Transition) → o ≡ some a → a.target ≡ n → ⊥)
    → (o >>= λ b. unless (eqb b.target n) (some b)) ≡ o
other_kept n none other = refl
other_kept n (some a) other = rw (ne_eqb a.target n (other a refl))

-- nothing is left of nothing
pub unless_none : {A : Type 0} (b : Bool) → unless {A = A} b none ≡ none
unless_none true = refl
unless_none false = refl

pub removed : (t : Tree) (r : Rows) (n : ℕ) → Sound t → BlankRule t r
    → Removed t n (edited t (Edit.remove n)) r (edited_rows t (Edit.remove n) r)
unfolding edited edited_rows touches without
removed t r n sound blanks =
    let start_gone : (p : ℕ) → HeldWithin t n p → (edited t (Edit.remove n)).start p ≡ none = λ p w. rw (held_test t n p w) in
    let start_kept : (p : ℕ) → (HeldWithin t n p → ⊥) → (edited t (Edit.remove n)).start p ≡ t.start p =
    λ p free. rw (free_test t n p free) in
    let owner_gone : (k : ℕ) → within t n k ≡ true → (edited t (Edit.remove n)).owner k ≡ none = λ k w. rw w in
    let owner_kept : (k : ℕ) → within t n k ≡ false → (edited t (Edit.remove n)).owner k ≡ t.owner k = λ k w. rw w in
    record {
      root = refl;
      itself = owner_gone n (within_self t n);
      owner_gone = owner_gone;
      owner_kept = owner_kept;
      below_gone = λ k w. rw w;
      below_kept = λ k w. rw w;
      start_gone = start_gone;
      start_kept = start_kept;
      holder_gone = λ p w. rw (held_test t n p w);
      holder_kept = λ p free. rw (free_test t n p free);
      transition_gone = λ k x w. rw w;
      transition_into = λ k x a e into. rw (into_gone n (t.transition k x) a e into) (unless_none (within t n k));
      transition_kept = λ k x w other. rw w (other_kept n (t.transition k x) other);
      hold_gone = λ k w. rw w;
      hold_kept = λ k w. rw w;
      leave_gone = λ p w. rw (held_test t n p w);
      leave_kept = λ p free. rw (free_test t n p free);
      rows = rows_left t _ _ r blanks (record {
        test_true = λ p h. h;
        test_false = λ p off. not_true_false off;
        touched_used = λ p h. let (f, used) = over_used sound p n h in (f, start_kept p (over_free sound p n h) ∙ used);
        machine_gone = start_gone;
        machine_kept = λ p stays e. sym (start_kept p stays) ∙ e;
        node_gone = owner_gone;
        node_kept = λ k stays e. sym (owner_kept k (not_true_false stays)) ∙ e;
      });
    }

-- node n has o for its transition for x, and every other transition is the same: arrow with a transition for o, clear with none
pub record OneTransition (t : Tree) (n x : ℕ) (o : Option Transition) (u : Tree) (r q : Rows) : Type 0 where
  pub root : u.root ≡ t.root
  pub owner : Same t.owner u.owner
  pub below : Same t.below u.below
  pub start : Same t.start u.start
  pub holder : Same t.holder u.holder
  pub here : u.transition n x ≡ o
  pub elsewhere : (k y : ℕ) → ((k ≡ n) × (y ≡ x) → ⊥) → u.transition k y ≡ t.transition k y
  pub hold : Same t.hold u.hold
  pub leave : Same t.leave u.leave
  pub rows : RowsLeft u (λ p. over t p n ≡ true) NoneGone NoneGone r q

-- a function of two numbers changed at one place
pub both_here : {A : Type 0} (f : ℕ → ℕ → A) (n x : ℕ) (v : A) → put f n (put (f n) x v) n x ≡ v
both_here {A} f n x v = ap (λ (g : ℕ → A). g x) (put_same f n (put (f n) x v)) ∙ put_same (f n) x v

both_elsewhere : {A : Type 0} (f : ℕ → ℕ → A) (n x : ℕ) (v : A) (k y : ℕ) → ((k ≡ n) × (y ≡ x) → ⊥) → put f n (put (f n) x v) k y ≡ f k y
both_elsewhere {A} f n x v k y other =
    ⊎_elim (λ same. subst (λ (i : ℕ). put f n (put (f n) x v) i y ≡ f i y) (sym same)
    (ap (λ (g : ℕ → A). g y) (put_same f n (put (f n) x v)) ∙ put_other (f n) x v y (λ e. other (same, e))))
    (λ away. ap (λ (g : ℕ → A). g y) (put_other f n (put (f n) x v) k away)) (equal_or_not k n)

one_transition : (t : Tree) (r : Rows) (n x : ℕ) (o : Option Transition) → Sound t → BlankRule t r
    → OneTransition t n x o (with_transition t n x o) r (with_stale (with_transition t n x o) (λ p. over t p n) r)
unfolding with_transition
one_transition t r n x o sound blanks =
    record {
      root = refl;
      owner = λ k. refl;
      below = λ k. refl;
      start = λ k. refl;
      holder = λ k. refl;
      here = both_here t.transition n x o;
      elsewhere = both_elsewhere t.transition n x o;
      hold = λ k. refl;
      leave = λ k. refl;
      rows = rows_left t _ _ r blanks (fits_over sound _ n _ (λ p. refl) (λ p f e. (f, e)) (λ k p e. (p, e)));
    }

-- arrow sets the transition of node n for x: to v at cost c
pub arrowed : (t : Tree) (r : Rows) (n x v c : ℕ) → Sound t → BlankRule t r
    → OneTransition t n x (some (record { target = v; cost = c })) (edited t (Edit.arrow n x v c)) r (edited_rows t (Edit.arrow n x v c) r)
unfolding edited edited_rows touches
arrowed t r n x v c sound blanks = one_transition t r n x _ sound blanks

-- clear deletes the transition of node n for x
pub cleared : (t : Tree) (r : Rows) (n x : ℕ) → Sound t → BlankRule t r
    → OneTransition t n x none (edited t (Edit.clear n x)) r (edited_rows t (Edit.clear n x) r)
unfolding edited edited_rows touches
cleared t r n x sound blanks = one_transition t r n x none sound blanks

-- start makes node n the start of its machine m
pub record Started (t : Tree) (n m : ℕ) (u : Tree) (r q : Rows) : Type 0 where
  pub root : u.root ≡ t.root
  pub owner : Same t.owner u.owner
  pub below : Same t.below u.below
  pub start : Changed t.start m (some n) u.start
  pub holder : Same t.holder u.holder
  pub transition : SameBoth t.transition u.transition
  pub hold : Same t.hold u.hold
  pub leave : Same t.leave u.leave
  pub rows : RowsLeft u (λ p. over t p n ≡ true) NoneGone NoneGone r q

pub started : (t : Tree) (r : Rows) (n m : ℕ) → Sound t → BlankRule t r → t.owner n ≡ some m
    → Started t n m (edited t (Edit.start n)) r (edited_rows t (Edit.start n) r)
unfolding edited edited_rows touches with_start
started t r n m sound blanks own =
    let start : Changed t.start m (some n) (put t.start m (some n)) = changed t.start m (some n) in
    rw own
    (record {
      root = refl;
      owner = λ k. refl;
      below = λ k. refl;
      start = start;
      holder = λ k. refl;
      transition = λ k x. refl;
      hold = λ k. refl;
      leave = λ k. refl;
      rows = rows_left t _ _ r blanks (fits_over sound _ n _ (λ p. refl) (still_some start) (λ k p e. (p, e)));
    })

-- hold sets the hold of node n, and nothing else
pub record HoldSet (t : Tree) (n b : ℕ) (u : Tree) (r q : Rows) : Type 0 where
  pub root : u.root ≡ t.root
  pub owner : Same t.owner u.owner
  pub below : Same t.below u.below
  pub start : Same t.start u.start
  pub holder : Same t.holder u.holder
  pub transition : SameBoth t.transition u.transition
  pub hold : Changed t.hold n b u.hold
  pub leave : Same t.leave u.leave
  pub rows : RowsLeft u (λ p. over t p n ≡ true) NoneGone NoneGone r q

pub hold_set : (t : Tree) (r : Rows) (n b : ℕ) → Sound t → BlankRule t r
    → HoldSet t n b (edited t (Edit.hold n b)) r (edited_rows t (Edit.hold n b) r)
unfolding edited edited_rows touches
hold_set t r n b sound blanks =
    record {
      root = refl;
      owner = λ k. refl;
      below = λ k. refl;
      start = λ k. refl;
      holder = λ k. refl;
      transition = λ k x. refl;
      hold = changed t.hold n b;
      leave = λ k. refl;
      rows = rows_left t _ _ r blanks (fits_over sound _ n _ (λ p. refl) (λ p f e. (f, e)) (λ k p e. (p, e)));
    }

-- leave sets what leaving machine m, whose start node is s, costs, and nothing else
pub record LeaveSet (t : Tree) (m s c : ℕ) (u : Tree) (r q : Rows) : Type 0 where
  pub root : u.root ≡ t.root
  pub owner : Same t.owner u.owner
  pub below : Same t.below u.below
  pub start : Same t.start u.start
  pub holder : Same t.holder u.holder
  pub transition : SameBoth t.transition u.transition
  pub hold : Same t.hold u.hold
  pub leave : Changed t.leave m c u.leave
  pub rows : RowsLeft u (λ p. over t p s ≡ true) NoneGone NoneGone r q

pub leave_set : (t : Tree) (r : Rows) (m s c : ℕ) → Sound t → BlankRule t r → t.start m ≡ some s
    → LeaveSet t m s c (edited t (Edit.leave m c)) r (edited_rows t (Edit.leave m c) r)
unfolding edited edited_rows touches
leave_set t r m s c sound blanks st =
    record {
      root = refl;
      owner = λ k. refl;
      below = λ k. refl;
      start = λ k. refl;
      holder = λ k. refl;
      transition = λ k x. refl;
      hold = λ k. refl;
      leave = changed t.leave m c;
      rows = rows_left t _ _ r blanks (fits_over sound _ s _ (λ p. rw st) (λ p f e. (f, e)) (λ k p e. (p, e)));
    }

-- crown makes the new machine m root; its one node n, the start, holds the old root, whose leaving cost is 0 as the new one's
pub record Crowned (t : Tree) (m n : ℕ) (u : Tree) (r q : Rows) : Type 0 where
  pub root : u.root ≡ m
  pub owner : Changed t.owner n (some m) u.owner
  pub below : Changed t.below n (some t.root) u.below
  pub start : Changed t.start m (some n) u.start
  pub holder : Changed t.holder t.root (some n) u.holder
  pub transition : SameBoth t.transition u.transition
  pub hold : Same t.hold u.hold
  pub leave : Same t.leave u.leave
  pub new_free : (x : ℕ) → u.transition n x ≡ none
  pub new_open : u.hold n ≡ 0
  pub new_leave : u.leave m ≡ 0
  pub old_leave : u.leave t.root ≡ 0
  pub new_only : (k : ℕ) → u.owner k ≡ some m → k ≡ n
  pub root_free : u.holder m ≡ none
  pub rows : RowsLeft u (λ p. p ≡ m) NoneGone NoneGone r q

pub crowned : (t : Tree) (r : Rows) (m n : ℕ) → Sound t → BlankRule t r → refusal t (edit (Edit.crown m n)) ≡ 0
    → Crowned t m n (edited t (Edit.crown m n)) r (edited_rows t (Edit.crown m n) r)
unfolding edited edited_rows touches
crowned t r m n sound blanks ok =
    let taken : TakenCrown t m n = taken_crown t m n ok in
    let owner : Changed t.owner n (some m) (edited t (Edit.crown m n)).owner = changed t.owner n (some m) in
    let start : Changed t.start m (some n) (edited t (Edit.crown m n)).start = changed t.start m (some n) in
    let holder : Changed t.holder t.root (some n) (edited t (Edit.crown m n)).holder = changed t.holder t.root (some n) in
    let not_old : m ≡ t.root → ⊥ = λ same. none_some {a = sound.root_used.0} taken.machine_new (rw same sound.root_used.1) in
    record {
      root = refl;
      owner = owner;
      below = changed t.below n (some t.root);
      start = start;
      holder = holder;
      transition = λ k x. refl;
      hold = λ k. refl;
      leave = λ k. refl;
      new_free = λ x. unused_transition t sound n x taken.node_new;
      new_open = unused_hold t sound n taken.node_new;
      new_leave = sound.leave_used m taken.machine_new;
      old_leave = sound.leave_root;
      new_only = only_first sound taken.machine_new owner;
      root_free = holder.elsewhere m not_old ∙ unused_holder t sound m taken.machine_new;
      rows = rows_left t _ _ r blanks (record {
        test_true = λ p same. eq-eqb p m same;
        test_false = λ p other. ne_eqb p m other;
        touched_used = λ p same. (n, rw same start.here);
        machine_gone = λ p h. absurd h;
        machine_kept = λ p stays e. still_none (still_some start p) e;
        node_gone = λ k h. absurd h;
        node_kept = λ k stays e. still_none (still_some owner k) e;
      });
    }

-- refresh changes nothing of the tree
pub refreshed_tree : (t : Tree) → tree_after t refresh ≡ t
refreshed_tree t = refl

-- The rows q after a refresh, from the rows r before it: nothing is marked, every machine's row is true, and the rows that were
-- not marked stay.
pub record Refilled (t : Tree) (r q : Rows) : Type 0 where
  pub mark : (p : ℕ) → q.stale p ≡ false
  pub filled : (p s : ℕ) → t.start p ≡ some s → TrueMachine t q p s
  pub kept_exit : (p x : ℕ) → r.stale p ≡ false → q.exit p x ≡ r.exit p x
  pub kept_last : (p x : ℕ) → r.stale p ≡ false → q.last p x ≡ r.last p x
  pub kept_cost : (k : ℕ) → ((p : ℕ) → t.owner k ≡ some p → r.stale p ≡ false) → q.cost k ≡ r.cost k
  pub kept_before : (k : ℕ) → ((p : ℕ) → t.owner k ≡ some p → r.stale p ≡ false) → q.before k ≡ r.before k
  pub kept_by : (k : ℕ) → ((p : ℕ) → t.owner k ≡ some p → r.stale p ≡ false) → q.by k ≡ r.by k

-- a value in the row of a node: kept where the node has an owner, and blank before and after where it has none
owned_or_blank : (o : Option ℕ) {v w : Option ℕ} → ((p : ℕ) → o ≡ some p → w ≡ v) → (o ≡ none → v ≡ none) → (o ≡ none → w ≡ none) → w ≡ v
owned_or_blank none kept before after = after refl ∙ sym (before refl)
owned_or_blank (some p) kept before after = kept p refl

pub refilled : (t : Tree) (r q : Rows) → BlankRule t r → Refreshed t r q → Refilled t r q
refilled t r q blanks f =
    record {
      mark = f.fresh;
      filled = λ p s st. f.filled.filled p s st (f.fresh p);
      kept_exit = f.exit_kept;
      kept_last = f.last_kept;
      kept_cost = λ k fresh.
          owned_or_blank (t.owner k) (λ p own. f.cost_kept k p own (fresh p own))
          (λ e. (blanks.unused_node_lem k e).cost) (λ e. (f.filled.blanks.unused_node_lem k e).cost);
      kept_before = λ k fresh.
          owned_or_blank (t.owner k) (λ p own. f.before_kept k p own (fresh p own))
          (λ e. (blanks.unused_node_lem k e).before) (λ e. (f.filled.blanks.unused_node_lem k e).before);
      kept_by = λ k fresh.
          owned_or_blank (t.owner k) (λ p own. f.by_kept k p own (fresh p own))
          (λ e. (blanks.unused_node_lem k e).by) (λ e. (f.filled.blanks.unused_node_lem k e).by);
    }

-- ---- all of them

-- what a command that is taken makes of a tree and its rows
abbrev pub Does : Tree → Command → Tree → Rows → Rows → Type 0
Does t (edit (Edit.begin m n)) u r q = Begun m n u r q
Does t (edit (Edit.add m n)) u r q = (s : ℕ) × (t.start m ≡ some s) × Added t m n s u r q
Does t (edit (Edit.refine n m s)) u r q = Refined t n m s u r q
Does t (edit (Edit.remove n)) u r q = Removed t n u r q
Does t (edit (Edit.arrow n x v c)) u r q = OneTransition t n x (some (record { target = v; cost = c })) u r q
Does t (edit (Edit.clear n x)) u r q = OneTransition t n x none u r q
Does t (edit (Edit.start n)) u r q = (m : ℕ) × (t.owner n ≡ some m) × Started t n m u r q
Does t (edit (Edit.crown m n)) u r q = Crowned t m n u r q
Does t (edit (Edit.hold n b)) u r q = HoldSet t n b u r q
Does t (edit (Edit.leave m c)) u r q = (s : ℕ) × (t.start m ≡ some s) × LeaveSet t m s c u r q
Does t refresh u r q = (u ≡ t) × Refilled t r q

pub does : (t : Tree) (c : Command) (r q : Rows) → Sound t → BlankRule t r → refusal t c ≡ 0 → RowsAfter t c r q
    → Does t c (tree_after t c) r q
does t (edit (Edit.begin m n)) r q sound blanks ok e = rw e (begun t r m n blanks)
does t (edit (Edit.add m n)) r q sound blanks ok e =
    let (s, st) = (taken_add t m n ok).machine_used in
    (s, st, rw e (added t r m n s sound blanks ok st))
does t (edit (Edit.refine n m s)) r q sound blanks ok e = rw e (refined t r n m s sound blanks ok)
does t (edit (Edit.remove n)) r q sound blanks ok e = rw e (removed t r n sound blanks)
does t (edit (Edit.arrow n x v c)) r q sound blanks ok e = rw e (arrowed t r n x v c sound blanks)
does t (edit (Edit.clear n x)) r q sound blanks ok e = rw e (cleared t r n x sound blanks)
does t (edit (Edit.start n)) r q sound blanks ok e =
    let (m, own) = (taken_start t n ok).node_used in
    (m, own, rw e (started t r n m sound blanks own))
does t (edit (Edit.crown m n)) r q sound blanks ok e = rw e (crowned t r m n sound blanks ok)
does t (edit (Edit.hold n b)) r q sound blanks ok e = rw e (hold_set t r n b sound blanks)
does t (edit (Edit.leave m c)) r q sound blanks ok e =
    let (s, st) = (taken_leave t m c ok).machine_used in
    (s, st, rw e (leave_set t r m s c sound blanks st))
does t refresh r q sound blanks ok f = (refreshed_tree t, refilled t r q blanks f)
