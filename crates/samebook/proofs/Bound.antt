-- Write's stream for a sound tree has at most 34,938 bytes: an add brings a node for its 4 bytes, a refine a node and a machine for its 6, a
-- hold a held node and a leave a charged machine for their 4; there are at most 4,096 transitions of 8 bytes, 256 nodes and 64 machines, of which the
-- root is not charged, and the nodes that are held and those that are starts, one for each machine, are different ones. So it has at most 34,810 and
-- 2 for each machine. Assumes nothing.
use mathlib.Core.Path.{◌≡◌, refl, ap}
use mathlib.Core.Logic.{⊎_elim}
use mathlib.Core.Bool.{Bool, true, false, cond, not, ◌&&◌}
use mathlib.Core.Option.{Option, none, some}
use mathlib.Core.List.{[], List}
use Prim.Native.Nat.{ℕ, zero, suc, ◌+◌, ◌*◌, ◌-◌, ◌≤◌, ◌<◌}
use native.Mathlib.Omega.{arith}
use lib.Dec.{eqb, ltb}
use borrow.Author.Tests.{ltb-true, lt-ltb, le-ltb, eqb-true, eq-eqb, ne_eqb}
use lib.ListN.{length, length-append}
use Rattle.definitions.specs.Basics.{option, is_some, is_at, put, count_below}
use Rattle.definitions.specs.Limits.{machines, nodes, commands, levels}
use Rattle.definitions.specs.Tree.{Tree, Sound, used_machine, used_node, on_hold}
use Rattle.definitions.specs.Stream.{add, refine, arrow, hold, leave}
use Rattle.definitions.specs.Edit.{single, with_transition, edited}
use Rattle.definitions.specs.Write.{written_add, written_refine, written_arrow, written_hold, written_leave}
use Rattle.definitions.specs.Demand.{WriteBound}
use Rattle.definitions.proofs.Options.{present, true_false, and_true, put_same, is_at_true}
use Rattle.definitions.proofs.Words.{start_range}
use Rattle.definitions.proofs.Simple.{count_none, count_pass, count_skip, count_mono, count_more, count_limit}
use Rattle.definitions.proofs.Commands.{TakenAdd, TakenRefine, not_true_false}
use Rattle.samebook.proofs.Clock.{add_at, refine_at, arrow_at, hold_at, leave_at, after_begin, after_levels, after_arrows, after_all}
use Rattle.samebook.proofs.Grown.{grown, grown_begin, grown_end, add_none, add_may, add_done}
use Rattle.samebook.proofs.Grown.{refine_none, refine_may, refine_done, arrow_none, arrow_done, hold_none, hold_late, hold_done}
use Rattle.samebook.proofs.Grown.{leave_none, leave_late, leave_done}
use Rattle.samebook.proofs.Written.{AddCase, no_add, one_add, add_case, RefineCase, no_refine, one_refine, refine_case}
use Rattle.samebook.proofs.Written.{ArrowCase, no_arrow, one_arrow, arrow_case, HoldCase, no_hold, one_hold, hold_case}
use Rattle.samebook.proofs.Written.{LeaveCase, no_leave, one_leave, leave_case}
use Rattle.samebook.proofs.Written.{body, written_parts, Piecewise, body_all}

-- whether leaving a machine costs something
abbrev charged : Tree → ℕ → Bool
charged u m = not (eqb (u.leave m) 0)

-- the bytes that a tree's nodes, machines, holds and leaving costs may cost
unfoldable weight : Tree → ℕ
weight u =
    4 * count_below nodes (used_node u) + 2 * count_below machines (used_machine u) + 4 * count_below nodes (on_hold u)
    + 4 * count_below machines (charged u)

-- what is counted after a value is put where there was none: one more
put_counts : (k : ℕ) (f : ℕ → Option ℕ) (n v : ℕ) → n < k → f n ≡ none
    → count_below k (λ i. is_some (f i)) < count_below k (λ i. is_some (put f n (some v) i))
put_counts k f n v small new =
    count_more k (λ i. is_some (f i)) (λ i. is_some (put f n (some v) i)) (λ i. kept (eqb i n) (f i)) n small (rw new)
    (rw (put_same f n (some v)))
  where
    kept : (b : Bool) (o : Option ℕ) → is_some o ≡ true → is_some (cond b (some v) o) ≡ true
    kept true o e = refl
    kept false o e = e

-- an add brings a node
add_weight : {u : Tree} {m n : ℕ} → TakenAdd u m n → 4 + weight u ≤ weight (edited u (add m n))
unfolding weight edited
add_weight {u} {m} {n} k = omega (arith, put_counts nodes u.owner n m k.node_range k.node_new)

-- a refine brings a node and a machine
refine_weight : {u : Tree} {n m f : ℕ} → TakenRefine u n m f → 6 + weight u ≤ weight (edited u (refine n m f))
unfolding weight edited
refine_weight {u} {n} {m} {f} k =
    omega (
      arith,
      put_counts nodes u.owner f m k.first_range k.first_new,
      put_counts machines u.start m f k.machine_range k.machine_new,
    )

-- an arrow brings neither
arrow_weight : (u : Tree) (n x v c : ℕ) → weight (edited u (arrow n x v c)) ≡ weight u
unfolding weight edited with_transition
arrow_weight u n x v c = refl

-- a hold brings a held node
hold_weight : (u : Tree) {n : ℕ} → n < nodes → u.hold n ≡ 0 → 4 + weight u ≤ weight (edited u (hold n 1))
unfolding weight edited
hold_weight u {n} small free =
    omega (
      arith,
      count_more nodes (on_hold u) (λ i. eqb (put u.hold n 1 i) 1) (λ i. kept (eqb i n) (u.hold i)) n small (rw free) (rw (put_same u.hold n 1)),
    )
  where
    kept : (b : Bool) (h : ℕ) → eqb h 1 ≡ true → eqb (cond b 1 h) 1 ≡ true
    kept true h e = refl
    kept false h e = e

-- a leave brings a charged machine
leave_weight : (u : Tree) {m c : ℕ} → m < machines → u.leave m ≡ 0 → (c ≡ 0 → ⊥) → 4 + weight u ≤ weight (edited u (leave m c))
unfolding weight edited
leave_weight u {m} {c} small free costs =
    omega (
      arith,
      count_more machines (charged u) (λ p. not (eqb (put u.leave m c p) 0)) (λ p. kept (eqb p m) (u.leave p)) m small (rw free)
          (rw (put_same u.leave m c, ne_eqb c 0 costs)),
    )
  where
    kept : (b : Bool) (d : ℕ) → not (eqb d 0) ≡ true → not (eqb (cond b c d) 0) ≡ true
    kept true d e = rw (ne_eqb c 0 costs)
    kept false d e = e

-- begin's machine and node
single_weight : (m n : ℕ) → m < machines → n < nodes → 6 ≤ weight (single m n)
unfolding weight single
single_weight m n machine node =
    omega (
      arith,
      put_counts nodes (λ i. none) n m node refl,
      put_counts machines (λ i. none) m n machine refl,
    )

-- ---- held nodes and start nodes

-- whether a node is the start of a machine under k
start_under : Tree → ℕ → ℕ → Bool
start_under t k n = option false (λ m. ltb m k && is_at (t.start m) n) (t.owner n)

-- whether a node in use is not
others : Tree → ℕ → ℕ → Bool
others t k n = used_node t n && not (start_under t k n)

-- with one machine more no more of them are left
others_fewer : (t : Tree) (k n : ℕ) → others t (suc k) n ≡ true → others t k n ≡ true
unfolding others start_under
others_fewer t k n = go (t.owner n)
  where
    tests : (m : ℕ) (b c : Bool) → ltb m k ≡ c → not (ltb m (suc k) && b) ≡ true → not (c && b) ≡ true
    tests m b true e h = rw (lt-ltb m (suc k) (omega (arith, ltb-true m k e))) at h
    tests m b false e h = refl

    go : (o : Option ℕ) → (is_some o && not (option false (λ m. ltb m (suc k) && is_at (t.start m) n) o)) ≡ true
        → (is_some o && not (option false (λ m. ltb m k && is_at (t.start m) n) o)) ≡ true
    go none h = h
    go (some m) h = tests m (is_at (t.start m) n) (ltb m k) refl h

module _ {t : Tree} (s : Sound t) where
  -- with each machine in use one less is left: its start
  left : (k f : ℕ) → t.start k ≡ some f → count_below nodes (others t (suc k)) < count_below nodes (others t k)
  unfolding others start_under
  left k f e =
      let own : t.owner f ≡ some k = s.start_owned k f e in
      count_more nodes (others t (suc k)) (others t k) (others_fewer t k) f (s.node_range f k own)
      (rw (own, e, lt-ltb k (suc k) (omega arith), eq-eqb f f refl)) (rw (own, le-ltb k k (omega arith)))

  -- the machines in use under k, and the nodes in use that are no start of one of them, are together at most the nodes in use
  starts_counted : (k : ℕ) → count_below k (used_machine t) + count_below nodes (others t k) ≤ count_below nodes (used_node t)
  unfolding others
  starts_counted zero =
      omega (
        arith,
        count_none (used_machine t),
        count_mono nodes (others t 0) (used_node t) (λ i e. (and_true (used_node t i) (not (start_under t 0 i)) e).0),
      )
  starts_counted (suc k) =
      let so_far = starts_counted k in
      ⊎_elim
      (λ unused.
      omega (arith, so_far, count_skip (used_machine t) k (rw unused), count_mono nodes (others t (suc k)) (others t k) (others_fewer t k)))
      (λ used. omega (arith, so_far, count_pass (used_machine t) k (rw used.1), left k used.0 used.1)) (present (t.start k))

  -- held nodes are among those that are left
  held_others : (n : ℕ) → on_hold t n ≡ true → others t machines n ≡ true
  unfolding others start_under
  held_others n e =
      let one : t.hold n ≡ 1 = eqb-true (t.hold n) 1 e in
      let (m, own) = s.hold_used n one in
      rw own (free (ltb m machines) m (not_true_false (λ at. omega (arith, s.hold_start m n (is_at_true (t.start m) n at)))))
    where
      free : (b : Bool) (m : ℕ) → is_at (t.start m) n ≡ false → not (b && is_at (t.start m) n) ≡ true
      free true m off = rw off
      free false m off = refl

  -- a charged machine is in use, and the root is not charged
  charged_used : (m : ℕ) → charged t m ≡ true → used_machine t m ≡ true
  charged_used m e =
      ⊎_elim (λ unused. absurd (true_false e (rw (s.leave_used m unused)))) (λ used. rw used.1) (present (t.start m))

  -- so a sound tree weighs no more than one with all nodes and machines, all nodes but the starts held and all machines but the root charged
  weight_limit : weight t ≤ 2172
  unfolding weight
  weight_limit =
      let (f, root) = s.root_used in
      omega (
        arith,
        count_limit nodes (used_node t),
        starts_counted machines,
        count_mono nodes (on_hold t) (others t machines) held_others,
        count_limit machines (used_machine t),
        count_more machines (charged t) (used_machine t) charged_used t.root (s.machine_range t.root f root) (rw s.leave_root) (rw root),
      )

-- ---- the whole stream

-- what may have been spent before a place: on the nodes, machines, holds and leaving costs that are there, and 8 bytes on every transition passed
abbrev spent : Tree → ℕ → ℕ
spent t T = weight (grown t T) + 8 * ((after_arrows - after_levels) - (after_arrows - T))

-- the bytes between two places are no more than what is spent between them
abbrev Pays : Tree → ℕ → List ℕ → ℕ → Type 0
Pays t a bytes b = length bytes + spent t a ≤ spent t b

-- no bytes cost nothing
pays_none : (t : Tree) (a : ℕ) {bytes : List ℕ} → bytes ≡ [] → grown t a ≡ grown t (suc a) → Pays t a bytes (suc a)
pays_none t a empty same = omega (arith, ap length empty, ap weight same)

-- what stands at each place is paid for
pays_add : {t : Tree} → Sound t → (l i : ℕ) → l < levels → i < nodes
    → Pays t (add_at (suc l) i) (written_add t (suc l) i) (suc (add_at (suc l) i))
pays_add {t} s l i high small = go (add_case t (suc l) i)
  where
    go : AddCase t (suc l) i → Pays t (add_at (suc l) i) (written_add t (suc l) i) (suc (add_at (suc l) i))
    go (no_add empty not_here) = pays_none t (add_at (suc l) i) empty (add_none s l i high small not_here)
    go (one_add {m = m} bytes own other at) =
        omega (
          arith,
          ap length bytes,
          add_weight (add_may s l i high small own other at),
          ap weight (add_done s l i high small own other at),
        )

pays_refine : {t : Tree} → Sound t → (l i : ℕ) → l < levels → i < nodes
    → Pays t (refine_at (suc l) i) (written_refine t (suc l) i) (suc (refine_at (suc l) i))
pays_refine {t} s l i high small = go (refine_case s (suc l) i)
  where
    go : RefineCase t (suc l) i → Pays t (refine_at (suc l) i) (written_refine t (suc l) i) (suc (refine_at (suc l) i))
    go (no_refine empty not_here) = pays_none t (refine_at (suc l) i) empty (refine_none s l i high small not_here)
    go (one_refine {b = b} {f = f} bytes holds first at) =
        omega (
          arith,
          ap length bytes,
          refine_weight (refine_may s l i high small holds first at),
          ap weight (refine_done s l i high small holds first at),
        )

pays_arrow : {t : Tree} → Sound t → (n x : ℕ) → n < nodes → x < commands
    → Pays t (arrow_at n x) (written_arrow t n x) (suc (arrow_at n x))
pays_arrow {t} s n x small known = go (arrow_case t n x)
  where
    go : ArrowCase t n x → Pays t (arrow_at n x) (written_arrow t n x) (suc (arrow_at n x))
    go (no_arrow empty free) = pays_none t (arrow_at n x) empty (arrow_none s n x small known free)
    go (one_arrow {a = a} bytes drawn) =
        omega (
          arith,
          ap length bytes,
          arrow_weight (grown t (arrow_at n x)) n x a.target a.cost,
          ap weight (arrow_done s n x small known drawn),
        )

pays_hold : {t : Tree} → Sound t → (n : ℕ) → n < nodes → Pays t (hold_at n) (written_hold t n) (suc (hold_at n))
pays_hold {t} s n small = go (hold_case s n)
  where
    go : HoldCase t n → Pays t (hold_at n) (written_hold t n) (suc (hold_at n))
    go (no_hold empty free) = pays_none t (hold_at n) empty (hold_none s n small free)
    go (one_hold bytes one) =
        omega (
          arith,
          ap length bytes,
          hold_weight (grown t (hold_at n)) small (hold_late t n),
          ap weight (hold_done s n small one),
        )

pays_leave : {t : Tree} → Sound t → (m : ℕ) → m < machines → Pays t (leave_at m) (written_leave t m) (suc (leave_at m))
pays_leave {t} s m small = go (leave_case t m)
  where
    go : LeaveCase t m → Pays t (leave_at m) (written_leave t m) (suc (leave_at m))
    go (no_leave empty free) = pays_none t (leave_at m) empty (leave_none s m small free)
    go (one_leave bytes costs) =
        omega (
          arith,
          ap length bytes,
          leave_weight (grown t (leave_at m)) small (leave_late t m) costs,
          ap weight (leave_done s m small costs),
        )

-- Write's stream is no longer than the longest stream
pub write_bound : WriteBound
write_bound t s =
    let (f, first) = s.root_used in
    let (machine, node) = start_range t s t.root f first in
    let paid : Pays t after_begin (body t) after_all = body_all pieces t (pays_add s) (pays_refine s) (pays_arrow s) (pays_hold s) (pays_leave s) in
    omega (
      arith,
      ap length (written_parts t first),
      single_weight t.root f machine node,
      ap weight (grown_begin s f first),
      ap weight (grown_end s),
      weight_limit s,
    )
  where
    pieces : Piecewise (Pays t)
    pieces =
        record {
          empty = λ a. omega arith;
          both = λ a b c xs ys first_part second_part. omega (arith, length-append xs ys);
        }
