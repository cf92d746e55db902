-- A tree at other numbers: what it says of a number is what the tree says of the number that moved there, and it is sound where the tree is.
-- Assumes nothing.
use mathlib.Core.Path.{◌≡◌, refl, sym, ◌∙◌, ap}
use mathlib.Core.Logic.{⊎_elim}
use mathlib.Core.Bool.{Bool, true}
use mathlib.Core.Option.{Option, none, some}
use Prim.Native.Nat.{ℕ, ◌<◌}
use native.Mathlib.Omega.{arith}
use Rattle.definitions.specs.Basics.{◌>>=◌, option}
use Rattle.definitions.specs.Limits.{machines, nodes, costs}
use Rattle.definitions.specs.Tree.{Tree, Transition, Sound, used_machine, used_node}
use Rattle.definitions.specs.Merge.{Renumbering, renumbered, moved_transition}
use Rattle.definitions.proofs.Options.{bind_some, none_some, some_same, present}
use Rattle.definitions.proofs.Path.{Deep, at_root, under, deep}
use Rattle.definitions.proofs.Kept.{deep_climbs}
use Rattle.mergetheory.proofs.Ranks.{Renumbers}

-- ---- a field that moves along

-- the value of a moved field: its number came from one that had a value, and the value goes on
pub record Carried (from f to : ℕ → Option ℕ) (k v : ℕ) : Type 0 where
  pub number : ℕ
  pub value : ℕ
  pub came : from k ≡ some number
  pub had : f number ≡ some value
  pub goes : to value ≡ some v

pub carried : (from f to : ℕ → Option ℕ) (k : ℕ) {v : ℕ} → (from k >>= f >>= to) ≡ some v → Carried from f to k v
carried from f to k e =
    let (a, there, goes) = bind_some (from k >>= f) to e in
    let (d, came, had) = bind_some (from k) f there in
    record { number = d; value = a; came = came; had = had; goes = goes }

-- and back
carry : (from f to : ℕ → Option ℕ) (k : ℕ) {d a v : ℕ} → from k ≡ some d → f d ≡ some a → to a ≡ some v → (from k >>= f >>= to) ≡ some v
carry from f to k came had goes = rw (came, had) goes

-- two fields that lead back and forth still do
opposite : {a b : Renumbering} {pa qa pb qb : ℕ → Bool} → Renumbers a pa qa → Renumbers b pb qb → (f g : ℕ → Option ℕ)
    → ((i j : ℕ) → f i ≡ some j → g j ≡ some i) → (i j : ℕ) → (a.from i >>= f >>= b.to) ≡ some j → (b.from j >>= g >>= a.to) ≡ some i
opposite {a} {b} ra rb f g leads i j e =
    let c = carried a.from f b.to i e in
    carry b.from g a.to j (rb.back c.goes) (leads c.number c.value c.had) (ra.again c.came)

-- ---- what the tree says where a number moved

module _ {ns : Renumbering} {pn qn : ℕ → Bool} (rn : Renumbers ns pn qn) (ms : Renumbering) (r : ℕ) (t : Tree) {n k : ℕ}
    (to : ns.to n ≡ some k) where
  -- of a node: its owner, what is below it and the targets of its transitions, moved
  pub owner_at : (renumbered ms ns r t).owner k ≡ (t.owner n >>= ms.to)
  unfolding renumbered
  owner_at = rw (rn.back to)

  pub below_at : (renumbered ms ns r t).below k ≡ (t.below n >>= ms.to)
  unfolding renumbered
  below_at = rw (rn.back to)

  pub transition_at : (x : ℕ) → (renumbered ms ns r t).transition k x ≡ (t.transition n x >>= moved_transition ns.to)
  unfolding renumbered
  transition_at x = rw (rn.back to)

  -- and its hold
  pub hold_at_lem : (renumbered ms ns r t).hold k ≡ t.hold n
  unfolding renumbered
  hold_at_lem = rw (rn.back to)

module _ {ms : Renumbering} {pm qm : ℕ → Bool} (rm : Renumbers ms pm qm) (ns : Renumbering) (r : ℕ) (t : Tree) {m k : ℕ}
    (to : ms.to m ≡ some k) where
  -- of a machine: its start and its holder, moved
  pub start_at : (renumbered ms ns r t).start k ≡ (t.start m >>= ns.to)
  unfolding renumbered
  start_at = rw (rm.back to)

  pub holder_at : (renumbered ms ns r t).holder k ≡ (t.holder m >>= ns.to)
  unfolding renumbered
  holder_at = rw (rm.back to)

  -- and what leaving it costs
  pub leave_at_lem : (renumbered ms ns r t).leave k ≡ t.leave m
  unfolding renumbered
  leave_at_lem = rw (rm.back to)

-- ---- it is sound

module _ {t : Tree} (s : Sound t) {ms ns : Renumbering} {qm qn : ℕ → Bool} (rm : Renumbers ms (used_machine t) qm)
    (rn : Renumbers ns (used_node t) qn) where
  -- machines and nodes in use move
  machine_moves_lem : {m f : ℕ} → t.start m ≡ some f → (k : ℕ) × (ms.to m ≡ some k)
  machine_moves_lem {m} used = rm.moves m (rw used)

  node_moves_lem : {n m : ℕ} → t.owner n ≡ some m → (k : ℕ) × (ns.to n ≡ some k)
  node_moves_lem {n} own = rn.moves n (rw own)

  module _ {r : ℕ} (top : ms.to t.root ≡ some r) where
    -- a machine in use is in use where it moved, and so is a node
    start_there : (k : ℕ) {m f : ℕ} → ms.from k ≡ some m → t.start m ≡ some f → (g : ℕ) × ((renumbered ms ns r t).start k ≡ some g)
    unfolding renumbered
    start_there k {m} {f} came used =
        let (g, goes) = node_moves_lem (s.start_owned m f used) in
        (g, carry ms.from t.start ns.to k came used goes)

    owner_there : (k : ℕ) {n m : ℕ} → ns.from k ≡ some n → t.owner n ≡ some m → (p : ℕ) × ((renumbered ms ns r t).owner k ≡ some p)
    unfolding renumbered
    owner_there k {n} {m} came own =
        let (p, goes) = machine_moves_lem (s.owner_used n m own).1 in
        (p, carry ns.from t.owner ms.to k came own goes)

    -- where a machine moved it is as deep
    pub deep_moved : {m k : ℕ} → Deep t m k → (j : ℕ) → ms.to m ≡ some j → Deep (renumbered ms ns r t) j k
    unfolding renumbered
    deep_moved {m} (at_root e) j to = at_root (some_same (ap ms.to (sym e) ∙ to) top)
    deep_moved {m} (under {h = h} {p = p} held up way) j to =
        let (i, node) = node_moves_lem up in
        let (q, above) = machine_moves_lem (s.owner_used h p up).1 in
        under {h = i} (carry ms.from t.holder ns.to j (rm.back to) held node)
        (carry ns.from t.owner ms.to i (rn.back node) up above) (deep_moved way q above)

    -- a transition is one that moved
    transition_came : (n x : ℕ) (a : Transition) → (renumbered ms ns r t).transition n x ≡ some a
        → (k : ℕ) × (b : Transition) × (ns.from n ≡ some k) × (t.transition k x ≡ some b) × (ns.to b.target ≡ some a.target)
        × (b.cost ≡ a.cost)
    unfolding renumbered
    transition_came n x a e =
        let (k, came, rest) = bind_some (ns.from n) (λ k. t.transition k x >>= moved_transition ns.to) e in
        let (b, has, goes) = bind_some (t.transition k x) (moved_transition ns.to) rest in
        let make : ℕ → Option Transition = λ v. some (record { target = v; cost = b.cost }) in
        let (v, to, made) = bind_some (ns.to b.target) make goes in
        let same : record { target = v; cost = b.cost } ≡ a = some_same refl made in
        (k, b, came, has, to ∙ ap (λ (c : Transition). some c.target) same, ap (λ (c : Transition). c.cost) same)

    -- a hold is one that came along
    hold_small : (o : Option ℕ) → option 0 t.hold o < 2
    hold_small none = omega arith
    hold_small (some n) = s.hold_range n

    hold_came : (o : Option ℕ) → option 0 t.hold o ≡ 1 → (k : ℕ) × (o ≡ some k) × (t.hold k ≡ 1)
    hold_came none e = absurd (omega arith)
    hold_came (some k) e = (k, refl, e)

    -- and so is a leaving cost
    leave_small : (o : Option ℕ) → option 0 t.leave o < costs
    leave_small none = omega arith
    leave_small (some m) = s.leave_range m

    leave_none : (k : ℕ) → (renumbered ms ns r t).start k ≡ none → (o : Option ℕ) → ms.from k ≡ o → option 0 t.leave o ≡ 0
    leave_none k free none came = refl
    leave_none k free (some m) came =
        ⊎_elim (λ unused. s.leave_used m unused) (λ used. absurd (none_some free (start_there k came used.1).1)) (present (t.start m))

    -- the tree at other numbers is sound
    pub renumbered_sound : ((m : ℕ) → qm m ≡ true → m < machines) → ((n : ℕ) → qn n ≡ true → n < nodes) → Sound (renumbered ms ns r t)
    unfolding renumbered
    renumbered_sound machine_small node_small =
        record {
          root_used = start_there r (rm.back top) s.root_used.1;
          root_free = rw (rm.back top, s.root_free);
          machine_range = λ m f e. machine_small m (rm.there (rm.again (carried ms.from t.start ns.to m e).came)).1;
          node_range = λ n m e. node_small n (rn.there (rn.again (carried ns.from t.owner ms.to n e).came)).1;
          owner_used = λ n m e.
              let c = carried ns.from t.owner ms.to n e in
              start_there m (rm.back c.goes) (s.owner_used c.number c.value c.had).1;
          start_owned = opposite rm rn t.start t.owner s.start_owned;
          below_held = opposite rn rm t.below t.holder s.below_held;
          held_below = opposite rm rn t.holder t.below s.held_below;
          holder_used = λ m n e.
              let c = carried ms.from t.holder ns.to m e in
              owner_there n (rn.back c.goes) (s.holder_used c.number c.value c.had).1;
          held_used = λ m n e.
              let c = carried ms.from t.holder ns.to m e in
              start_there m c.came (s.held_used c.number c.value c.had).1;
          transition_range = λ n x a e.
              let (k, b, came, has, to, cost) = transition_came n x a e in
              rw (← cost) (s.transition_range k x b has);
          transition_owned = λ n x a e.
              let (k, b, came, has, to, cost) = transition_came n x a e in
              let (p, here, there) = s.transition_owned k x b has in
              let (q, goes) = machine_moves_lem (s.owner_used k p here).1 in (
                q,
                carry ns.from t.owner ms.to n came here goes,
                carry ns.from t.owner ms.to a.target (rn.back to) there goes,
              );
          hold_range = λ n. hold_small (ns.from n);
          hold_used = λ n e.
              let (k, came, one) = hold_came (ns.from n) e in
              owner_there n came (s.hold_used k one).1;
          hold_start = λ m f e.
              let c = carried ms.from t.start ns.to m e in
              rw (rn.back c.goes) (s.hold_start c.number c.value c.had);
          leave_range = λ m. leave_small (ms.from m);
          leave_used = λ m e. leave_none m e (ms.from m) refl;
          leave_root = rw (rm.back top) s.leave_root;
          climbs = λ m f e.
              let c = carried ms.from t.start ns.to m e in
              let (j, small, way) = deep s c.had in
              (j, small, deep_climbs (deep_moved way m (rm.again c.came)));
        }
