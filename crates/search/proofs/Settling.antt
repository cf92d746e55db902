-- What holds of the words and ranks while nodes are settled one after the other, each the nearest of those that are not: the invariant of the
-- search, and that one turn keeps it. Assumes nothing.
use mathlib.Core.Path.{◌≡◌, refl, sym, ◌∙◌, ap, subst}
use mathlib.Core.Logic.{◌⊎◌, inl, inr, ⊎_elim}
use mathlib.Core.Option.{Option, some}
use Prim.Native.Nat.{ℕ, ◌+◌, ◌*◌, ◌≤◌, ◌<◌}
use native.Mathlib.Omega.{arith}
use lib.Dec.{eqb}
use borrow.Author.Tests.{eq-eqb, ne_eqb}
use Rattle.definitions.specs.Basics.{count_below}
use Rattle.definitions.specs.Limits.{nodes, commands, absent}
use Rattle.definitions.specs.Step.{Arrival}
use Rattle.definitions.proofs.Options.{equal_or_not}
use Rattle.search.specs.Search.{largest_move, unreached}
use Rattle.search.specs.Parts.{Labels, Alike, Blank, Change, stays, better, Relaxed}
use Rattle.search.proofs.Counting.{count_all, count_less}
use Rattle.search.proofs.Stores.{Put, change_less}

-- the rank of a node that is not settled; that of a settled one is how many were settled before it
abbrev pub waiting : ℕ
waiting = 65535

-- u is a reached node that is not settled, and none of those is nearer
pub record Picked (k : ℕ) (dist rank : ℕ → ℕ) (u : ℕ) : Type 0 where
  pub inside : u < k
  pub waits : rank u ≡ waiting
  pub reached : dist u < unreached
  pub least : (v : ℕ) → v < k → rank v ≡ waiting → dist u ≤ dist v

-- moves between k nodes
pub record Moves (k : ℕ) (move : ℕ → ℕ → Option Arrival) : Type 0 where
  pub from : (u x : ℕ) (b : Arrival) → move u x ≡ some b → u < k
  pub range : (u x : ℕ) (b : Arrival) → move u x ≡ some b → x < commands
  pub inside : (u x : ℕ) (b : Arrival) → move u x ≡ some b → b.node < k
  pub cheap : (u x : ℕ) (b : Arrival) → move u x ≡ some b → b.cost ≤ largest_move

-- The words of a node other than the source: they name a move of a settled node of smaller rank that gives its distance, or they are blank.
-- A node is settled if its rank is below n.
pub data Label (k : ℕ) (move : ℕ → ℕ → Option Arrival) (st : Labels) (rank : ℕ → ℕ) (n v : ℕ) : Type 0 where
  by_move : (u x w : ℕ) → st.before v ≡ u → st.by v ≡ x → u < k → rank u < n → rank u < rank v → move u x ≡ some (record { node = v; cost = w })
      → st.dist v ≡ st.dist u + w → Label k move st rank n v
  blank : st.dist v ≡ unreached → st.before v ≡ absent → st.by v ≡ absent → Label k move st rank n v

-- the invariant: n nodes are settled
pub record Settling (k s : ℕ) (move : ℕ → ℕ → Option Arrival) (first st : Labels) (rank : ℕ → ℕ) (n : ℕ) : Type 0 where
  pub count : n + count_below k (λ v. eqb (rank v) waiting) ≡ k
  pub ranks : (v : ℕ) → v < k → (rank v ≡ waiting) ⊎ (rank v < n)
  pub start_dist : st.dist s ≡ 0
  pub start_before : st.before s ≡ absent
  pub start_by : st.by s ≡ absent
  -- settled nodes are no dearer than the others
  pub low : (u v : ℕ) → u < k → v < k → rank u < n → rank v ≡ waiting → st.dist u ≤ st.dist v
  pub cheap : (v : ℕ) → v < k → rank v < n → st.dist v ≤ rank v * largest_move
  -- their moves are relaxed
  pub relaxed : (u x : ℕ) (b : Arrival) → rank u < n → move u x ≡ some b → st.dist b.node ≤ st.dist u + b.cost
  pub others : (v : ℕ) → v < k → (v ≡ s → ⊥) → Label k move st rank n v
  -- the words from k on are as they were
  pub rest : (v : ℕ) → k ≤ v → Alike first st v

-- before the first turn: the words are blank and every node waits
module _ {k s : ℕ} {st : Labels} {rank : ℕ → ℕ} (in_s : s < k) (fill : Blank k s st)
    (waits : (v : ℕ) → v < k → rank v ≡ waiting) where
  -- no node is settled
  pub begins : (move : ℕ → ℕ → Option Arrival) → Settling k s move st st rank 0
  begins move =
      record {
        count = omega (arith, count_all k (λ v. eqb (rank v) waiting) (λ v h. eq-eqb (rank v) waiting (waits v h)));
        ranks = λ v h. inl (waits v h);
        start_dist = fill.start;
        start_before = fill.before s in_s;
        start_by = fill.by s in_s;
        low = λ u v hu hv done w. absurd (omega arith);
        cheap = λ v h done. absurd (omega arith);
        relaxed = λ u x b done step. absurd (omega arith);
        others = λ v h other. blank (fill.dist v h other) (fill.before v h) (fill.by v h);
        rest = λ v h. record { dist = refl; before = refl; by = refl };
      }

module _ {k s : ℕ} {move : ℕ → ℕ → Option Arrival} {first old : Labels} {rank : ℕ → ℕ} {n u : ℕ}
    (moves : Moves k move) (inv : Settling k s move first old rank n) (pick : Picked k old.dist rank u) where
  -- the one in hand costs no more than its rank allows
  pub hand_cheap : old.dist u ≤ n * largest_move
  hand_cheap = ⊎_elim (λ (e : u ≡ s). omega (arith, ap old.dist e, inv.start_dist)) (λ e. go (inv.others u pick.inside e)) (equal_or_not u s)
    where
      go : Label k move old rank n u → old.dist u ≤ n * largest_move
      go (by_move p x w before by in_p done less step d) = omega (arith, inv.cheap p in_p done, moves.cheap p x _ step)
      go (blank d before by) = omega (arith, pick.reached)

-- one turn: u, the nearest of the nodes that wait, is settled, and its moves are relaxed
module _ {k s : ℕ} {move : ℕ → ℕ → Option Arrival} {first old new : Labels} {rank rank' : ℕ → ℕ} {n u : ℕ} {row : ℕ → Option Arrival}
    (small : k ≤ nodes) (moves : Moves k move) (inv : Settling k s move first old rank n)
    (pick : Picked k old.dist rank u) (put : Put rank rank' u n)
    (same_row : (x : ℕ) → move u x ≡ row x) (r : Relaxed row u commands old new) where
  few : n ≤ k
  few = omega (arith, inv.count)

  -- settled nodes keep their words, and so does u
  settled_same : (v : ℕ) → v < k → rank v < n → Alike old new v
  settled_same v h done = go (r.each v)
    where
      go : Change row u old new v → Alike old new v
      go (stays same) = same
      go (better x w e d less before by) = absurd (omega (arith, inv.low v u h pick.inside done pick.waits))

  hand_same : Alike old new u
  hand_same = go (r.each u)
    where
      go : Change row u old new u → Alike old new u
      go (stays same) = same
      go (better x w e d less before by) = absurd (omega (arith, r.here))

  -- who is settled after the turn
  after : (v : ℕ) → v < k → rank' v < n + 1 → (v ≡ u) ⊎ ((rank v < n) × (rank' v ≡ rank v))
  after v h done =
      ⊎_elim inl
      (λ e.
      let same = put.other v e in
      ⊎_elim (λ (waits : rank v ≡ waiting). absurd (omega (arith, few))) (λ d. inr (d, same)) (inv.ranks v h))
      (equal_or_not v u)

  -- who waits after the turn waited before
  waited : (v : ℕ) → rank' v ≡ waiting → (v ≡ u → ⊥) × (rank v ≡ waiting)
  waited v e =
      let other : v ≡ u → ⊥ = λ same. omega (arith, ap rank' same, put.same, few) in
      (other, sym (put.other v other) ∙ e)

  still : (v : ℕ) → v < k → rank' v < n + 1 → Alike old new v
  still v h done = ⊎_elim (λ e. subst (Alike old new) (sym e) hand_same) (λ d. settled_same v h d.0) (after v h done)

  -- no settled node costs more than u
  under_hand : (v : ℕ) → v < k → rank' v < n + 1 → old.dist v ≤ old.dist u
  under_hand v h done =
      ⊎_elim (λ (e : v ≡ u). omega (arith, ap old.dist e)) (λ d. inv.low v u h pick.inside d.0 pick.waits) (after v h done)

  -- and no other costs less
  over_hand : (v : ℕ) → v < k → rank' v ≡ waiting → old.dist u ≤ new.dist v
  over_hand v h waits = go (r.each v)
    where
      go : Change row u old new v → old.dist u ≤ new.dist v
      go (stays same) = omega (arith, same.dist, pick.least v h (waited v waits).1)
      go (better x w e d less before by) = omega arith

  -- the parts of the invariant, after the turn
  turn_ranks : (v : ℕ) → v < k → (rank' v ≡ waiting) ⊎ (rank' v < n + 1)
  turn_ranks v h =
      ⊎_elim (λ (e : v ≡ u). inr (omega (arith, ap rank' e, put.same)))
      (λ e. ⊎_elim (λ waits. inl (put.other v e ∙ waits)) (λ d. inr (omega (arith, put.other v e))) (inv.ranks v h))
      (equal_or_not v u)

  turn_cheap : (v : ℕ) → v < k → rank' v < n + 1 → new.dist v ≤ rank' v * largest_move
  turn_cheap v h done =
      let same = (still v h done).dist in
      ⊎_elim (λ (e : v ≡ u). omega (arith, ap old.dist e, ap rank' e, put.same, hand_cheap moves inv pick))
      (λ d. omega (arith, d.1, inv.cheap v h d.0))
      (after v h done)

  turn_relaxed : (v x : ℕ) (b : Arrival) → rank' v < n + 1 → move v x ≡ some b → new.dist b.node ≤ new.dist v + b.cost
  turn_relaxed v x b done step =
      let h = moves.from v x b step in
      let same = (still v h done).dist in
      ⊎_elim
      (λ (e : v ≡ u).
      let step_u : row x ≡ some b = sym (same_row x) ∙ subst (λ (w : ℕ). move w x ≡ some b) e step in
      omega (arith, ap old.dist e, r.met x b (moves.range v x b step) step_u))
      (λ d. omega (arith, change_less (r.each b.node), inv.relaxed v x b d.0 step))
      (after v h done)

  turn_others : (v : ℕ) → v < k → (v ≡ s → ⊥) → Label k move new rank' (n + 1) v
  turn_others v h other = go (r.each v)
    where
      kept : Alike old new v → Label k move old rank n v → Label k move new rank' (n + 1) v
      kept same (by_move p x w before by in_p done less step d) =
          let away : p ≡ u → ⊥ = λ e. omega (arith, ap rank e, pick.waits, few) in
          let same_p = put.other p away in
          let rank_v : rank p < rank' v =
          ⊎_elim (λ (e : v ≡ u). omega (arith, ap rank' e, put.same)) (λ e. omega (arith, put.other v e)) (equal_or_not v u) in
          by_move p x w (same.before ∙ before) (same.by ∙ by) in_p (omega arith) (omega arith) step
          (omega (arith, same.dist, (settled_same p in_p done).dist))
      kept same (blank d before by) = blank (same.dist ∙ d) (same.before ∙ before) (same.by ∙ by)

      go : Change row u old new v → Label k move new rank' (n + 1) v
      go (stays same) = kept same (inv.others v h other)
      go (better x w e d less before by) =
          let waits : rank' v ≡ waiting =
          ⊎_elim (λ waits. waits) (λ done. absurd (omega (arith, (still v h done).dist, less))) (turn_ranks v h) in
          by_move u x w before by pick.inside (omega (arith, put.same)) (omega (arith, put.same, few)) (same_row x ∙ e) (omega (arith, hand_same.dist))

  turn_rest : (v : ℕ) → k ≤ v → Alike first new v
  turn_rest v h = go (r.each v)
    where
      go : Change row u old new v → Alike first new v
      go (stays same) =
          let before = inv.rest v h in
          record { dist = same.dist ∙ before.dist; before = same.before ∙ before.before; by = same.by ∙ before.by }
      go (better x w e d less before by) = absurd (omega (arith, moves.inside u x _ (same_row x ∙ e)))

  turn_start : Alike old new s
  turn_start = go (r.each s)
    where
      go : Change row u old new s → Alike old new s
      go (stays same) = same
      go (better x w e d less before by) = absurd (omega (arith, inv.start_dist))

  turn_count : n + 1 + count_below k (λ v. eqb (rank' v) waiting) ≡ k
  turn_count =
      let fewer =
      count_less k (λ v. eqb (rank v) waiting) (λ v. eqb (rank' v) waiting) u pick.inside (eq-eqb (rank u) waiting pick.waits)
      (ne_eqb (rank' u) waiting (λ e. omega (arith, put.same, few)))
      (λ v e. ap (λ (z : ℕ). eqb z waiting) (sym (put.other v e))) in
      omega (arith, fewer, inv.count)

  pub turn : Settling k s move first new rank' (n + 1)
  turn =
      record {
        count = turn_count;
        ranks = turn_ranks;
        start_dist = turn_start.dist ∙ inv.start_dist;
        start_before = turn_start.before ∙ inv.start_before;
        start_by = turn_start.by ∙ inv.start_by;
        low = λ v w hv hw done waits. omega (arith, (still v hv done).dist, under_hand v hv done, over_hand w hw waits);
        cheap = turn_cheap;
        relaxed = turn_relaxed;
        others = turn_others;
        rest = turn_rest;
      }
