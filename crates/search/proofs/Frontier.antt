-- The list of the reached nodes while nodes are settled: its first n are settled, and the others, the frontier, are all that are reached and
-- wait. Assumes nothing.
use mathlib.Core.Path.{◌≡◌, refl, sym, ◌∙◌, ap, subst}
use mathlib.Core.Logic.{⊎_elim}
use mathlib.Core.Option.{Option}
use Prim.Native.Nat.{ℕ, ◌+◌, ◌≤◌, ◌<◌}
use native.Mathlib.Omega.{arith}
use Rattle.definitions.specs.Basics.{put}
use Rattle.definitions.specs.Limits.{nodes, commands}
use Rattle.definitions.specs.Step.{Arrival}
use Rattle.definitions.proofs.Options.{equal_or_not}
use Rattle.definitions.proofs.Tests.{under_or_past}
use Rattle.search.specs.Search.{unreached}
use Rattle.search.specs.Parts.{Labels, Blank, Listing, Grown, Swapped, Brought, Change, stays, better, Relaxed}
use Rattle.search.proofs.Stores.{Put, put_put}
use Rattle.search.proofs.Picking.{swapped}
use Rattle.search.proofs.Settling.{waiting, Picked, Moves, Settling}

pub record Frontier (k : ℕ) (dist rank order : ℕ → ℕ) (n count : ℕ) : Type 0 where
  pub listing : Listing dist order count
  pub inside : (i : ℕ) → i < count → order i < k
  pub all : (v : ℕ) → v < k → dist v < unreached → (i : ℕ) × (i < count) × (order i ≡ v)
  pub settled : (i : ℕ) → i < n → i < count → rank (order i) < n
  pub waits : (i : ℕ) → n ≤ i → i < count → rank (order i) ≡ waiting

-- before the first turn: the source alone is reached
pub frontier_first : {k s : ℕ} {st : Labels} {rank order : ℕ → ℕ} → s < k → k ≤ nodes → Blank k s st → ((v : ℕ) → v < k → rank v ≡ waiting)
    → order 0 ≡ s → Frontier k st.dist rank order 0 1
frontier_first {k} {s} {st} {rank} {order} in_s small blank waits first =
    record {
      listing =
          record {
            range = λ i h. omega (arith, is i h);
            reached = λ i h. omega (arith, ap st.dist (is i h), blank.start);
            once = λ i j hi hj e. omega arith;
          };
      inside = λ i h. omega (arith, is i h);
      all =
          λ v h near.
          ⊎_elim (λ (e : v ≡ s). (0, omega arith, first ∙ sym e)) (λ e. absurd (omega (arith, blank.dist v h e))) (equal_or_not v s);
      settled = λ i h below. absurd (omega arith);
      waits = λ i h below. waits (order i) (omega (arith, is i below));
    }
  where
    is : (i : ℕ) → i < 1 → order i ≡ s
    is i h =
        let same : i ≡ 0 = omega arith in
        ap order same ∙ first

-- the exchange of two places, as a function of the places
module _ (a b : ℕ) where
  swap : ℕ → ℕ
  swap = put (put (λ i. i) b a) a b

  swap_is : Swapped (λ i. i) swap a b
  unfolding swap
  swap_is = swapped (put_put (λ i. i) b a) (put_put (put (λ i. i) b a) a b) refl

  swap_back : (i : ℕ) → swap (swap i) ≡ i
  swap_back i =
      ⊎_elim (λ (e : i ≡ a). ap swap (ap swap e ∙ swap_is.first) ∙ swap_is.second ∙ sym e)
      (λ p.
      ⊎_elim (λ (e : i ≡ b). ap swap (ap swap e ∙ swap_is.second) ∙ swap_is.first ∙ sym e)
      (λ q. ap swap (swap_is.other i p q) ∙ swap_is.other i p q)
      (equal_or_not i b))
      (equal_or_not i a)

  -- it stays between two bounds that hold both places
  swap_range : (low high : ℕ) → low ≤ a → a < high → low ≤ b → b < high → (i : ℕ) → low ≤ i → i < high → (low ≤ swap i) × (swap i < high)
  swap_range low high la ha lb hb i li hi =
      ⊎_elim (λ (e : i ≡ a). let is = ap swap e ∙ swap_is.first in (omega arith, omega arith))
      (λ p.
      ⊎_elim (λ (e : i ≡ b). let is = ap swap e ∙ swap_is.second in (omega arith, omega arith))
      (λ q. let is = swap_is.other i p q in (omega arith, omega arith))
      (equal_or_not i b))
      (equal_or_not i a)

  -- a list whose places are exchanged
  swap_at : {order order' : ℕ → ℕ} → Swapped order order' a b → (i : ℕ) → order' i ≡ order (swap i)
  swap_at {order} {order'} s i =
      ⊎_elim (λ (e : i ≡ a). ap order' e ∙ s.first ∙ ap order (sym (ap swap e ∙ swap_is.first)))
      (λ p.
      ⊎_elim (λ (e : i ≡ b). ap order' e ∙ s.second ∙ ap order (sym (ap swap e ∙ swap_is.second)))
      (λ q. s.other i p q ∙ ap order (sym (swap_is.other i p q)))
      (equal_or_not i b))
      (equal_or_not i a)

module _ {k : ℕ} {dist rank order order' : ℕ → ℕ} {n count u : ℕ}
    (f : Frontier k dist rank order n count) (b : Brought dist order order' n count u) where
  -- the node brought is the nearest that waits
  pub brought_picked : n ≤ nodes → Picked k dist rank u
  brought_picked few =
      let near = b.nearest in
      record {
        inside = subst (λ (v : ℕ). v < k) (sym b.node) (f.inside b.place near.below);
        waits = ap rank b.node ∙ f.waits b.place near.from near.below;
        reached = hand;
        least = λ v h waits. ⊎_elim (λ r. listed v waits (f.all v h r)) (λ far. omega (arith, hand)) (under_or_past (dist v) unreached);
      }
    where
      hand : dist u < unreached
      hand = omega (arith, ap dist b.node, f.listing.reached b.place b.nearest.below)

      listed : (v : ℕ) → rank v ≡ waiting → (i : ℕ) × (i < count) × (order i ≡ v) → dist u ≤ dist v
      listed v waits (i, below, is) =
          ⊎_elim (λ done. absurd (omega (arith, ap rank is, f.settled i done below)))
          (λ from. omega (arith, ap dist b.node, ap dist is, b.nearest.least i from below))
          (under_or_past i n)

  -- and the list is one still
  pub brought_frontier : Frontier k dist rank order' n count
  brought_frontier =
      record {
        listing =
            record {
              range = λ i h. each (λ v. v < nodes) f.listing.range i h;
              reached = λ i h. each (λ v. dist v < unreached) f.listing.reached i h;
              once =
                  λ i j hi hj e.
                  sym (back i) ∙ ap move (f.listing.once (move i) (move j) (bound i hi) (bound j hj) (sym (moved i) ∙ e ∙ moved j)) ∙ back j;
            };
        inside = λ i h. each (λ v. v < k) f.inside i h;
        all =
            λ v h near.
            let (i, below, is) = f.all v h near in
            (move i, bound i below, moved (move i) ∙ ap order (back i) ∙ is);
        settled =
            λ i done below.
            subst (λ (v : ℕ). rank v < n) (sym (b.swapped.other i (λ e. omega arith) (λ e. omega (arith, b.nearest.from)))) (f.settled i done below);
        waits =
            λ i from below.
            let at_least_lem = swap_range n b.place n count (omega arith) some_waits b.nearest.from b.nearest.below i from below in
            ap rank (moved i) ∙ f.waits (move i) at_least_lem.0 at_least_lem.1;
      }
    where
      some_waits : n < count
      some_waits = omega (arith, b.nearest.from, b.nearest.below)

      move : ℕ → ℕ
      move = swap n b.place

      back : (i : ℕ) → move (move i) ≡ i
      back = swap_back n b.place

      moved : (i : ℕ) → order' i ≡ order (move i)
      moved = swap_at n b.place b.swapped

      bound : (i : ℕ) → i < count → move i < count
      bound i h = (swap_range n b.place 0 count (omega arith) some_waits (omega arith) b.nearest.below i (omega arith) h).1

      each : (P : ℕ → Type 0) → ((i : ℕ) → i < count → P (order i)) → (i : ℕ) → i < count → P (order' i)
      each P holds i h = subst P (sym (moved i)) (holds (move i) (bound i h))

-- one turn: u, at place n, is settled, its moves are relaxed, and the list goes on
module _ {k s : ℕ} {move : ℕ → ℕ → Option Arrival} {first old new : Labels} {rank rank' order order' : ℕ → ℕ} {n u count count' : ℕ}
    {row : ℕ → Option Arrival} (small : k ≤ nodes) (moves : Moves k move) (inv : Settling k s move first old rank n)
    (f : Frontier k old.dist rank order n count) (here : n < count) (is : order n ≡ u) (put : Put rank rank' u n)
    (same_row : (x : ℕ) → move u x ≡ row x) (r : Relaxed row u commands old new)
    (l : Listing new.dist order' count') (g : Grown old.dist new.dist order order' count count') where
  -- a node that was not reached waits
  fresh_waits : (v : ℕ) → v < k → unreached ≤ old.dist v → rank' v ≡ waiting
  fresh_waits v h far =
      put.other v (λ e. omega (arith, ap old.dist (e ∙ sym is), f.listing.reached n here))
      ∙ ⊎_elim (λ waits. waits) (λ done. absurd (omega (arith, inv.cheap v h done, inv.count))) (inv.ranks v h)

  -- a node of another place is another node
  away : (i : ℕ) → i < count → (i ≡ n → ⊥) → order i ≡ u → ⊥
  away i h other e = other (f.listing.once i n h here (e ∙ sym is))

  turn_inside : (i : ℕ) → i < count' → order' i < k
  turn_inside i h =
      ⊎_elim (λ below. subst (λ (v : ℕ). v < k) (sym (g.kept i below)) (f.inside i below)) (λ from. go from (r.each (order' i)))
      (under_or_past i count)
    where
      go : count ≤ i → Change row u old new (order' i) → order' i < k
      go from (stays same) = absurd (omega (arith, same.dist, g.fresh i from h, l.reached i h))
      go from (better x w e d less before by) = moves.inside u x _ (same_row x ∙ e)

  pub turn_frontier : Frontier k new.dist rank' order' (n + 1) count'
  turn_frontier =
      record {
        listing = l;
        inside = turn_inside;
        all =
            λ v h near.
            ⊎_elim
            (λ before.
            let (i, below, at_i) = f.all v h before in
            (i, omega (arith, g.more), g.kept i below ∙ at_i))
            (λ far. g.all v far near)
            (under_or_past (old.dist v) unreached);
        settled =
            λ i done below.
            let h : i < count = omega arith in
            ⊎_elim (λ (e : i ≡ n). omega (arith, ap rank' (g.kept i h ∙ ap order e ∙ is), put.same))
            (λ e. omega (arith, ap rank' (g.kept i h), put.other (order i) (away i h e), f.settled i (omega arith) h))
            (equal_or_not i n);
        waits =
            λ i from below.
            ⊎_elim
            (λ h. ap rank' (g.kept i h) ∙ put.other (order i) (away i h (λ e. omega arith)) ∙ f.waits i (omega arith) h)
            (λ new. fresh_waits (order' i) (turn_inside i below) (g.fresh i new below))
            (under_or_past i count);
      }

-- where no place is left, no node that waits is reached
pub frontier_over : {k : ℕ} {dist rank order : ℕ → ℕ} {n count : ℕ} → Frontier k dist rank order n count → n ≤ nodes → count ≤ n
    → (v : ℕ) → v < k → rank v ≡ waiting → unreached ≤ dist v
frontier_over {k} {dist} {rank} {order} {n} {count} f few over v h waits =
    ⊎_elim
    (λ near.
    let (i, below, is) = f.all v h near in
    absurd (omega (arith, ap rank is, f.settled i (omega arith) below)))
    (λ far. far)
    (under_or_past (dist v) unreached)
