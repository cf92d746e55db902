-- The list of the reached nodes: it has room, and it goes on as moves are relaxed. Assumes nothing.
use mathlib.Core.Path.{◌≡◌, refl, sym, ◌∙◌, ap, subst, subst₃}
use mathlib.Core.Logic.{⊎_elim}
use mathlib.Core.Bool.{Bool, true, false, cond}
use mathlib.Core.List.{List}
use Prim.Native.Nat.{ℕ, zero, suc, ◌+◌, ◌≤◌, ◌<◌}
use native.Mathlib.Omega.{arith}
use lib.Dec.{ltb, leb}
use lib.ListN.{length, get_or}
use borrow.Author.Tests.{ltb-true, ltb-false, leb-true, leb-false}
use Rattle.definitions.specs.Basics.{put, tabulate, All, Distinct}
use Rattle.definitions.specs.Limits.{nodes}
use Rattle.definitions.proofs.Options.{equal_or_not, put_same, put_other}
use Rattle.definitions.proofs.Lists.{tabulate_length}
use Rattle.definitions.proofs.Simple.{count_limit, distinct_count}
use Rattle.search.specs.Search.{unreached}
use Rattle.search.specs.Parts.{at, stored_if, Listing, Grown}
use Rattle.search.proofs.Stores.{Put, put_set, put_put}

-- what holds of each of the first values holds of the list of them
all_tabulated : (P : ℕ → Type 0) (c : ℕ) (f : ℕ → ℕ) → ((i : ℕ) → i < c → P (f i)) → All P (tabulate c f)
unfolding tabulate
all_tabulated P zero f h = tt
all_tabulated P (suc c) f h = (h 0 (omega arith), all_tabulated P c (λ i. f (suc i)) (λ i l. h (suc i) (omega arith)))

distinct_tabulated : (c : ℕ) (f : ℕ → ℕ) → ((i j : ℕ) → i < c → j < c → f i ≡ f j → i ≡ j) → Distinct (tabulate c f)
unfolding tabulate
distinct_tabulated zero f once = tt
distinct_tabulated (suc c) f once = (
  all_tabulated (λ k. f 0 ≡ k → ⊥) c (λ i. f (suc i)) (λ i l e. omega (arith, once 0 (suc i) (omega arith) (omega arith) e)),
  distinct_tabulated c (λ i. f (suc i)) (λ i j hi hj e. omega (arith, once (suc i) (suc j) (omega arith) (omega arith) e)),
)

-- no more nodes are listed than there are
pub few : {dist order : ℕ → ℕ} {count : ℕ} → Listing dist order count → count ≤ nodes
few {dist} {order} {count} l =
    omega (
      arith,
      tabulate_length count order,
      count_limit nodes (λ n. true),
      distinct_count nodes (λ n. true) (tabulate count order) (distinct_tabulated count order l.once)
          (all_tabulated (λ n. (n < nodes) × (true ≡ true)) count order (λ i h. (l.range i h, refl))),
    )

module _ {dist dist' order : ℕ → ℕ} {count : ℕ} (l : Listing dist order count) (falls : (w : ℕ) → dist' w ≤ dist w) where
  -- distances fall
  pub listing_kept : Listing dist' order count
  listing_kept =
      record { range = l.range; reached = λ i h. omega (arith, l.reached i h, falls (order i)); once = l.once }

  -- and one node more is reached, which is listed at the end
  pub listing_more : {order' : ℕ → ℕ} {v : ℕ} → unreached ≤ dist v → dist' v < unreached → v < nodes → Put order order' count v
      → Listing dist' order' (count + 1)
  listing_more {order'} {v} far near range put =
      record {
        range = λ i h. each (λ w. w < nodes) range l.range i h;
        reached = λ i h. each (λ w. dist' w < unreached) near (λ i h. omega (arith, l.reached i h, falls (order i))) i h;
        once =
            λ i j hi hj e.
            ⊎_elim
            (λ (p : i ≡ count).
            ⊎_elim (λ (q : j ≡ count). p ∙ sym q)
            (λ q. absurd (new j (omega arith) (sym (put.other j q) ∙ sym e ∙ ap order' p ∙ put.same)))
            (equal_or_not j count))
            (λ p.
            ⊎_elim (λ (q : j ≡ count). absurd (new i (omega arith) (sym (put.other i p) ∙ e ∙ ap order' q ∙ put.same)))
            (λ q. l.once i j (omega arith) (omega arith) (sym (put.other i p) ∙ e ∙ put.other j q))
            (equal_or_not j count))
            (equal_or_not i count);
      }
    where
      each : (P : ℕ → Type 0) → P v → ((i : ℕ) → i < count → P (order i)) → (i : ℕ) → i < count + 1 → P (order' i)
      each P last others i h =
          ⊎_elim (λ (e : i ≡ count). subst P (sym (ap order' e ∙ put.same)) last) (λ e. subst P (sym (put.other i e)) (others i (omega arith)))
          (equal_or_not i count)

      new : (i : ℕ) → i < count → order i ≡ v → ⊥
      new i h e = omega (arith, l.reached i h, ap dist e)

-- there is room for a node that is not reached
pub listing_room : {dist order : ℕ → ℕ} {count v : ℕ} → Listing dist order count → v < nodes → unreached ≤ dist v → count < nodes
listing_room {dist} {order} {count} {v} l range far =
    let more : Listing (put dist v 0) (put order count v) (count + 1) =
    listing_more l falls far (omega (arith, put_same dist v 0)) range
    (put_put order count v) in
    omega (arith, few more)
  where
    falls : (w : ℕ) → put dist v 0 w ≤ dist w
    falls w =
        ⊎_elim (λ (e : w ≡ v). omega (arith, ap (put dist v 0) e, put_same dist v 0)) (λ e. omega (arith, put_other dist v 0 w e)) (equal_or_not w v)

module _ {dist₀ dist dist' order₀ order : ℕ → ℕ} {count₀ count v : ℕ} (g : Grown dist₀ dist order₀ order count₀ count)
    (others : (w : ℕ) → (w ≡ v → ⊥) → dist' w ≡ dist w) where
  -- one move more, to a node that was reached
  pub grown_kept : dist v < unreached → Grown dist₀ dist' order₀ order count₀ count
  grown_kept near =
      record {
        more = g.more;
        kept = g.kept;
        fresh = g.fresh;
        all =
            λ w far here.
            g.all w far
            (⊎_elim (λ (e : w ≡ v). omega (arith, ap dist e)) (λ e. omega (arith, others w e)) (equal_or_not w v));
      }

  -- one move more, to a node that was not
  pub grown_more : {order' : ℕ → ℕ} → unreached ≤ dist₀ v → Put order order' count v → Grown dist₀ dist' order₀ order' count₀ (count + 1)
  grown_more {order'} far put =
      record {
        more = omega (arith, g.more);
        kept = λ i h. put.other i (λ e. omega (arith, g.more)) ∙ g.kept i h;
        fresh =
            λ i from below.
            ⊎_elim (λ (e : i ≡ count). omega (arith, ap dist₀ (ap order' e ∙ put.same)))
            (λ e. omega (arith, ap dist₀ (put.other i e), g.fresh i from (omega arith)))
            (equal_or_not i count);
        all =
            λ w away here.
            ⊎_elim (λ (e : w ≡ v). (count, omega arith, put.same ∙ sym e))
            (λ e.
            let (i, below, is) = g.all w away (omega (arith, others w e)) in
            (i, omega arith, put.other i (λ e. omega arith) ∙ is))
            (equal_or_not w v);
      }

-- g is f but for v, where it is no more than d
record Lowered (f g : ℕ → ℕ) (v d : ℕ) : Type 0 where
  falls : (w : ℕ) → g w ≤ f w
  other : (w : ℕ) → (w ≡ v → ⊥) → g w ≡ f w
  near : g v ≤ d

-- a distance is stored where it is less
lowered : (dist : List ℕ) (v d : ℕ) → v < length dist → Lowered (at dist) (at (stored_if (ltb d (get_or dist v 0)) dist v d)) v d
lowered dist v d room = go (ltb d (get_or dist v 0)) refl
  where
    go : (t : Bool) → ltb d (get_or dist v 0) ≡ t → Lowered (at dist) (at (stored_if t dist v d)) v d
    go true e =
        let put = put_set dist v d room in
        let less = ltb-true d (get_or dist v 0) e in
        record {
          falls =
              λ w.
              ⊎_elim (λ (e : w ≡ v). omega (arith, ap (at dist) e, ap (at (stored_if true dist v d)) e, put.same)) (λ e. omega (arith, put.other w e))
              (equal_or_not w v);
          other = put.other;
          near = omega (arith, put.same);
        }
    go false e = record { falls = λ w. omega arith; other = λ w e. refl; near = ltb-false d (get_or dist v 0) e }

-- one move more, as the code does it: v is listed where it was not reached, and its distance falls to d where that is less
module _ {dist₀ order₀ : ℕ → ℕ} {count₀ count v d : ℕ} (dist order : List ℕ)
    (l : Listing (at dist) (at order) count) (g : Grown dist₀ (at dist) order₀ (at order) count₀ count)
    (falls : at dist v ≤ dist₀ v) (range : v < nodes) (room : v < length dist) (places : nodes ≤ length order) (near : d < unreached) where
  Goes : List ℕ → List ℕ → ℕ → Type 0
  Goes dist' order' count' = Listing (at dist') (at order') count' × Grown dist₀ (at dist') order₀ (at order') count₀ count'

  pub goes : {dist' order' : List ℕ} {count' : ℕ} → dist' ≡ stored_if (ltb d (get_or dist v 0)) dist v d
      → (order' ≡ stored_if (leb unreached (get_or dist v 0)) order count v) × (count' ≡ cond (leb unreached (get_or dist v 0)) (count + 1) count)
      → Listing (at dist') (at order') count' × Grown dist₀ (at dist') order₀ (at order') count₀ count'
  unfolding Goes
  goes stored listed =
      subst₃ Goes (sym stored) (sym listed.0) (sym listed.1) (go (leb unreached (get_or dist v 0)) refl)
    where
      low : Lowered (at dist) (at (stored_if (ltb d (get_or dist v 0)) dist v d)) v d
      low = lowered dist v d room

      go : (t : Bool) → leb unreached (get_or dist v 0) ≡ t
          → Goes (stored_if (ltb d (get_or dist v 0)) dist v d) (stored_if t order count v) (cond t (count + 1) count)
      go true e =
          let far = leb-true unreached (get_or dist v 0) e in
          let put = put_set order count v (omega (arith, listing_room l range far)) in
          (listing_more l low.falls far (omega (arith, low.near)) range put, grown_more g low.other (omega arith) put)
      go false e = (listing_kept l low.falls, grown_kept g low.other (leb-false unreached (get_or dist v 0) e))
