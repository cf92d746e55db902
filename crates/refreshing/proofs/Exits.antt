-- The exits of a machine: what leaving from one node costs, the cheapest way out over the places, and the row written command by command.
-- Assumes nothing.
use mathlib.Core.Path.{◌≡◌, refl, sym, ◌∙◌, ap}
use mathlib.Core.Logic.{⊎_elim}
use mathlib.Core.Option.{Option, none, some}
use mathlib.Core.List.{List}
use Prim.Native.Nat.{ℕ, ◌+◌, ◌≤◌, ◌<◌}
use native.Mathlib.Omega.{arith}
use Rattle.definitions.specs.Limits.{commands, blank, largest_plan_cost}
use Rattle.definitions.specs.Tree.{Tree, Sound}
use Rattle.definitions.specs.Step.{counting}
use Rattle.definitions.specs.Book.{number, transition_word}
use Rattle.definitions.specs.Sheet.{Rows, rows_of}
use Rattle.definitions.specs.Truth.{node_exit}
use Rattle.definitions.proofs.Options.{none_some, some_same, present, equal_or_not, put_same, put_other}
use Rattle.book.proofs.Counts.{no_counting, some_counting}
use Rattle.search.specs.Search.{unreached, reached}
use Rattle.search.specs.Parts.{at}
use Rattle.search.proofs.Reading.{reached_is, reached_some}
use Rattle.refreshing.specs.Parts.{ExitsKept, CostFits, distances, Way, LeavesAt, WayCosts, Cheapest}
use Rattle.refreshing.specs.Parts.{IsNear, NearOut, ExitWritten, ExitsWritten}
use Rattle.refreshing.proofs.Row.{kept_exit, cheapest_kept}

-- ---- what leaving from one node costs

-- a node that is reached is near
pub near_there : {d : ℕ} → IsNear d → (d ≡ unreached → ⊥) → d ≤ largest_plan_cost
near_there {d} far there = far.near d (reached_is d there)

module _ {o : Option ℕ} {d w c : ℕ} (left : LeavesAt o d w c) where
  -- the word for none says that it is never left
  pub leave_none : c ≡ unreached → o ≡ none
  leave_none e = ⊎_elim (λ off. off) (λ (k, there). absurd (omega (arith, (left.costs k there).1))) (present o)

  -- and another word what it costs
  pub leave_some : (c ≡ unreached → ⊥) → (e : ℕ) × (o ≡ some e) × (c ≡ d + e + w)
  leave_some other =
      ⊎_elim (λ off. absurd (other (left.never off))) (λ (k, there). (k, there, (left.costs k there).0)) (present o)

-- nothing is a way where there is none
no_way : {t : Tree} {r : Rows} {n x : ℕ} {o : Option ℕ} → ((d : ℕ) → Way t r n o x d → ⊥) → WayCosts t r n o x unreached
no_way free = record { top = omega arith; way = λ less. absurd (omega arith); only = λ e way. absurd (free e way) }

module _ {t : Tree} (r : Rows) (n x d : ℕ) where
  -- a node that is not reached
  pub way_unreached : d ≡ unreached → WayCosts t r n (reached d) x unreached
  way_unreached e = no_way (λ c way. (reached_some d way.reached).1 e)

  -- a node with a transition that counts for the command
  pub way_taken : {w : ℕ} → Sound t → w ≡ transition_word (counting t n x) → (w ≡ blank → ⊥) → WayCosts t r n (reached d) x unreached
  way_taken sound says there = no_way (λ c way. none_some way.free (some_counting sound n x says there))

  -- a node without one: by its own exit cost
  pub way_left : {w c : ℕ} → Sound t → IsNear d → (d ≡ unreached → ⊥) → w ≡ transition_word (counting t n x) → w ≡ blank
      → LeavesAt (node_exit t r n x) d 0 c → WayCosts t r n (reached d) x c
  way_left {w} {c} sound far there says free left = go (node_exit t r n x) refl
    where
      is : reached d ≡ some d
      is = reached_is d there

      go : (o : Option ℕ) → node_exit t r n x ≡ o → WayCosts t r n (reached d) x c
      go none exit = rw (left.never exit) (no_way (λ e way. none_some exit way.exits))
      go (some e) exit =
          let (sum, small) = left.costs e exit in
          record {
            top = omega arith;
            way = λ less. record {
              node_cost = d;
              node_exit_cost = e;
              reached = is;
              free = no_counting sound n x says free;
              exits = exit;
              exact = omega arith;
            };
            only = λ k way.
                let same : d ≡ way.node_cost = some_same is way.reached in
                let out : e ≡ way.node_exit_cost = some_same exit way.exits in
                omega (arith, way.exact);
          }

-- ---- the cheapest way out

module _ {t : Tree} {r : Rows} {members : ℕ → ℕ} {distance : ℕ → Option ℕ} {x : ℕ} where
  module _ {j cost node c : ℕ} (best : Cheapest t r members distance x j cost node) (costs : WayCosts t r (members j) (distance j) x c) where
    -- from one node more, which is cheaper
    pub cheapest_better : c < cost → Cheapest t r members distance x (j + 1) c (members j)
    cheapest_better less =
        record {
          least = λ i d small way.
              ⊎_elim
              (λ (same : i ≡ j).
              let here : Way t r (members j) (distance j) x d = rw same at way in
              omega (arith, costs.only d here))
              (λ (apart : i ≡ j → ⊥). omega (arith, best.least i d (omega arith) way))
              (equal_or_not i j);
          attained = λ there. (j, omega arith, refl, costs.way there);
          top = costs.top;
          never = λ e. absurd (omega (arith, best.top));
        }

    -- from one node more, which is not
    pub cheapest_stays : cost ≤ c → Cheapest t r members distance x (j + 1) cost node
    cheapest_stays low =
        record {
          least = λ i d small way.
              ⊎_elim
              (λ (same : i ≡ j).
              let here : Way t r (members j) (distance j) x d = rw same at way in
              omega (arith, costs.only d here))
              (λ (apart : i ≡ j → ⊥). best.least i d (omega arith) way)
              (equal_or_not i j);
          attained = λ there.
              let (i, small, same, way) = best.attained there in
              (i, omega arith, same, way);
          top = best.top;
          never = best.never;
        }

  pub cheapest_all : {j k cost node : ℕ} → Cheapest t r members distance x j cost node → j ≤ k → k ≤ j
      → Cheapest t r members distance x k cost node
  cheapest_all {j} {k} best low high =
      let same : j ≡ k = omega arith in
      rw same at best

-- ---- command by command

-- the cheapest way out fits a word
pub exit_fits : {t : Tree} {r : Rows} {m k x cost node : ℕ} {members dist : List ℕ} → x < commands → NearOut t r m k members dist
    → Cheapest t r (at members) (distances dist) x k cost node → CostFits cost
exit_fits {cost = cost} {members = members} {dist = dist} range out best =
    record {
      fits = λ c e.
          let (same, there) = reached_some cost e in
          let (i, small, node, way) = best.attained (omega (arith, best.top)) in
          omega (
            arith,
            (out.reach.near i small).near way.node_cost way.reached,
            out.out i _ way.node_exit_cost small range way.exits,
            way.exact,
          );
    }

-- what is near stays so
pub near_kept : {t : Tree} → Sound t → {r q : Rows} {m k : ℕ} {members dist : List ℕ} → ExitsKept m r q → NearOut t r m k members dist
    → NearOut t q m k members dist
near_kept sound {members = members} kept out =
    record {
      reach = out.reach;
      owned = out.owned;
      out = λ i x e small range exit.
          out.out i x e small range (sym (kept_exit sound kept (at members i) x (out.owned i small) range) ∙ exit);
    }

module _ {t : Tree} {m k : ℕ} {members dist : List ℕ} where
  -- one command more
  module _ (sound : Sound t) {j : ℕ} {sheet mid after : List ℕ} (range : j < commands) (out : NearOut t (rows_of sheet) m k members dist)
      (done : ExitsWritten t m k j members dist sheet mid) (next : ExitWritten t m k j members dist mid after) where
    -- what the row has for another command, and for this one
    exit_other : (p x : ℕ) → (x ≡ j → ⊥) → (rows_of after).exit p x ≡ (rows_of mid).exit p x
    exit_other p x other =
        ap (λ (r : Rows). r.exit p x) next.leaves.rows
        ∙ ⊎_elim
        (λ (same : p ≡ m).
        rw same (ap (λ (f : ℕ → Option ℕ). f x) (put_same (rows_of mid).exit m _) ∙ put_other ((rows_of mid).exit m) j _ x other))
        (λ (apart : p ≡ m → ⊥). ap (λ (f : ℕ → Option ℕ). f x) (put_other (rows_of mid).exit m _ p apart))
        (equal_or_not p m)

    last_other : (p x : ℕ) → (x ≡ j → ⊥) → (rows_of after).last p x ≡ (rows_of mid).last p x
    last_other p x other =
        ap (λ (r : Rows). r.last p x) next.leaves.rows
        ∙ ⊎_elim
        (λ (same : p ≡ m).
        rw same (ap (λ (f : ℕ → Option ℕ). f x) (put_same (rows_of mid).last m _) ∙ put_other ((rows_of mid).last m) j _ x other))
        (λ (apart : p ≡ m → ⊥). ap (λ (f : ℕ → Option ℕ). f x) (put_other (rows_of mid).last m _ p apart))
        (equal_or_not p m)

    exit_here : (rows_of after).exit m j ≡ reached next.least
    exit_here =
        ap (λ (r : Rows). r.exit m j) next.leaves.rows
        ∙ ap (λ (f : ℕ → Option ℕ). f j) (put_same (rows_of mid).exit m _)
        ∙ put_same ((rows_of mid).exit m) j _

    last_here : (rows_of after).last m j ≡ number next.node
    last_here =
        ap (λ (r : Rows). r.last m j) next.leaves.rows
        ∙ ap (λ (f : ℕ → Option ℕ). f j) (put_same (rows_of mid).last m _)
        ∙ put_same ((rows_of mid).last m) j _

    pub exits_more : ExitsWritten t m k (j + 1) members dist sheet after
    exits_more =
        record {
          leaves = record {
            length = next.leaves.length;
            marks = λ marks. next.leaves.marks (done.leaves.marks marks);
            rows = refl;
          };
          stale = λ p. ap (λ (r : Rows). r.stale p) next.leaves.rows ∙ done.stale p;
          cost = λ n. ap (λ (r : Rows). r.cost n) next.leaves.rows ∙ done.cost n;
          before_kept = λ n. ap (λ (r : Rows). r.before n) next.leaves.rows ∙ done.before_kept n;
          by_kept = λ n. ap (λ (r : Rows). r.by n) next.leaves.rows ∙ done.by_kept n;
          exit = record {
            same = λ p x other.
                ap (λ (r : Rows). r.exit p x) next.leaves.rows
                ∙ ap (λ (f : ℕ → Option ℕ). f x) (put_other (rows_of mid).exit m _ p other)
                ∙ done.exit.same p x other;
          };
          last = λ p x other.
              ap (λ (r : Rows). r.last p x) next.leaves.rows
              ∙ ap (λ (f : ℕ → Option ℕ). f x) (put_other (rows_of mid).last m _ p other)
              ∙ done.last p x other;
          each = λ x less.
              ⊎_elim
              (λ (same : x ≡ j).
              rw same (record {
                least = next.least;
                node = next.node;
                cheapest = cheapest_kept (λ i small. refl)
                    (λ i small. sym (kept_exit sound done.exit (at members i) j (out.owned i small) range)) next.cheapest;
                says_exit = exit_here;
                says_last = last_here;
              }))
              (λ (apart : x ≡ j → ⊥).
              let e = done.each x (omega arith) in
              record {
                least = e.least;
                node = e.node;
                cheapest = e.cheapest;
                says_exit = exit_other m x apart ∙ e.says_exit;
                says_last = last_other m x apart ∙ e.says_last;
              })
              (equal_or_not x j);
        }
