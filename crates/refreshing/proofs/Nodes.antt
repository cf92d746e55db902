-- The rows of a machine's nodes are written, place by place. Assumes nothing.
use mathlib.Core.Path.{◌≡◌, refl, sym, ◌∙◌, ap}
use mathlib.Core.Logic.{⊎_elim}
use mathlib.Core.Option.{Option, some}
use mathlib.Core.List.{List}
use Prim.Native.Nat.{ℕ, ◌+◌, ◌<◌}
use native.Mathlib.Omega.{arith}
use lib.ListN.{length}
use borrow.Author.Tests.{eq-eqb, ne_eqb}
use Rattle.definitions.specs.Limits.{absent, blank}
use Rattle.definitions.specs.Book.{number}
use Rattle.definitions.specs.Sheet.{Rows, cost_of, rows_of}
use Rattle.definitions.proofs.Options.{equal_or_not, put_same, put_other}
use Rattle.search.specs.Search.{unreached, reached}
use Rattle.search.specs.Parts.{at}
use Rattle.sheet.specs.Fields.{Leaves}
use Rattle.search.proofs.Reading.{reached_is, number_is, number_none}
use Rattle.refreshing.specs.Parts.{member_of, CostFits, PlaceFits, with_node, Writable, NodesWritten}

-- ---- the words of one node

-- no cost
pub cost_blank : {d : ℕ} → d ≡ unreached → cost_of blank ≡ reached d
unfolding cost_of reached
cost_blank {d} e = sym (rw (eq-eqb d unreached e))

-- a cost that fits
pub cost_fits : {d : ℕ} → CostFits d → (d ≡ unreached → ⊥) → d < blank
cost_fits {d} fits other = fits.fits d (reached_is d other)

pub cost_there : {d : ℕ} → CostFits d → (d ≡ unreached → ⊥) → cost_of d ≡ reached d
unfolding cost_of
cost_there {d} fits other =
    let small = cost_fits fits other in
    rw (ne_eqb d blank (omega arith)) (sym (reached_is d other))

-- no name
pub name_blank : (members : List ℕ) {v : ℕ} → v ≡ absent → number absent ≡ member_of members (number v)
name_blank members {v} e = number_none absent refl ∙ sym (rw (number_none v e))

-- a name that is a place
pub name_fits : {members : List ℕ} {v : ℕ} → PlaceFits members v → (v ≡ absent → ⊥) → v < length members
name_fits {members} {v} fits other = omega (arith, (fits.fits v (number_is v other)).0, fits.room)

pub name_there : {members : List ℕ} {v : ℕ} → PlaceFits members v → (v ≡ absent → ⊥) → {w : ℕ} → w ≡ at members v
    → number w ≡ member_of members (number v)
name_there {members} {v} fits other {w} e =
    let is : number v ≡ some v = number_is v other in
    number_is w (omega (arith, (fits.fits v is).1)) ∙ ap {B = Option ℕ} some e ∙ sym (ap (member_of members) is)

-- ---- place by place

module _ {members dist before by : List ℕ} where
  -- one place more
  module _ {k i : ℕ} {sheet mid after : List ℕ} (able : Writable k members dist before by) (small : i < k)
      (done : NodesWritten i members dist before by sheet mid)
      (next : Leaves mid after (with_node (rows_of mid) (at members i) (reached (at dist i)) (member_of members (number (at before i)))
      (number (at by i)))) where
    -- the row that was not the place's stays, field by field
    other_place : (n : ℕ) → ((j : ℕ) → j < i + 1 → n ≡ at members j → ⊥) → n ≡ at members i → ⊥
    other_place n other = other i (omega arith)

    earlier : (n : ℕ) → ((j : ℕ) → j < i + 1 → n ≡ at members j → ⊥) → (j : ℕ) → j < i → n ≡ at members j → ⊥
    earlier n other j less = other j (omega arith)

    -- the nodes of the places before are others
    apart : (j : ℕ) → j < i + 1 → (j ≡ i → ⊥) → at members j ≡ at members i → ⊥
    apart j less away same = away (able.apart j i (omega arith) small same)

    pub nodes_more : NodesWritten (i + 1) members dist before by sheet after
    nodes_more =
        let cost : (n : ℕ) → (rows_of after).cost n ≡ (with_node (rows_of mid) (at members i) (reached (at dist i))
        (member_of members (number (at before i))) (number (at by i))).cost n =
        λ n. ap (λ (r : Rows). r.cost n) next.rows in
        let name : (n : ℕ) → (rows_of after).before n ≡ (with_node (rows_of mid) (at members i) (reached (at dist i))
        (member_of members (number (at before i))) (number (at by i))).before n =
        λ n. ap (λ (r : Rows). r.before n) next.rows in
        let command : (n : ℕ) → (rows_of after).by n ≡ (with_node (rows_of mid) (at members i) (reached (at dist i))
        (member_of members (number (at before i))) (number (at by i))).by n =
        λ n. ap (λ (r : Rows). r.by n) next.rows in
        record {
          leaves = record {
            length = next.length;
            marks = λ marks. next.marks (done.leaves.marks marks);
            rows = refl;
          };
          stale = λ p. ap (λ (r : Rows). r.stale p) next.rows ∙ done.stale p;
          exit = λ p x. ap (λ (r : Rows). r.exit p x) next.rows ∙ done.exit p x;
          last = λ p x. ap (λ (r : Rows). r.last p x) next.rows ∙ done.last p x;
          cost = λ n other.
              cost n ∙ put_other (rows_of mid).cost (at members i) _ n (other_place n other) ∙ done.cost n (earlier n other);
          before_kept = λ n other.
              name n ∙ put_other (rows_of mid).before (at members i) _ n (other_place n other) ∙ done.before_kept n (earlier n other);
          by_kept = λ n other.
              command n ∙ put_other (rows_of mid).by (at members i) _ n (other_place n other) ∙ done.by_kept n (earlier n other);
          filled = record {
            cost = λ j less.
                ⊎_elim
                (λ (same : j ≡ i). rw same (cost (at members i) ∙ put_same (rows_of mid).cost (at members i) _))
                (λ (away : j ≡ i → ⊥).
                cost (at members j) ∙ put_other (rows_of mid).cost (at members i) _ (at members j) (apart j less away)
                ∙ done.filled.cost j (omega arith))
                (equal_or_not j i);
            before = λ j less.
                ⊎_elim
                (λ (same : j ≡ i). rw same (name (at members i) ∙ put_same (rows_of mid).before (at members i) _))
                (λ (away : j ≡ i → ⊥).
                name (at members j) ∙ put_other (rows_of mid).before (at members i) _ (at members j) (apart j less away)
                ∙ done.filled.before j (omega arith))
                (equal_or_not j i);
            by = λ j less.
                ⊎_elim
                (λ (same : j ≡ i). rw same (command (at members i) ∙ put_same (rows_of mid).by (at members i) _))
                (λ (away : j ≡ i → ⊥).
                command (at members j) ∙ put_other (rows_of mid).by (at members i) _ (at members j) (apart j less away)
                ∙ done.filled.by j (omega arith))
                (equal_or_not j i);
          };
        }
