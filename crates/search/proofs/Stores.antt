-- What one store, and one relaxed move, do to the words of all nodes. Assumes nothing.
use mathlib.Core.Path.{◌≡◌, refl, sym, ◌∙◌, ap, subst, subst₃}
use mathlib.Core.Logic.{⊎_elim}
use mathlib.Core.Bool.{Bool, true, false}
use mathlib.Core.Option.{Option, none, some}
use mathlib.Core.List.{List}
use Prim.Native.Nat.{ℕ, ◌+◌, ◌≤◌, ◌<◌}
use native.Mathlib.Omega.{arith}
use lib.Dec.{ltb}
use lib.ListN.{length, get_or, set}
use lib.Seq.{get_or-set_same, get_or-set_other}
use borrow.Author.Tests.{ltb-true, ltb-false}
use Rattle.definitions.specs.Basics.{put}
use Rattle.definitions.specs.Limits.{nodes}
use Rattle.definitions.specs.Step.{Arrival}
use Rattle.definitions.proofs.Options.{none_some, some_same, equal_or_not, put_same, put_other}
use Rattle.search.specs.Search.{row_move}
use Rattle.search.specs.Parts.{at, Labels, labels, stored_if, Change, stays, better, Relaxed, Row}

-- g is f but for w at place v
pub record Put (f g : ℕ → ℕ) (v w : ℕ) : Type 0 where
  pub same : g v ≡ w
  pub other : (i : ℕ) → (i ≡ v → ⊥) → g i ≡ f i

-- a store
pub put_set : (words : List ℕ) (v w : ℕ) → v < length words → Put (at words) (at (set words v w)) v w
put_set words v w h = record { same = get_or-set_same words v w 0 h; other = λ i e. get_or-set_other words v i w 0 e }

-- and a function made so
pub put_put : (f : ℕ → ℕ) (v w : ℕ) → Put f (put f v w) v w
put_put f v w = record { same = put_same f v w; other = λ i e. put_other f v w i e }

-- no distance grows
pub change_less : {row : ℕ → Option Arrival} {u : ℕ} {old new : Labels} {v : ℕ} → Change row u old new v → new.dist v ≤ old.dist v
change_less (stays same) = omega (arith, same.dist)
change_less (better x w e d less b y) = omega arith

-- a change is told by the words
change_same : {row : ℕ → Option Arrival} {u : ℕ} {old mid new : Labels} {v : ℕ} → new.dist v ≡ mid.dist v → new.before v ≡ mid.before v
    → new.by v ≡ mid.by v → Change row u old mid v → Change row u old new v
change_same p q s (stays same) = stays (record { dist = p ∙ same.dist; before = q ∙ same.before; by = s ∙ same.by })
change_same p q s (better x w e d less b y) = better x w e (p ∙ d) (omega arith) (q ∙ b) (s ∙ y)

module _ {row : ℕ → Option Arrival} {u x : ℕ} {old : Labels} where
  -- one command more that has no move
  relaxed_past : {new : Labels} → Relaxed row u x old new → row x ≡ none → Relaxed row u (x + 1) old new
  relaxed_past {new} r free =
      record {
        here = r.here;
        met =
            λ y b h e.
            ⊎_elim (λ (same : y ≡ x). absurd (none_some free (subst (λ (z : ℕ). row z ≡ some b) same e)))
            (λ other. r.met y b (omega arith) e)
            (equal_or_not y x);
        each = r.each;
      }

  module _ {v c : ℕ} (move : row x ≡ some (record { node = v; cost = c })) where
    -- one move more, with which no word changes
    relaxed_kept : {new : Labels} → Relaxed row u x old new → new.dist v ≤ old.dist u + c → Relaxed row u (x + 1) old new
    relaxed_kept {new} r near =
        record {
          here = r.here;
          met =
              λ y b h e.
              ⊎_elim
              (λ (same : y ≡ x).
              let b_is : record { node = v; cost = c } ≡ b = some_same move (subst (λ (z : ℕ). row z ≡ some b) same e) in
              subst (λ (b : Arrival). new.dist b.node ≤ old.dist u + b.cost) b_is near)
              (λ other. r.met y b (omega arith) e)
              (equal_or_not y x);
          each = r.each;
        }

    -- one move more, that is nearer
    relaxed_put : {mid new : Labels} {d : ℕ} → Relaxed row u x old mid → d ≡ old.dist u + c → d < mid.dist v
        → Put mid.dist new.dist v d → Put mid.before new.before v u → Put mid.by new.by v x → Relaxed row u (x + 1) old new
    relaxed_put {mid} {new} {d} r total less dist before by =
        relaxed_kept
        (record {
          here = dist.other u (λ e. omega (arith, r.here, ap mid.dist e)) ∙ r.here;
          met = λ y b h e. omega (arith, falls b.node, r.met y b h e);
          each =
              λ w.
              ⊎_elim
              (λ (e : w ≡ v).
              subst (Change row u old new) (sym e)
              (better x c move (dist.same ∙ total) (omega (arith, dist.same, change_less (r.each v))) before.same by.same))
              (λ e. change_same (dist.other w e) (before.other w e) (by.other w e) (r.each w))
              (equal_or_not w v);
        })
        (omega (arith, dist.same))
      where
        falls : (w : ℕ) → new.dist w ≤ mid.dist w
        falls w =
            ⊎_elim (λ (e : w ≡ v). omega (arith, dist.same, ap new.dist e, ap mid.dist e)) (λ e. omega (arith, dist.other w e)) (equal_or_not w v)

-- Where command x of u leads, whose word in the table of costs is p: along its move, or, where it has none, to u itself.
pub data Leads (row : ℕ → Option Arrival) (u x v p : ℕ) : Type 0 where
  along : row x ≡ some (record { node = v; cost = p }) → Leads row u x v p
  nowhere : row x ≡ none → v ≡ u → Leads row u x v p

-- one command more, as the code does it: d is no less than the distance of u, and exact along a move
pub relaxed_more : {row : ℕ → Option Arrival} {u x v p : ℕ} {old : Labels} → Leads row u x v p
    → (dist before by dist' before' by' : List ℕ) {d : ℕ} → (v < length dist) × (v < length before) × (v < length by)
    → Relaxed row u x old (labels dist before by) → old.dist u ≤ d
    → (row x ≡ some (record { node = v; cost = p }) → d ≡ old.dist u + p)
    → (dist' ≡ stored_if (ltb d (get_or dist v 0)) dist v d)
    × (before' ≡ stored_if (ltb d (get_or dist v 0)) before v u)
    × (by' ≡ stored_if (ltb d (get_or dist v 0)) by v x)
    → Relaxed row u (x + 1) old (labels dist' before' by')
relaxed_more {row} {u} {x} {v} {p} {old} leads dist before by dist' before' by' {d} room r far exact stored =
    subst₃ (λ (f g h : List ℕ). Relaxed row u (x + 1) old (labels f g h)) (sym stored.0) (sym stored.1) (sym stored.2)
    (go leads (ltb d (get_or dist v 0)) refl)
  where
    go : Leads row u x v p → (t : Bool) → ltb d (get_or dist v 0) ≡ t
        → Relaxed row u (x + 1) old (labels (stored_if t dist v d) (stored_if t before v u) (stored_if t by v x))
    go (along move) true e =
        relaxed_put move r (exact move) (ltb-true d (get_or dist v 0) e) (put_set dist v d room.0) (put_set before v u room.1)
        (put_set by v x room.2)
    go (along move) false e = relaxed_kept move r (omega (arith, exact move, ltb-false d (get_or dist v 0) e))
    go (nowhere free here) true e = absurd (omega (arith, ltb-true d (get_or dist v 0) e, ap (at dist) here, r.here))
    go (nowhere free here) false e = relaxed_past r free

-- a node that is led to is one of the 256, with places in the lists
module _ {u : ℕ} {target price dist before by : List ℕ} (row : Row u target price dist before by) {x v p : ℕ} where
  pub leads_range : Leads (row_move target price u) u x v p → v < nodes
  leads_range (along move) = row.range _ _ move
  leads_range (nowhere free here) = omega (arith, row.small)

  pub leads_inside : Leads (row_move target price u) u x v p → (v < length dist) × (v < length before) × (v < length by)
  leads_inside (along move) = row.inside _ _ move
  leads_inside (nowhere free here) = rw here row.room
