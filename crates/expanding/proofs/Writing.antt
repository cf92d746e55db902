-- Lists written one after the other. Assumes nothing.
use mathlib.Core.Path.{◌≡◌, refl, sym, ◌∙◌, ap}
use mathlib.Core.List.{[], List, ◌∷◌, ◌++◌}
use Prim.Native.Nat.{ℕ, suc, ◌+◌, ◌≤◌, ◌<◌}
use native.Mathlib.Omega.{arith}
use lib.ListN.{length, drop, set, length-append}
use lib.Seq.{sets, length-sets, sets-eq}
use Rattle.expanding.specs.Expanding.{leave_part, CommandsWritten}

-- two lists in a row are written as one after the other
sets_append : (a b l : List ℕ) (i : ℕ) → sets l i (a ++ b) ≡ sets (sets l i a) (i + length a) b
sets_append [] b l i = ap (λ (k : ℕ). sets l k b) (omega arith)
sets_append (x ∷ a) b l i = sets_append a b (set l i x) (suc i) ∙ ap (λ (k : ℕ). sets (sets (set l i x) (suc i) a) k b) (omega arith)

-- with the rest written from a place on, the bytes are those of the whole written over the bytes at first
pub record Onward (first : List ℕ) (at : ℕ) (whole now : List ℕ) (next : ℕ) (rest : List ℕ) : Type 0 where
  pub room : next + length rest ≡ at + length whole
  pub bytes : sets now next rest ≡ sets first at whole

module _ {first : List ℕ} {at : ℕ} {whole : List ℕ} where
  pub onward_none : Onward first at whole first at whole
  onward_none = record { room = refl; bytes = refl }

  -- the length stays
  pub onward_length : {now rest : List ℕ} {next : ℕ} → Onward first at whole now next rest → length now ≡ length first
  onward_length {now} {rest} {next} on = sym (length-sets now next rest) ∙ ap length on.bytes ∙ length-sets first at whole

  -- a front part of the rest has room
  pub onward_room : {now : List ℕ} {next : ℕ} (part rest : List ℕ) → Onward first at whole now next (part ++ rest)
      → at + length whole ≤ length first → next + length part ≤ length now
  onward_room part rest on fits = omega (arith, on.room, length-append part rest, onward_length on)

  -- it is written
  pub onward_more : {now now' rest : List ℕ} {next next' : ℕ} (part : List ℕ) → Onward first at whole now next (part ++ rest)
      → CommandsWritten now now' next next' part → Onward first at whole now' next' rest
  onward_more {now} {now'} {rest} {next} {next'} part on w =
      record {
        room = omega (arith, on.room, w.next_place, length-append part rest);
        bytes =
            rw (w.bytes, w.next_place) (sym (sets_append part rest now next) ∙ on.bytes);
      }

  -- nothing is left
  pub onward_done : {now : List ℕ} {next : ℕ} → Onward first at whole now next [] → CommandsWritten first now at next whole
  onward_done on = record { next_place = omega (arith, on.room); bytes = on.bytes }

-- what is written from the front on stands before the bytes that it leaves
pub written_front : {first now list : List ℕ} {next : ℕ} → CommandsWritten first now 0 next list → length list ≤ length first
    → (next ≡ length list) × (now ≡ list ++ drop (length list) first)
written_front {first} {now} {list} w room =
    let front : 0 + length list ≡ length list = omega arith in
    (omega (arith, w.next_place), w.bytes ∙ sets-eq list first 0 (omega arith) ∙ ap (λ (k : ℕ). list ++ drop k first) front)

-- where node n has no part, x alone leaves it
pub leave_shut : (part : ℕ → ℕ → List ℕ) (n x : ℕ) → part n x ≡ [] → x ∷ [] ≡ leave_part part n x
leave_shut part n x e = ap (λ (l : List ℕ). l ++ (x ∷ [])) (sym e)

-- in any case there is room for x
pub leave_room : (part : ℕ → ℕ → List ℕ) (n x : ℕ) → 0 < length (leave_part part n x)
leave_room part n x = omega (arith, length-append (part n x) (x ∷ []))
