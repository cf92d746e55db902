-- Elements stored in a row, one run after the other. Assumes nothing.
use mathlib.Core.Path.{◌≡◌, refl, sym, ◌∙◌, ap}
use mathlib.Core.List.{[], List, ◌∷◌, ◌++◌}
use Prim.Native.Nat.{ℕ, suc, ◌+◌, ◌≤◌}
use native.Mathlib.Nat.{add-zero}
use native.Mathlib.Omega.{arith}
use lib.ListN.{length, set, drop, length-append}
use lib.Seq.{sets, length-sets, sets-eq}
use Rattle.storing.specs.Stored.{Stored}

-- two runs, one after the other, are one
sets_append : {A : Type 0} (l : List A) (i : ℕ) (xs ys : List A) → sets (sets l i xs) (i + length xs) ys ≡ sets l i (xs ++ ys)
sets_append l i [] ys = rw add-zero
sets_append l i (x ∷ xs) ys =
    let next : i + suc (length xs) ≡ suc i + length xs = omega arith in
    rw next (sets_append (set l i x) (suc i) xs ys)

-- nothing is stored
pub stored_none : {A : Type 0} {bytes : List A} (out : List A) (at : ℕ) → bytes ≡ [] → Stored out at bytes at out
stored_none out at e = rw e (record { place = omega arith; list = refl })

module _ {A : Type 0} {out : List A} {at : ℕ} {xs : List A} {end : ℕ} {mid : List A} (first : Stored out at xs end mid) where
  -- the same elements
  pub stored_is : {ys : List A} → xs ≡ ys → Stored out at ys end mid
  stored_is e = rw (sym e) first

  -- first these, then those
  pub stored_then : {ys : List A} {end' : ℕ} {out' : List A} → Stored mid end ys end' out' → Stored out at (xs ++ ys) end' out'
  stored_then {ys} {end'} {out'} second =
      record {
        place = omega (arith, first.place, second.place, length-append xs ys);
        list = second.list ∙ rw (first.list, first.place) (sets_append out at xs ys);
      }

-- elements at the front of a list that has room for them
pub stored_front : {A : Type 0} {out bytes out' : List A} {end : ℕ} → Stored out 0 bytes end out' → length bytes ≤ length out
    → (end ≡ length bytes) × (out' ≡ bytes ++ drop (length bytes) out)
stored_front {out} {bytes} st room =
    let from : 0 + length bytes ≡ length bytes = omega arith in
    (st.place ∙ from, st.list ∙ rw from at (sets-eq bytes out 0 (omega arith)))
