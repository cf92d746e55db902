-- Floats that are finite and not below zero, compared with whole numbers: as the fractions that they are. Assumes nothing.
use Rattle.std.proofs.Common.{◌≡◌, ℕ, ◌+◌, ◌*◌, ◌<◌, ◌≤◌, Bool, true, false, ◌&&◌, ◌||◌, eqb, ltb, leb, ◌⊎◌, ℤ, pos, sym, refl, ap, ◌∙◌, inl, inr, ⊎_elim, true≢false, mul-le-mul_right, eq-zero-or-pos, eq-or-lt_of_le, mul-lt-mul_of_pos_right, mul-pos, zero-mul, mul-one, mul_right_comm, arith, le-ltb, lt-ltb, eq-eqb, ne_eqb, eqb-true, le-leb, leb-true}
use lib.Ieee.{Float, nan, inf, fin, up, down, sub, lt, le}
use lib.Ieee.Fits.{up_pos, down_pos}
use lib.Ieee.Exact.{HasValue}
use lib.Ieee.Positive.{num, den}
use borrow.Author.Tests.{lt-leb}
use Rattle.definitions.specs.Import.{took, AtLeastZero, difference, Admitted}
use Rattle.definitions.proofs.Options.{and_true, less_or_not}

-- ---- the tests of a comparison

-- below or equal
at_most_test : (a b : ℕ) → ltb a b || (eqb a b && true) ≡ leb a b
at_most_test a b = ⊎_elim below (λ h. ⊎_elim same above (eq-or-lt_of_le h)) (less_or_not a b)
  where
    below : a < b → ltb a b || (eqb a b && true) ≡ leb a b
    below h = rw (lt-ltb a b h, le-leb a b (omega arith))

    same : b ≡ a → ltb a b || (eqb a b && true) ≡ leb a b
    same h = rw (le-ltb a b (omega arith), eq-eqb a b (sym h), le-leb a b (omega arith))

    above : b < a → ltb a b || (eqb a b && true) ≡ leb a b
    above h = rw (le-ltb a b (omega arith), ne_eqb a b (λ e. omega arith), lt-leb a b h)

-- zero with a minus sign is at most what has none
zero_test : (a b : ℕ) → a ≡ 0 → ltb 0 (a + b) || (eqb a b && eqb a 0) ≡ true
zero_test a b z = ⊎_elim nothing more (eq-zero-or-pos b)
  where
    nothing : b ≡ 0 → ltb 0 (a + b) || (eqb a b && eqb a 0) ≡ true
    nothing w = rw (z, w)

    more : 0 < b → ltb 0 (a + b) || (eqb a b && eqb a 0) ≡ true
    more h = rw (lt-ltb 0 (a + b) (omega arith))

-- a common factor
ltb_scaled : (a b c : ℕ) → 0 < c → ltb (a * c) (b * c) ≡ ltb a b
ltb_scaled a b c h = ⊎_elim below above (less_or_not a b)
  where
    below : a < b → ltb (a * c) (b * c) ≡ ltb a b
    below l = rw (lt-ltb (a * c) (b * c) (mul-lt-mul_of_pos_right l h), lt-ltb a b l)

    above : b ≤ a → ltb (a * c) (b * c) ≡ ltb a b
    above l = rw (le-ltb (a * c) (b * c) (mul-le-mul_right c l), le-ltb a b l)

leb_scaled : (a b c : ℕ) → 0 < c → leb (a * c) (b * c) ≡ leb a b
leb_scaled a b c h = ⊎_elim below above (less_or_not b a)
  where
    below : b < a → leb (a * c) (b * c) ≡ leb a b
    below l = rw (lt-leb (a * c) (b * c) (mul-lt-mul_of_pos_right l h), lt-leb a b l)

    above : a ≤ b → leb (a * c) (b * c) ≡ leb a b
    above l = rw (le-leb (a * c) (b * c) (mul-le-mul_right c l), le-leb a b l)

-- ---- against a float that is exactly the whole number k

-- what has a minus sign and is not below zero is zero
pub minus_zero : (m : ℕ) (e : ℤ) → AtLeastZero (fin true m e) → m * up e ≡ 0
minus_zero m e (inl signed) = absurd (true≢false signed)
minus_zero m e (inr z) = rw z (zero-mul (up e))

-- k over a common denominator
crossed : (k p : ℕ) (q e : ℤ) → p * up q * 1 ≡ k * down q → p * up q * down e ≡ k * down e * down q
crossed k p q e h = ap (λ (a : ℕ). a * down e) (sym (mul-one (p * up q)) ∙ h) ∙ mul_right_comm k (down q) (down e)

-- x is at most k
pub at_most : (x y : Float) (k : ℕ) → AtLeastZero x → HasValue y false k 1 → le x y ≡ leb (num x) (k * den x)
unfolding le
at_most nan y k h v = absurd h
at_most (inf s) y k h v = absurd h
at_most (fin s m e) nan k h v = absurd v
at_most (fin s m e) (inf t) k h v = absurd v
at_most (fin s m e) (fin true p q) k h v = absurd (true≢false v.0)
at_most (fin false m e) (fin false p q) k h v =
    at_most_test (m * up e * down q) (p * up q * down e)
    ∙ ap (leb (m * up e * down q)) (crossed k p q e v.1)
    ∙ leb_scaled (m * up e) (k * down e) (down q) (down_pos q)
at_most (fin true m e) (fin false p q) k h v =
    let z : m * up e ≡ 0 = minus_zero m e h in
    zero_test (m * up e * down q) (p * up q * down e) (rw z (zero-mul (down q))) ∙ rw z (sym (le-leb 0 (k * down e) (omega arith)))

-- k is below x
pub below_it : (x y : Float) (k : ℕ) → AtLeastZero x → HasValue y false k 1 → lt y x ≡ ltb (k * den x) (num x)
unfolding lt
below_it nan y k h v = absurd h
below_it (inf s) y k h v = absurd h
below_it (fin s m e) nan k h v = absurd v
below_it (fin s m e) (inf t) k h v = absurd v
below_it (fin s m e) (fin true p q) k h v = absurd (true≢false v.0)
below_it (fin false m e) (fin false p q) k h v =
    ap (λ (a : ℕ). ltb a (m * up e * down q)) (crossed k p q e v.1) ∙ ltb_scaled (k * down e) (m * up e) (down q) (down_pos q)
below_it (fin true m e) (fin false p q) k h v =
    rw (minus_zero m e h) (sym (le-ltb (k * down e) 0 (omega arith)))

-- ---- against zero

abbrev pub zero_float : Float
zero_float = fin false 0 (pos 0)

-- zero is at most what is finite and not below it
zero_at_most : (x : Float) → AtLeastZero x → le zero_float x ≡ true
unfolding le
zero_at_most nan h = absurd h
zero_at_most (inf s) h = absurd h
zero_at_most (fin false m e) h = at_most_test (0 * 1 * down e) (m * up e * 1) ∙ rw (zero-mul 1, zero-mul (down e)) (le-leb 0 (m * up e * 1) (omega arith))
zero_at_most (fin true m e) h = rw (zero-mul 1, zero-mul (down e), minus_zero m e h)

-- and where zero is at most x, x is that or an infinity
from_zero : (x : Float) → le zero_float x ≡ true → (x ≡ inf false) ⊎ AtLeastZero x
unfolding le
from_zero nan e = absurd (true≢false (sym e))
from_zero (inf true) e = absurd (true≢false (sym e))
from_zero (inf false) e = inl refl
from_zero (fin false m d) e = inr (inl refl)
from_zero (fin true m d) e =
    let same : 0 * 1 * down d ≡ m * up d * 1 =
    eqb-true (0 * 1 * down d) (m * up d * 1) (and_true (eqb (0 * 1 * down d) (m * up d * 1)) (eqb (0 * 1 * down d) 0) e).0 in
    let nothing : m * up d ≡ 0 = sym (mul-one (m * up d)) ∙ sym same ∙ rw (zero-mul 1) (zero-mul (down d)) in
    inr (inr (⊎_elim (λ z. z) (λ more. let h : 0 < m * up d = mul-pos more (up_pos d) in absurd (omega arith)) (eq-zero-or-pos m)))

-- ---- what a timing is asked

abbrev pub top_float : Float
top_float = fin false 65535 (pos 0)

-- an infinity is above every whole number
inf_above : (x : Float) → x ≡ inf false → le x top_float ≡ true → ⊥
unfolding le
inf_above x is e = true≢false (sym (rw is at e))

-- a difference is not finite where one of its values is an infinity
inf_seconds : (d : Float) → AtLeastZero (difference (inf false) d) → ⊥
unfolding sub
inf_seconds nan h = h
inf_seconds (inf true) h = h
inf_seconds (inf false) h = h
inf_seconds (fin s m e) h = h

inf_dead : (s : Float) → AtLeastZero (difference s (inf false)) → ⊥
unfolding sub
inf_dead nan h = h
inf_dead (inf true) h = h
inf_dead (inf false) h = h
inf_dead (fin s m e) h = h

-- the four comparisons say that a timing is as it must be
pub compared_admitted : (s d : Float) → le zero_float s ≡ true → le zero_float d ≡ true → le zero_float (difference s d) ≡ true
    → le (difference s d) top_float ≡ true → Admitted (took s) d
compared_admitted s d es ed e f =
    let rest : AtLeastZero (difference s d) = ⊎_elim (λ is. absurd (inf_above (difference s d) is f)) (λ h. h) (from_zero (difference s d) e) in (
      ⊎_elim (λ is. absurd (inf_seconds d (rw is at rest))) (λ h. h) (from_zero s es),
      ⊎_elim (λ is. absurd (inf_dead s (rw is at rest))) (λ h. h) (from_zero d ed),
      rest,
      leb-true (num (difference s d)) (65535 * den (difference s d)) (sym (at_most (difference s d) top_float 65535 rest (refl, refl)) ∙ f),
    )

pub admitted_compared : (s d : Float) → Admitted (took s) d
    → (le zero_float s ≡ true) × (le zero_float d ≡ true) × (le zero_float (difference s d) ≡ true) × (le (difference s d) top_float ≡ true)
admitted_compared s d (seconds, dead, rest, top) = (
  zero_at_most s seconds,
  zero_at_most d dead,
  zero_at_most (difference s d) rest,
  at_most (difference s d) top_float 65535 rest (refl, refl) ∙ le-leb (num (difference s d)) (65535 * den (difference s d)) top,
)

-- ---- what the value of `a && b` tells

pub and_both : {a b v : Bool} → a ≡ true → v ≡ b → v ≡ (a && b)
and_both e f = rw e f

pub and_first : {a v : Bool} (b : Bool) → a ≡ false → v ≡ a → v ≡ (a && b)
and_first b e f = rw e (f ∙ e)
