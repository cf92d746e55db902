-- Rounding up: a float that is at least zero, without its fraction, and the least whole number not below it. Assumes nothing.
use Rattle.std.proofs.Common.{◌≡◌, ℕ, ◌+◌, ◌*◌, ◌/◌, ◌^◌, ◌<◌, ◌≤◌, true, false, T, ltb, pos, sym, ◌∙◌, ⊎_elim, lt_of_lt_of_le, div-lt_iff_lt-mul, add-mul, lt_of_mul-lt-mul_right, mul-one, div-mul-le_self, le_of_mul-le-mul_right, arith, lt→ltb, pow_mono, shl_lt, ltb-false, ltb-true}
use mathlib.Core.Path.{refl}
use mathlib.Core.Option.{Option, none, some}
use lib.ListN.{length}
use native.Mathlib.Nat.{zero-div, lt-div-mul-add}
use lib.Ieee.{Float, nan, inf, fin, binary64, up, down, lt, to_unsigned, of_int}
use lib.Ieee.Fits.{down_pos}
use lib.Ieee.Exact.{HasValue, round_exact}
use lib.Ieee.Positive.{num, den, den_pos}
use Rattle.definitions.specs.Basics.{Least}
use Rattle.definitions.specs.Tree.{Transition}
use Rattle.definitions.specs.Import.{Reading, took, waited, difference, AtLeastZero, NotBelow, Timed, setting_bytes}
use Rattle.definitions.proofs.Options.{less_or_not}
use Rattle.importing.proofs.Floats.{minus_zero, below_it}

-- ---- where the fraction may be dropped: above -1 and below 2 ^ 64

pub low_enough : (x : Float) → AtLeastZero x → T (lt (fin true 1 (pos 0)) x)
unfolding lt
low_enough nan h = absurd h
low_enough (inf s) h = absurd h
low_enough (fin false m e) h = lt→ltb 0 (1 * 1 * down e + m * up e * 1) (omega (arith, down_pos e))
low_enough (fin true m e) h = lt→ltb (m * up e * 1) (1 * 1 * down e) (omega (arith, down_pos e, minus_zero m e h))

pub high_enough : (x : Float) → AtLeastZero x → NotBelow x 65535 → T (lt x (fin false 1 (pos 64)))
unfolding lt
high_enough nan h top = absurd h
high_enough (inf s) h top = absurd h
high_enough (fin false m e) h top = lt→ltb (m * up e * 1) (1 * 2 ^ 64 * down e) (omega (arith, down_pos e, top))
high_enough (fin true m e) h top = lt→ltb 0 (m * up e * 1 + 1 * 2 ^ 64 * down e) (omega (arith, down_pos e))

-- ---- what is left

pub cut_small : (x : Float) → NotBelow x 65535 → num x / den x < 65536
cut_small x top = (div-lt_iff_lt-mul (den_pos x)).1 (omega (arith, den_pos x, top))

pub cut : (x : Float) → AtLeastZero x → NotBelow x 65535 → to_unsigned 64 x ≡ num x / den x
unfolding to_unsigned
cut nan h top = absurd h
cut (inf s) h top = absurd h
cut (fin false m e) h top = omega (arith, cut_small (fin false m e) top)
cut (fin true m e) h top = rw (minus_zero m e h) (sym (zero-div (down e)))

-- a whole number under 65,536 is a float exactly
pub whole_float : (k : ℕ) → k < 65536 → HasValue (of_int binary64 (pos k)) false k 1
unfolding of_int
whole_float k h =
    let small : k < 2 ^ 53 = omega arith in
    round_exact binary64 false k 1 k 1074 (omega arith) small (lt_of_lt_of_le (shl_lt 53 1074 small) (pow_mono {i = 1127} {j = 2098} (omega arith)))
    (sym (mul-one (k * 2 ^ 1074)))

-- ---- the least whole number not below n / d, from k, which is n / d without its fraction

pub least_next : (n d : ℕ) → 0 < d → n / d * d < n → Least (λ j. n ≤ j * d) (some (n / d + 1))
least_next n d h short = (
  omega (arith, lt-div-mul-add {a = n} h, add-mul (n / d) 1 d),
  λ j enough. let more : n / d < j = lt_of_mul-lt-mul_right d (omega arith) in omega arith,
)

pub least_here : (n d : ℕ) → 0 < d → n ≤ n / d * d → Least (λ j. n ≤ j * d) (some (n / d))
least_here n d h enough = (enough, λ j also. le_of_mul-le-mul_right (omega (arith, div-mul-le_self n d)) h)

-- ---- from the float without its fraction, k, and its comparison with x

module _ (x : Float) (k : ℕ) (h : AtLeastZero x) (top : NotBelow x 65535) (is : k ≡ to_unsigned 64 x) where
  whole : k ≡ num x / den x
  whole = is ∙ cut x h top

  compared : lt (of_int binary64 (pos k)) x ≡ ltb (k * den x) (num x)
  compared = below_it x (of_int binary64 (pos k)) k h (whole_float k (rw whole (cut_small x top)))

  pub round_next : lt (of_int binary64 (pos k)) x ≡ true → Least (NotBelow x) (some (k + 1))
  round_next e =
      let short : k * den x < num x = ltb-true (k * den x) (num x) (sym compared ∙ e) in
      rw whole (least_next (num x) (den x) (den_pos x) (rw whole at short))

  pub round_here : lt (of_int binary64 (pos k)) x ≡ false → Least (NotBelow x) (some k)
  round_here e =
      let enough : num x ≤ k * den x = ltb-false (k * den x) (num x) (sym compared ∙ e) in
      rw whole (least_here (num x) (den x) (den_pos x) (rw whole at enough))

-- there is a least whole number not below a float
pub least_there : (x : Float) → (c : ℕ) × Least (NotBelow x) (some c)
least_there x =
    let n = num x in
    let d = den x in
    ⊎_elim (λ short. (_, least_next n d (den_pos x) short)) (λ enough. (_, least_here n d (den_pos x) enough)) (less_or_not (n / d * d) n)

-- how many bytes a reading asks for
abbrev pub needed : Reading → ℕ
needed (took seconds) = 8
needed (waited seconds) = 4

-- a timing gives a transition, and its bytes are so many
pub timed_there : (n x v : ℕ) (reading : Reading) (dead : Float)
    → (o : Option Transition) × Timed reading dead v o × (length (setting_bytes n x o) ≡ needed reading)
timed_there n x v (took seconds) dead =
    let (c, least) = least_there (difference seconds dead) in
    (some (record { target = v; cost = c }), (c, least, refl), refl)
timed_there n x v (waited seconds) dead = (none, refl, refl)
