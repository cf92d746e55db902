-- Numbers in decimal, digit by digit as they are written, and how long they are; numbers after spaces. Assumes nothing.
use mathlib.Core.Path.{◌≡◌, refl, sym, ◌∙◌, ap}
use mathlib.Core.Bool.{Bool, true, false}
use mathlib.Core.List.{[], List, ◌∷◌, ◌++◌, append_assoc, append-nil}
use Prim.Native.Nat.{ℕ, zero, suc, ◌+◌, ◌*◌, ◌/◌, ◌%◌, ◌^◌, ◌≤◌, ◌<◌}
use native.Mathlib.Nat.{pow-suc, suc-mul}
use native.Mathlib.Numerals.{add-one}
use native.Mathlib.Omega.{arith}
use lib.Dec.{ltb}
use lib.ListN.{length, get_or, take, length-append}
use lib.Seq.{take-suc}
use borrow.Author.Tests.{lt-ltb, le-ltb, ltb-true, ltb-false}
use Rattle.definitions.specs.Session.{digits, decimal, spaced}
use Rattle.lines.specs.Meaning.{numbers}

-- ---- digits

-- a number under 10 has one digit
digits_one : (k n : ℕ) → n < 10 → digits (suc k) n ≡ (48 + n) ∷ []
unfolding digits
digits_one k n h = rw (lt-ltb n 10 h)

-- another has those of its tenth, and then its last
digits_on : (k n : ℕ) → 10 ≤ n → digits (suc k) n ≡ digits k (n / 10) ++ ((48 + n % 10) ∷ [])
unfolding digits
digits_on k n h = rw (le-ltb n 10 h)

-- a power of ten more holds ten times as much
tenth : (k n : ℕ) → n < 10 ^ suc k → n / 10 < 10 ^ k
tenth k n h = omega (arith, pow-suc 10 k)

-- fuel for the digits is enough
digits_enough : (k n : ℕ) → n < 10 ^ suc k → digits (suc k) n ≡ digits (suc (suc k)) n
digits_enough zero n h = digits_one 0 n h ∙ sym (digits_one 1 n h)
digits_enough (suc k) n h = go (digits_enough k (n / 10) (tenth (suc k) n h)) (ltb n 10) refl
  where
    go : digits (suc k) (n / 10) ≡ digits (suc (suc k)) (n / 10) → (b : Bool) → ltb n 10 ≡ b
        → digits (suc (suc k)) n ≡ digits (suc (suc (suc k))) n
    go fewer true e = let small = ltb-true n 10 e in digits_one (suc k) n small ∙ sym (digits_one (suc (suc k)) n small)
    go fewer false e =
        let big = ltb-false n 10 e in
        digits_on (suc k) n big ∙ ap (λ (l : List ℕ). l ++ ((48 + n % 10) ∷ [])) fewer ∙ sym (digits_on (suc (suc k)) n big)

-- a number under a power of ten has no more digits than that
digits_short : (k j n : ℕ) → n < 10 ^ suc j → length (digits k n) ≤ suc j
unfolding digits
digits_short zero j n h = omega arith
digits_short (suc k) zero n h = rw (lt-ltb n 10 h) (omega arith)
digits_short (suc k) (suc j) n h = go (digits_short k j (n / 10) (tenth (suc j) n h)) (ltb n 10) refl
  where
    go : length (digits k (n / 10)) ≤ suc j → (b : Bool) → ltb n 10 ≡ b → length (digits (suc k) n) ≤ suc (suc j)
    go fewer true e = rw (digits_one k n (ltb-true n 10 e)) (omega arith)
    go fewer false e = rw (digits_on k n (ltb-false n 10 e), length-append) (omega arith)

-- ---- a number in decimal

pub decimal_one : (n : ℕ) → n < 10 → decimal n ≡ (48 + n) ∷ []
decimal_one n h = digits_one 19 n h

pub decimal_on : (n : ℕ) → n < 2 ^ 64 → 10 ≤ n → decimal n ≡ decimal (n / 10) ++ ((48 + n % 10) ∷ [])
decimal_on n h big =
    digits_on 19 n big ∙ ap (λ (l : List ℕ). l ++ ((48 + n % 10) ∷ [])) (digits_enough 18 (n / 10) (omega arith))

-- at most 20 digits; a number of 32 bits has at most 10, and a byte at most 3
pub decimal_short : (j n : ℕ) → n < 10 ^ suc j → length (decimal n) ≤ suc j
decimal_short j n h = digits_short 20 j n h

pub decimal_byte : (n : ℕ) → n < 256 → length (decimal n) ≤ 3
decimal_byte n h = decimal_short 2 n (omega arith)

pub decimal_length : (n : ℕ) → n < 2 ^ 64 → length (decimal n) ≤ 20
decimal_length n h = decimal_short 19 n (omega arith)

-- ---- numbers after spaces

-- a number before the others
pub spaced_first : (n : ℕ) (ns : List ℕ) → spaced (n ∷ ns) ≡ (32 ∷ decimal n) ++ spaced ns
unfolding spaced
spaced_first n ns = refl

-- numbers and a newline are the end of a line
pub spaced_numbers : (ns : List ℕ) → spaced ns ≡ numbers ns ++ (10 ∷ [])
unfolding spaced numbers
spaced_numbers [] = refl
spaced_numbers (n ∷ ns) = ap (λ (l : List ℕ). 32 ∷ (decimal n ++ l)) (spaced_numbers ns) ∙ ap (λ (l : List ℕ). 32 ∷ l) (sym (append_assoc (decimal n) (numbers ns) (10 ∷ [])))

-- one number more, at the end
numbers_more : (ns : List ℕ) (n : ℕ) → numbers (ns ++ (n ∷ [])) ≡ numbers ns ++ (32 ∷ decimal n)
unfolding numbers
numbers_more [] n = ap (λ (l : List ℕ). 32 ∷ l) (append-nil (decimal n))
numbers_more (m ∷ ns) n =
    ap (λ (l : List ℕ). 32 ∷ (decimal m ++ l)) (numbers_more ns n) ∙ ap (λ (l : List ℕ). 32 ∷ l) (sym (append_assoc (decimal m) (numbers ns) (32 ∷ decimal n)))

-- the same for the numbers of a list up to a place
pub numbers_next : (ns : List ℕ) (i : ℕ) → i < length ns → numbers (take (i + 1) ns) ≡ numbers (take i ns) ++ (32 ∷ decimal (get_or ns i 0))
numbers_next ns i h = rw (add-one i, take-suc ns i 0 h) (numbers_more (take i ns) (get_or ns i 0))

-- no number yet
pub numbers_none : (ns : List ℕ) → numbers (take 0 ns) ≡ []
unfolding numbers
numbers_none ns = refl

-- numbers of at most w digits
pub numbers_short : (w : ℕ) (ns : List ℕ) → ((i : ℕ) → i < length ns → length (decimal (get_or ns i 0)) ≤ w) → length (numbers ns) ≤ length ns * suc w
unfolding numbers
numbers_short w [] h = omega arith
numbers_short w (n ∷ ns) h =
    rw length-append (omega (arith, h 0 (omega arith), numbers_short w ns (λ i less. h (suc i) (omega arith)), suc-mul (length ns) (suc w)))
