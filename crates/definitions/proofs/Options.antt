-- Laws of values that may be absent, and of functions changed at one number. Assumes nothing.
use mathlib.Core.Path.{◌≡◌, refl, ap}
use mathlib.Core.Logic.{◌⊎◌, inl, inr}
use mathlib.Core.Bool.{Bool, true, false, ◌&&◌, ◌||◌}
use mathlib.Core.Option.{Option, none, some}
use Prim.Native.Nat.{ℕ, zero, suc, ◌≤◌, ◌<◌}
use native.Mathlib.Decide.{dec_le}
use native.Mathlib.Nat.{lt_of_not-le}
use native.Mathlib.Omega.{arith}
use lib.Dec.{eqb}
use borrow.Author.Tests.{eqb-true, eqb-false, eq-eqb, ne_eqb}
use Rattle.definitions.specs.Basics.{◌>>=◌, unless, iterate, is_some, is_at, put, Least}

-- what a value bound to another was bound from
pub bind_some : {A B : Type 0} (o : Option A) (f : A → Option B) {b : B} → (o >>= f) ≡ some b → (a : A) × (o ≡ some a) × (f a ≡ some b)
bind_some none f e = absurd (let z : ◌≡◌ {A = ℕ} 0 1 = cc in omega arith)
bind_some (some a) f e = (a, refl, e)

-- a value is there or not
pub present : {A : Type 0} (o : Option A) → (o ≡ none) ⊎ ((a : A) × (o ≡ some a))
present none = inl refl
present (some a) = inr (a, refl)

-- nothing is never something
pub none_some : {A : Type 0} {o : Option A} {a : A} → o ≡ none → o ≡ some a → ⊥
none_some p q = let z : ◌≡◌ {A = ℕ} 0 1 = cc in omega arith

-- what is left of a value
pub unless_some : {A : Type 0} (b : Bool) (o : Option A) {a : A} → unless b o ≡ some a → (b ≡ false) × (o ≡ some a)
unless_some true o e = absurd (none_some refl e)
unless_some false o e = (refl, e)

-- a test is true or false, never both
pub decided : (b : Bool) → (b ≡ true) ⊎ (b ≡ false)
decided true = inl refl
decided false = inr refl

pub true_false : {b : Bool} → b ≡ true → b ≡ false → ⊥
true_false p q = let z : ◌≡◌ {A = ℕ} 0 1 = cc in omega arith

-- two tests that pass together both pass
pub and_true : (a b : Bool) → (a && b) ≡ true → (a ≡ true) × (b ≡ true)
and_true true b e = (refl, e)
and_true false b e = absurd (true_false e refl)

-- of two tests one holds
pub either : (a b : Bool) → (a || b) ≡ true → (a ≡ true) ⊎ (b ≡ true)
either true b e = inl refl
either false b e = inr e

-- two numbers are equal or not
pub equal_or_not : (a b : ℕ) → (a ≡ b) ⊎ (a ≡ b → ⊥)
equal_or_not a b = go (eqb a b) refl
  where
    go : (t : Bool) → eqb a b ≡ t → (a ≡ b) ⊎ (a ≡ b → ⊥)
    go true e = inl (eqb-true a b e)
    go false e = inr (eqb-false a b e)

-- one number is less than another or not
pub less_or_not : (a b : ℕ) → (a < b) ⊎ (b ≤ a)
less_or_not a b = elim (dec_le b a) [ yes from ↦ inr from | no before ↦ inl (lt_of_not-le before) ]

-- one value at most
pub some_same : {A : Type 0} {o : Option A} {a b : A} → o ≡ some a → o ≡ some b → a ≡ b
some_same p q = cc

-- a step repeated: once more at the end
pub iterate_more : (f : ℕ → Option ℕ) (j n : ℕ) {m p : ℕ} → iterate f j n ≡ some m → f m ≡ some p → iterate f (suc j) n ≡ some p
unfolding iterate
iterate_more f zero n {m} {p} e last = rw (some_same {a = n} refl e, last)
iterate_more f (suc j) n e last =
    let (u, first, rest) = bind_some (f n) (iterate f j) e in
    rw first (iterate_more f j u rest last)

-- a function changed at k has the new value at k, and elsewhere the old ones
pub put_same : {A : Type 0} (f : ℕ → A) (k : ℕ) (v : A) → put f k v k ≡ v
put_same f k v = rw (eq-eqb k k refl)

pub put_other : {A : Type 0} (f : ℕ → A) (k : ℕ) (v : A) (n : ℕ) → (n ≡ k → ⊥) → put f k v n ≡ f n
put_other f k v n h = rw (ne_eqb n k h)

-- a value that is there and is k
pub is_at_true : (o : Option ℕ) (k : ℕ) → is_at o k ≡ true → o ≡ some k
is_at_true none k e = absurd (true_false e refl)
is_at_true (some n) k e = ap {B = Option ℕ} some (eqb-true n k e)

pub is_at_some : (n k : ℕ) {o : Option ℕ} → o ≡ some n → n ≡ k → is_at o k ≡ true
is_at_some n k {o} e h = rw e (eq-eqb n k h)

pub is_at_other : (n k : ℕ) {o : Option ℕ} → o ≡ some n → (n ≡ k → ⊥) → is_at o k ≡ false
is_at_other n k {o} e h = rw e (ne_eqb n k h)

-- a value is there where the test says so
pub is_some_true : {A : Type 0} (o : Option A) → is_some o ≡ true → (a : A) × (o ≡ some a)
is_some_true none e = absurd (true_false e refl)
is_some_true (some a) e = (a, refl)

pub is_some_false : {A : Type 0} (o : Option A) → is_some o ≡ false → o ≡ none
is_some_false none e = refl
is_some_false (some a) e = absurd (true_false refl e)

-- two properties of the same numbers have the same least number
pub least_unique : (P Q : ℕ → Type 0) → ((c : ℕ) → P c → Q c) → ((c : ℕ) → Q c → P c) → (a b : Option ℕ) → Least P a → Least Q b → a ≡ b
least_unique P Q to from none none la lb = refl
least_unique P Q to from none (some d) la lb = absurd (la d (from d lb.0))
least_unique P Q to from (some c) none la lb = absurd (lb c (to c la.0))
least_unique P Q to from (some c) (some d) la lb =
    ap {B = Option ℕ} some (omega (arith, la.1 d (from d lb.0), lb.1 c (to c la.0)))

-- there is one least number at most
pub least_one : (P : ℕ → Type 0) (a b : Option ℕ) → Least P a → Least P b → a ≡ b
least_one P = least_unique P P (λ c p. p) (λ c p. p)
