-- What a word tells of the number that it is the word of, if there is one. Assumes nothing.
use mathlib.Core.Path.{◌≡◌, refl, sym, ap, subst, ◌∙◌}
use mathlib.Core.Bool.{Bool, true, false, cond}
use mathlib.Core.Option.{Option, none, some}
use Prim.Native.Nat.{ℕ, ◌≤◌, ◌<◌}
use native.Mathlib.Omega.{arith}
use lib.Dec.{eqb}
use borrow.Author.Tests.{eqb-false}
use Rattle.definitions.specs.Limits.{absent}
use Rattle.definitions.specs.Book.{word, number, under}
use Rattle.definitions.proofs.Options.{none_some, some_same}
use Rattle.definitions.proofs.Lists.{no_value}
use Rattle.definitions.proofs.Words.{under_some}

-- what is said of number i, if anything, is said under the limit, and never by the word for absent
abbrev pub Within : ℕ → ℕ → Option ℕ → Type 0
Within limit i o = (n : ℕ) → o ≡ some n → (i < limit) × (n ≡ absent → ⊥)

-- what is told unless a word is z, is told where the word is not z
pub told : {A : Type 0} (w z : ℕ) (v : A) {a : A} → cond (eqb w z) none (some v) ≡ some a → (v ≡ a) × (w ≡ z → ⊥)
told {A} w z v {a} = go (eqb w z) refl
  where
    go : (b : Bool) → eqb w z ≡ b → cond b none (some v) ≡ some a → (v ≡ a) × (w ≡ z → ⊥)
    go true e f = absurd (none_some refl f)
    go false e f = (some_same refl f, eqb-false w z e)

-- a number read under a limit
pub number_read : (limit i w : ℕ) {n : ℕ} → under limit i (number w) ≡ some n → (i < limit) × (n ≡ absent → ⊥)
unfolding number
number_read limit i w e =
    let (l, f) = under_some limit i (number w) e in
    let (same, other) = told w absent w f in
    (l, λ z. other (same ∙ z))

-- ---- a word v that is the word of what o says

-- a number that is said is the word
pub said_is : {v n : ℕ} (o : Option ℕ) → v ≡ word o → o ≡ some n → v ≡ n
unfolding word
said_is none e f = absurd (none_some refl f)
said_is (some k) e f = e ∙ some_same refl f

-- where nothing is said the word is absent
pub unsaid_is : {v : ℕ} {o : Option ℕ} → v ≡ word o → o ≡ none → v ≡ absent
unfolding word
unsaid_is e f = e ∙ ap word f

-- where the word is absent nothing is said
pub unsaid : {v : ℕ} {limit i : ℕ} {o : Option ℕ} → Within limit i o → v ≡ word o → v ≡ absent → o ≡ none
unsaid {o = o} w e z = no_value o (λ n f. (w n f).1 (sym (said_is o e f) ∙ z))

-- so a statement of the word is one of every number that is said
pub said_all : (P : ℕ → Type 0) (o : Option ℕ) {v : ℕ} → v ≡ word o → P v → (n : ℕ) → o ≡ some n → P n
said_all P o e p n f = subst P (said_is o e f) p

-- of which there is none where the word is absent
pub unsaid_all : {limit i : ℕ} {o : Option ℕ} {v : ℕ} → Within limit i o → v ≡ word o → v ≡ absent → (n : ℕ) → o ≡ some n → ⊥
unsaid_all w e z n f = none_some (unsaid w e z) f

-- nothing is said of a number past the limit
pub outside : {limit i : ℕ} (o : Option ℕ) → Within limit i o → limit ≤ i → absent ≡ word o
unfolding word
outside none w past = refl
outside (some n) w past = absurd (omega (arith, (w n refl).0))
