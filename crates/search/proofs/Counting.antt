-- Counting the numbers that pass a test, when the test changes at one number. Assumes nothing.
use mathlib.Core.Path.{◌≡◌, refl}
use mathlib.Core.Logic.{⊎_elim}
use mathlib.Core.Bool.{Bool, true, false}
use Prim.Native.Nat.{ℕ, zero, suc, ◌<◌}
use native.Mathlib.Omega.{arith}
use Rattle.definitions.specs.Basics.{count_below}
use Rattle.definitions.proofs.Options.{equal_or_not}
use Rattle.definitions.proofs.Simple.{count_same}

-- a test that every number passes
pub count_all : (k : ℕ) (p : ℕ → Bool) → ((v : ℕ) → v < k → p v ≡ true) → count_below k p ≡ k
unfolding count_below
count_all zero p all = refl
count_all (suc k) p all = rw (all k (omega arith)) (omega (arith, count_all k p (λ v h. all v (omega arith))))

-- a test that one number fewer passes
pub count_less : (k : ℕ) (p q : ℕ → Bool) (u : ℕ) → u < k → p u ≡ true → q u ≡ false → ((v : ℕ) → (v ≡ u → ⊥) → p v ≡ q v)
    → count_below k p ≡ suc (count_below k q)
unfolding count_below
count_less zero p q u range pu qu other = absurd (omega arith)
count_less (suc k) p q u range pu qu other =
    ⊎_elim
    (λ (e : k ≡ u).
    let pk : p k ≡ true = rw e pu in
    let qk : q k ≡ false = rw e qu in
    rw (pk, qk) (omega (arith, count_same k p q (λ v h. other v (λ same. omega arith)))))
    (λ e. rw (other k e) (omega (arith, count_less k p q u (omega arith) pu qu other)))
    (equal_or_not k u)

-- a test that some number passes
pub count_some : (k : ℕ) (p : ℕ → Bool) (u : ℕ) → u < k → p u ≡ true → 0 < count_below k p
unfolding count_below
count_some zero p u range pu = absurd (omega arith)
count_some (suc k) p u range pu =
    ⊎_elim
    (λ (e : k ≡ u).
    let pk : p k ≡ true = rw e pu in
    rw pk (omega arith))
    (λ e. omega (arith, count_some k p u (omega arith) pu))
    (equal_or_not k u)
