-- The greatest number under a limit that passes a test. Assumes nothing.
use mathlib.Core.Path.{◌≡◌, refl, sym, ◌∙◌, ap}
use mathlib.Core.Logic.{⊎_elim}
use mathlib.Core.Bool.{Bool, true, false, cond}
use mathlib.Core.Option.{none, some}
use Prim.Native.Nat.{ℕ, zero, suc, ◌<◌}
use native.Mathlib.Omega.{arith}
use Rattle.definitions.proofs.Options.{equal_or_not, some_same, none_some}
use Rattle.definitions.proofs.Commands.{not_true_false}
use Rattle.opening.specs.Rows.{last_under}

-- one number more: it is the greatest where it passes
pub last_pass : (k : ℕ) (p : ℕ → Bool) → p k ≡ true → last_under (suc k) p ≡ some k
unfolding last_under
last_pass k p e = rw e

-- and else nothing changes
pub last_skip : (k : ℕ) (p : ℕ → Bool) → p k ≡ false → last_under (suc k) p ≡ last_under k p
unfolding last_under
last_skip k p e = rw e

-- where no number under the limit passes there is none
pub last_none : (k : ℕ) (p : ℕ → Bool) → ((j : ℕ) → j < k → p j ≡ false) → last_under k p ≡ none
unfolding last_under
last_none zero p h = refl
last_none (suc k) p h = rw (h k (omega arith)) (last_none k p (λ j l. h j (omega arith)))

-- a number that passes, where none above it does, is the greatest
pub last_is : (k n : ℕ) (p : ℕ → Bool) → n < k → p n ≡ true → ((j : ℕ) → n < j → j < k → p j ≡ false) → last_under k p ≡ some n
unfolding last_under
last_is zero n p l e h = absurd (omega arith)
last_is (suc k) n p l e h =
    ⊎_elim (λ here. rw (← here, e))
    (λ other. rw (h k (omega (arith, other)) (omega arith)) (last_is k n p (omega (arith, other)) e (λ j a b. h j a (omega arith))))
    (equal_or_not n k)

-- the only number that passes is the greatest
pub last_only : (k n : ℕ) (p : ℕ → Bool) → n < k → p n ≡ true → ((j : ℕ) → j < k → p j ≡ true → j ≡ n) → last_under k p ≡ some n
last_only k n p l e only = last_is k n p l e (λ j above under. not_true_false (λ f. omega (arith, only j under f)))

-- what is found is under the limit and passes, and none above it does
pub last_found : (k : ℕ) (p : ℕ → Bool) (n : ℕ) → last_under k p ≡ some n
    → (n < k) × (p n ≡ true) × ((j : ℕ) → n < j → j < k → p j ≡ false)
unfolding last_under
last_found zero p n e = absurd (none_some refl e)
last_found (suc k) p n e = go (p k) refl (last_found k p n) e
  where
    go : (b : Bool) → p k ≡ b → (last_under k p ≡ some n → (n < k) × (p n ≡ true) × ((j : ℕ) → n < j → j < k → p j ≡ false))
        → cond b (some k) (last_under k p) ≡ some n → (n < suc k) × (p n ≡ true) × ((j : ℕ) → n < j → j < suc k → p j ≡ false)
    go true passes found f =
        let here : k ≡ n = some_same refl f in
        (omega arith, sym (ap p here) ∙ passes, λ j above under. absurd (omega arith))
    go false fails found f =
        let (small, passes, others) = found f in (
          omega arith,
          passes,
          λ j above under. ⊎_elim (λ here. ap p here ∙ fails) (λ other. others j above (omega (arith, other))) (equal_or_not j k),
        )

pub last_under_lem : (k : ℕ) (p : ℕ → Bool) (n : ℕ) → last_under k p ≡ some n → n < k
last_under_lem k p n e = (last_found k p n e).0
