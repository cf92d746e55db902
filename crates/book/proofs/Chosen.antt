-- Tests that numbers pass one after the other, and lists that choose numbers. Assumes nothing.
use mathlib.Core.Path.{◌≡◌, refl, ap, sym, ◌∙◌, fun_ext}
use mathlib.Core.Logic.{◌⊎◌, inl, inr, ⊎_elim}
use mathlib.Core.Bool.{Bool, true, false, ◌&&◌, ◌||◌, and-false}
use mathlib.Core.Option.{Option}
use mathlib.Core.List.{List}
use Prim.Native.Nat.{ℕ, zero, suc, ◌+◌, ◌<◌}
use native.Mathlib.Omega.{arith}
use lib.Dec.{eqb, ltb}
use lib.ListN.{length, get_or, set, replicate}
use lib.Seq.{get_or-set_same, get_or-set_other}
use borrow.Author.Tests.{ltb-true, ltb-false, lt-ltb, le-ltb, eq-eqb, ne_eqb}
use Rattle.definitions.specs.Basics.{unless}
use Rattle.definitions.proofs.Options.{equal_or_not}
use Rattle.book.specs.Chosen.{chosen, only, up_to}

-- ---- tests

pub none_only : (g : ℕ → Bool) (i : ℕ) → g i ≡ false → (λ (k : ℕ). false) ≡ only g i
none_only g i off =
    fun_ext λ k. sym (⊎_elim (λ e. ap (λ j. g j && eqb k i) e ∙ rw off) (λ ne. rw (ne_eqb k i ne) (and-false (g k))) (equal_or_not k i))

-- i alone passes where i does
pub one_only : (g : ℕ → Bool) (i : ℕ) → g i ≡ true → (λ (k : ℕ). eqb k i) ≡ only g i
one_only g i on =
    fun_ext λ k. sym (⊎_elim (λ e. ap (λ j. g j && eqb k i) e ∙ rw on) (λ ne. rw (ne_eqb k i ne) (and-false (g k))) (equal_or_not k i))

-- nothing by one test and then by another
pub unless_both : {A : Type 0} (a b : Bool) (o : Option A) → unless b (unless a o) ≡ unless (a || b) o
unless_both true true o = refl
unless_both true false o = refl
unless_both false b o = refl

-- ---- lists

-- a list of zeros has 0 at every number
pub zeros_at : (size k : ℕ) → ◌≡◌ {A = ℕ} (get_or (replicate size 0) k 0) 0
zeros_at zero k = refl
zeros_at (suc size) zero = refl
zeros_at (suc size) (suc k) = zeros_at size k

-- so it chooses none
pub zeros : (size : ℕ) → chosen (replicate size 0) ≡ (λ k. false)
zeros size = fun_ext λ k. rw (zeros_at size k)

-- one number more is chosen
pub chosen_more : (list : List ℕ) (m k : ℕ) → m < length list → chosen (set list m 1) k ≡ (eqb m k || chosen list k)
chosen_more list m k under =
    ⊎_elim
    (λ same.
    ap (chosen (set list m 1)) same
    ∙ eq-eqb (get_or (set list m 1) m 0) 1 (get_or-set_same list m 1 0 under)
    ∙ sym (rw (eq-eqb m k (sym same))))
    (λ other. ap (λ w. eqb w 1) (get_or-set_other list m k 1 0 other) ∙ sym (rw (ne_eqb m k (λ e. other (sym e)))))
    (equal_or_not k m)
