-- Pieces one after the other, as a loop stores them. Assumes nothing.
use mathlib.Core.Path.{◌≡◌, refl, sym, ◌∙◌, ap}
use mathlib.Core.List.{List, ◌++◌, append-nil, append_assoc}
use Prim.Native.Nat.{ℕ, zero, suc, ◌+◌, ◌*◌, ◌≤◌}
use native.Mathlib.Nat.{suc-mul}
use native.Mathlib.Numerals.{add-one}
use native.Mathlib.Omega.{arith}
use lib.ListN.{length, length-append}
use Rattle.definitions.specs.Basics.{joined}
use Rattle.storing.specs.Stored.{Stored}
use Rattle.storing.proofs.Laws.{stored_none, stored_then}

-- one piece more, at the end
pub joined_suc : {A : Type 0} (k : ℕ) (f : ℕ → List A) → joined (suc k) f ≡ joined k f ++ f k
unfolding joined
joined_suc zero f = append-nil (f 0)
joined_suc {A} (suc k) f =
    ap (λ (l : List A). f 0 ++ l) (joined_suc k (λ i. f (suc i))) ∙ sym (append_assoc (f 0) (joined k (λ i. f (suc i))) (f (suc k)))

-- pieces of at most w elements
pub joined_short : {A : Type 0} (w k : ℕ) (f : ℕ → List A) → ((i : ℕ) → length (f i) ≤ w) → length (joined k f) ≤ k * w
unfolding joined
joined_short w zero f h = omega arith
joined_short w (suc k) f h =
    rw length-append (omega (arith, h 0, joined_short w k (λ i. f (suc i)) (λ i. h (suc i)), suc-mul k w))

-- no piece yet
pub pieces_none : {A : Type 0} (f : ℕ → List A) (out : List A) (at : ℕ) → Stored out at (joined 0 f) at out
unfolding joined
pieces_none f out at = stored_none out at refl

-- one piece more, where those before it end
pub pieces_more : {A : Type 0} (f : ℕ → List A) {out mid out' : List A} {at p q i : ℕ} → Stored out at (joined i f) p mid → Stored mid p (f i) q out'
    → Stored out at (joined (i + 1) f) q out'
pieces_more f {i} before next = rw (add-one, joined_suc i f) (stored_then before next)
