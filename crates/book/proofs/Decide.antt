-- Laws of the answers of tests: what an answer tells, and how one is shown right. Assumes nothing.
use mathlib.Core.Path.{◌≡◌, refl}
use mathlib.Core.Bool.{Bool, true, false, not}
use Prim.Native.Nat.{ℕ}
use lib.Dec.{eqb}
use borrow.Author.Tests.{eqb-true, eqb-false, not-true, not-false}
use Rattle.definitions.proofs.Options.{true_false}
use Rattle.book.specs.Decides.{Decides}

-- an answer that is true, and one that is false
pub holds : {P : Type 0} (b : Bool) → Decides b P → b ≡ true → P
holds true d e = d
holds false d e = absurd (true_false e refl)

pub fails : {P : Type 0} (b : Bool) → Decides b P → b ≡ false → P → ⊥
fails true d e = absurd (true_false refl e)
fails false d e = d

-- the same where the answer is negated before it is looked at
pub passed : {P : Type 0} (b : Bool) → Decides b P → not b ≡ false → P
passed b d e = holds b d (not-false b e)

pub refused : {P : Type 0} (b : Bool) → Decides b P → not b ≡ true → P → ⊥
refused b d e = fails b d (not-true b e)

-- an answer is right where it is true exactly if the statement holds
pub decides_by : {P : Type 0} (b : Bool) → (b ≡ true → P) → (P → b ≡ true) → Decides b P
decides_by true f g = f refl
decides_by false f g = λ p. true_false (g p) refl

-- what decides a statement decides one that holds where it does
pub decides_same : {P Q : Type 0} (b : Bool) → (P → Q) → (Q → P) → Decides b P → Decides b Q
decides_same true f g d = f d
decides_same false f g d = λ q. d (g q)

-- a test of two numbers for equality, and its opposite
pub decides_if : {P : Type 0} (a b : ℕ) → (a ≡ b → P) → ((a ≡ b → ⊥) → P → ⊥) → Decides (eqb a b) P
decides_if {P} a b f g = go (eqb a b) refl
  where
    go : (c : Bool) → eqb a b ≡ c → Decides c P
    go true e = f (eqb-true a b e)
    go false e = g (eqb-false a b e)

pub decides_equal : {P : Type 0} (a b : ℕ) → (a ≡ b → P) → (P → a ≡ b) → Decides (eqb a b) P
decides_equal a b f g = decides_if a b f (λ other p. other (g p))

pub decides_other : {P : Type 0} (a b : ℕ) → ((a ≡ b → ⊥) → P) → (P → a ≡ b → ⊥) → Decides (not (eqb a b)) P
decides_other {P} a b f g = go (eqb a b) refl
  where
    go : (c : Bool) → eqb a b ≡ c → Decides (not c) P
    go true e = λ p. g p (eqb-true a b e)
    go false e = f (eqb-false a b e)
