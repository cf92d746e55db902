-- What is compared with the own exit cost of a node. Assumes nothing.
use mathlib.Core.Path.{◌≡◌, refl}
use mathlib.Core.Bool.{Bool, true, false}
use Prim.Native.Nat.{ℕ, ◌+◌, ◌≤◌}
use native.Mathlib.Omega.{arith}
use lib.Dec.{eqb, leb}
use borrow.Author.Tests.{leb-true, leb-false, eq-eqb, ne_eqb}
use Rattle.definitions.specs.Limits.{blank}
use Rattle.definitions.specs.Tree.{Tree}
use Rattle.definitions.specs.Sheet.{Rows, cost_word, cost_of}
use Rattle.definitions.specs.Truth.{node_exit}
use Rattle.definitions.proofs.Options.{none_some, some_same}
use Rattle.book.specs.Decides.{Decides}
use Rattle.book.proofs.Decide.{decides_equal}
use Rattle.std.proofs.Common.{Some, None}
use Rattle.std.proofs.Common as core
use Rattle.sheet.specs.Exits.{Exits}
use Rattle.sheet.proofs.Reading.{ReadRows, cost_is, cost_said, cost_unsaid}
use Rattle.sheet.proofs.Exits.{exits_some}
use Rattle.truesheet.specs.Fits.{AtMost, AddsUp}

-- ---- what is at most something

-- a test of order
decides_le : {P : Type 0} (a b : ℕ) → (a ≤ b → P) → (P → a ≤ b) → Decides (leb a b) P
decides_le {P} a b f g = go (leb a b) refl
  where
    go : (c : Bool) → leb a b ≡ c → Decides c P
    go true e = f (leb-true a b e)
    go false e = λ p. omega (arith, g p, leb-false a b e)

pub at_most_blank : {c : ℕ} (k : ℕ) → c ≡ blank → AtMost (cost_of c) k → ⊥
unfolding cost_of
at_most_blank {c} k z (d, e, le) = none_some refl (rw (eq-eqb c blank z) at e)

pub at_most_decides : {c w : ℕ} (k : ℕ) → (c ≡ blank → ⊥) → w ≡ c → Decides (leb w k) (AtMost (cost_of c) k)
unfolding cost_of
at_most_decides {c} {w} k other same =
    rw (ne_eqb c blank other) (decides_le w k (λ le. (c, refl, omega arith)) (λ (d, e, le). omega (arith, some_same refl e)))

-- ---- what adds up to something

module _ (t : Tree) {r : Rows} (read : ReadRows r) (u x w c : ℕ) {d : ℕ} (cost : d ≡ cost_word (r.cost u)) where
  -- nothing does where the node is not reached
  pub adds_blank : d ≡ blank → AddsUp t r u x w c → ⊥
  adds_blank z up = none_some (cost_unsaid (r.cost u) (read.cost u) cost z) up.reached

  pub adds_decides : (d ≡ blank → ⊥) → {a : core.Option ℕ} {e : ℕ} → Exits (node_exit t r u x) a → a ≡ Some e → {d' w' c' : ℕ} → d' ≡ d
      → w' ≡ w → c' ≡ c
      → Decides (eqb (d' + e + w') c') (AddsUp t r u x w c)
  adds_decides other {e = e} exit costs {d'} {w'} {c'} ed ew ec =
      let is = (exits_some exit costs).0 in
      decides_equal (d' + e + w') c'
      (λ same.
      record { node_cost = d; node_exit_cost = e; reached = cost_said (r.cost u) cost other; exits = is; exact = omega arith })
      (λ up. omega (arith, up.exact, cost_is (r.cost u) cost up.reached, some_same is up.exits))
