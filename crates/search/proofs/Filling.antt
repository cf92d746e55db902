-- Blanking the words of the first nodes, one node at a time. Assumes nothing.
use mathlib.Core.Path.{◌≡◌}
use Prim.Native.Nat.{ℕ, ◌≤◌, ◌<◌}

-- the first n places hold w, and the others what they held
pub record Upto (w n : ℕ) (f g : ℕ → ℕ) : Type 0 where
  pub filled : (v : ℕ) → v < n → g v ≡ w
  pub kept : (v : ℕ) → n ≤ v → g v ≡ f v
