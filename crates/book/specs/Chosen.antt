-- Numbers that a list or a test chooses.
use Rattle.std.specs.Prelude.{Bool, ◌&&◌, List, ℕ, eqb, ltb, get_or}

-- whether a list has 1 at a number
abbrev pub chosen : List ℕ → ℕ → Bool
chosen list k = eqb (get_or list k 0) 1

-- a test that is passed by i alone, and by the numbers below i alone
abbrev pub only : (ℕ → Bool) → ℕ → ℕ → Bool
only test i k = test k && eqb k i

abbrev pub up_to : (ℕ → Bool) → ℕ → ℕ → Bool
up_to test i k = test k && ltb k i
