-- What the answer of a test says of what it tests.
use Rattle.std.specs.Prelude.{Bool, true, false}

-- the answer is true where the statement holds, and false where it does not
abbrev pub Decides : Bool → Type 0 → Type 0
Decides true P = P
Decides false P = P → ⊥
