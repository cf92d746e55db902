-- Document 02, W-204: a column of operand lengths, and the place that an opcode has in it (the last are 0x1A, W-205's, and 0x1B, W-207's).
use Rattle.std.specs.Prelude.{cond, List, ℕ, ◌-◌, leb, ltb, length, get_or}
use Rattle.std.proofs.Math.Option.{Option}
use Rattle.definitions.specs.Basics.{◌>>=◌}
use Rattle.definitions.specs.Open.{given}

-- the place of an opcode: 0x10 has the first, and from there on each has the next, but for 0x19, the session's plan, which has none
unfoldable pub place : ℕ → Option ℕ
place op = cond (ltb op 0x19) (given (leb 0x10 op) (op - 0x10)) (given (ltb 0x19 op) (op - 0x11))

-- the number at a place of a column; none behind its end
abbrev pub number_at : List ℕ → ℕ → Option ℕ
number_at column i = given (ltb i (length column)) (get_or column i 0)

-- the number that a column has for an opcode
unfoldable pub entry : List ℕ → ℕ → Option ℕ
entry column op = place op >>= number_at column
