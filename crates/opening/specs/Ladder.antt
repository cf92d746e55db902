-- Document 01, "Opening": what the constant table of Open ladder says at each place, by the rule (document 02, W-208: the generator's rows).
use Rattle.std.specs.Prelude.{Bool, ℕ, ◌*◌, ◌/◌, ◌%◌, eqb, get_or}
use Rattle.definitions.specs.Limits.{absent}
use Rattle.definitions.specs.Open.{ladder_machines, row_length}
use Rattle.definitions.specs.Ladder.{ladder_row}

-- how many numbers the table has
abbrev pub ladder_length : ℕ
ladder_length = 3 * ladder_machines * row_length

-- whether the number x stands rightly at place i: row i / 3 has it at its place i % 3
unfoldable pub ladder_right : ℕ → ℕ → Bool
ladder_right i x = eqb x (get_or (ladder_row ladder_machines (i / row_length)) (i % row_length) absent)
