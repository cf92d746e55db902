-- What the whole run's enums say by document 01.
use Rattle.std.specs.Prelude.{List, ℕ, Result, Ok, Err}
use Rattle.definitions.specs.Open.{fresh, ladder, table}
use Rattle.definitions.specs.Open.{Opening as Meant}
use Rattle.planning.specs.Meaning.{answer_of}
use Rattle.wholerun.specs.WholeRun.{Run, ran, refused}
use Rattle.wholerun.specs.declared.Opening.{Opening}
use Rattle.wholerun.specs.declared.Opening.TheVariants.{Fresh, Ladder, Table}
use Rattle.wholerun.specs.declared.RunError.{RunError}
use Rattle.wholerun.specs.declared.RunError.TheVariants.{Refused, MalformedEnds}
use Rattle.refusals.specs.Meaning.{number_of}
use Rattle.refusals.specs.declared.Refusal.{Refusal}
use Rattle.planning.specs.declared.Planned.{Planned}

-- the way to open a holding, with the rows that are lent beside it
abbrev pub opening_of : Opening → List ℕ → Meant
opening_of Fresh rows = fresh
opening_of Ladder rows = ladder
opening_of Table rows = table rows

-- the number of what keeps a whole run from Plan: a refusal's; 99, which no call of documents 01 and 02 has, where the ends are malformed
abbrev pub error_number : RunError → ℕ
error_number (Refused r) = number_of r
error_number MalformedEnds = 99

-- what the whole run answers
abbrev pub run_of : Result (Result Planned Refusal) RunError → Run
run_of (Ok answer) = ran (answer_of answer)
run_of (Err e) = refused (error_number e)
