-- What the answers of this crate's functions mean.
use Rattle.std.specs.Prelude.{Option, Some, None, Result, Ok, Err}
use Rattle.std.proofs.Math.Option as maybe
use Rattle.definitions.specs.Choose as asked
use Rattle.refusals.specs.declared.Refusal.{Refusal}
use Rattle.choosing.specs.declared.Used.{Used}
use Rattle.choosing.specs.declared.Chosen.{Chosen}
use Rattle.choosing.specs.declared.Chosen.TheVariants.{First, Second}

-- the used part that an answer says
abbrev pub used_in : Option Used → maybe.Option asked.Used
used_in (Some u) = maybe.some (record { count = u.count; cost = u.cost })
used_in None = maybe.none

-- the part that an answer of `choice` says; refused, the empty front of the first list
abbrev pub choice_of : Result Chosen Refusal → asked.Choice
choice_of (Ok (First k)) = asked.first k
choice_of (Ok (Second k)) = asked.second k
choice_of (Err r) = asked.first 0

-- the answer for a choice; where there is none, 18
abbrev pub chosen_by : maybe.Option asked.Choice → Result Chosen Refusal
chosen_by maybe.none = Err Refusal.NoArrival
chosen_by (maybe.some (asked.first k)) = Ok (First k)
chosen_by (maybe.some (asked.second k)) = Ok (Second k)
