-- What `own_exit` asks, and what its answer means.
use Rattle.std.specs.Prelude.{◌≡◌, List, ℕ, ◌+◌, ◌<◌, length, Option}
use Rattle.std.proofs.Math.Option as maybe
use Rattle.definitions.specs.Limits.{costs, sheet_length, blank}
use Rattle.definitions.specs.Book.{WellFormed}
use Rattle.refusals.specs.Meaning.{value_of}

-- a book that is well formed, and a list with as many words as a sheet has
pub record Readable (book sheet : List ℕ) : Type 0 where
  pub well_formed : WellFormed book
  pub long : length sheet ≡ sheet_length

-- an own exit cost is under this: any word, and a leaving cost
abbrev pub exit_limit : ℕ
exit_limit = blank + costs

-- the answer is o, and no cost in it is too large
pub record Exits (o : maybe.Option ℕ) (a : Option ℕ) : Type 0 where
  pub is : value_of a ≡ o
  pub small : (e : ℕ) → value_of a ≡ maybe.some e → e < exit_limit
