-- What a reading means, and what an answer means.
use Rattle.std.specs.Prelude.{ℕ, [], ◌∷◌, Result}
use Rattle.definitions.specs.Answer.{Answer}
use Rattle.definitions.specs.Import as meant
use Rattle.refusals.specs.Meaning.{answered}
use Rattle.refusals.specs.declared.Refusal.{Refusal}
use Rattle.importing.specs.declared.Reading.{Reading}
use Rattle.importing.specs.declared.Reading.TheVariants.{Taken, Waited}

-- a reading by document 02's words: seconds taken, or seconds waited without an end
abbrev pub reading_of : Reading → meant.Reading
reading_of (Taken seconds) = meant.took seconds
reading_of (Waited seconds) = meant.waited seconds

-- the import's answer by document 02's number and values
abbrev pub answer_of : Result ℕ Refusal → Answer
answer_of = answered (λ n. n ∷ [])
