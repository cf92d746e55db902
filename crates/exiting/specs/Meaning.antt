-- What Exit's answer says by document 01's number and value.
use Rattle.std.specs.Prelude.{[], ◌∷◌, ℕ, Result}
use Rattle.definitions.specs.Answer.{Answer}
use Rattle.refusals.specs.Meaning.{answered}
use Rattle.refusals.specs.declared.Refusal.{Refusal}

abbrev pub answer_of : Result ℕ Refusal → Answer
answer_of = answered (λ c. c ∷ [])
