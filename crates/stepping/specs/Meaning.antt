-- What the answers of this crate's functions mean.
use Rattle.std.specs.Prelude.{◌≡◌, [], ◌∷◌, ℕ, Option, Some, None, Result}
use Rattle.definitions.specs.Step.{Climb, found, passed}
use Rattle.definitions.specs.Answer.{Answer}
use Rattle.refusals.specs.Meaning.{answered}
use Rattle.refusals.specs.declared.Refusal.{Refusal}
use Rattle.stepping.specs.declared.Found.{Found}
use Rattle.stepping.specs.declared.Moved.{Moved}

-- what Step's answer says by document 01's number and values; the third value is document 02's (W-202)
abbrev pub answer_of : Result Moved Refusal → Answer
answer_of = answered (λ m. m.state ∷ m.cost ∷ m.node ∷ [])

-- what a climb up to the root found; where it found none, what leaving cost on the way is not told
abbrev pub ClimbSays : Option Found → Climb → Type 0
ClimbSays (Some f) up = up ≡ found f.node f.target f.cost
ClimbSays None up = (d : ℕ) × (up ≡ passed d)
