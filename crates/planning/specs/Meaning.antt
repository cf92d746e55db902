-- What Plan's answer says by document 01's number and values, and what is answered and written past the other refusals.
use Rattle.std.specs.Prelude.{◌≡◌, List, [], ◌∷◌, ℕ, Result}
use Rattle.definitions.specs.Tree.{Tree}
use Rattle.definitions.specs.Costs.{LeastCost}
use Rattle.definitions.specs.Answer.{Answer, refuses, wants_least, InOrder}
use Rattle.definitions.specs.Calls.{GivesPlan}
use Rattle.refusals.specs.Meaning.{answered}
use Rattle.refusals.specs.declared.Refusal.{Refusal}
use Rattle.planning.specs.declared.Planned.{Planned}

abbrev pub answer_of : Result Planned Refusal → Answer
answer_of = answered (λ p. p.cost ∷ p.count ∷ [])

-- what is answered and written between two states of a holding in which nothing is stale, with room for every plan: 16, or a plan
abbrev pub Answers : Tree → ℕ → ℕ → List ℕ → Answer → List ℕ → Type 0
Answers t a b buffer answer buffer' =
    InOrder (wants_least 16 (LeastCost t a b) ∷ [])
    (λ k. (answer ≡ refuses k) × (buffer' ≡ buffer))
    (GivesPlan t a b buffer answer buffer')
