-- What is asked of the start in a row; what the generator's answer means.
use Rattle.std.specs.Prelude.{◌≡◌, cond, List, [], ◌∷◌, ℕ, Result}
use Rattle.definitions.specs.Tree.{Tree}
use Rattle.definitions.specs.Edit.{is_start}
use Rattle.definitions.specs.Open.{cell}
use Rattle.definitions.specs.Answer.{Answer}
use Rattle.refusals.specs.Meaning.{answered}
use Rattle.refusals.specs.declared.Refusal.{Refusal}

-- row n has 1 for a start exactly where the tree has one there, else 0
abbrev pub StartRight : Tree → List ℕ → ℕ → Type 0
StartRight t rows n = cell rows n 2 ≡ cond (is_start t n) 1 0

-- the generator's answer by document 02's number and values
abbrev pub answer_of : Result ℕ Refusal → Answer
answer_of = answered (λ n. n ∷ [])
