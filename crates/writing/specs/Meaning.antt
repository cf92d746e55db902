-- What the functions of this crate leave: the level of every node in use. The parts of `written`, by their names. What an answer means.
use Rattle.std.specs.Prelude.{◌≡◌, List, [], ◌∷◌, ◌++◌, ℕ, suc, ◌<◌, length, get_or, Result}
use Rattle.definitions.specs.Basics.{joined}
use Rattle.definitions.specs.Limits.{nodes, commands}
use Rattle.definitions.specs.Tree.{Tree, UsedNode, level}
use Rattle.definitions.specs.Answer.{Answer}
use Rattle.definitions.specs.Write.{written_add, written_refine, written_arrow}
use Rattle.refusals.specs.Meaning.{answered}
use Rattle.refusals.specs.declared.Refusal.{Refusal}

-- a list with room for every node that holds the levels of the first k, as far as they are in use
pub record Levels (t : Tree) (k : ℕ) (list : List ℕ) : Type 0 where
  pub length : length list ≡ nodes
  pub at : (n : ℕ) → n < k → UsedNode t n → get_or list n 0 ≡ level t n

-- what `written` has for one level (the root's is l = 0), and for one node's transitions
abbrev pub written_level : Tree → ℕ → List ℕ
written_level t l = joined nodes (written_add t (suc l)) ++ joined nodes (written_refine t (suc l))

abbrev pub written_arrows : Tree → ℕ → List ℕ
written_arrows t n = joined commands (written_arrow t n)

-- Write's answer by document 01's number and values
abbrev pub answer_of : Result ℕ Refusal → Answer
answer_of = answered (λ n. n ∷ [])
