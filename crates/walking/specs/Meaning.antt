-- What the parts of a walker call are asked and answer.
use Rattle.std.specs.Prelude.{◌≡◌, Bool, false, ◌&&◌, [], ◌∷◌, ℕ, ◌<◌, get_or, Result, Ok, Err}
use Rattle.std.proofs.Math.Option.{none}
use Rattle.definitions.specs.Limits.{nodes}
use Rattle.definitions.specs.Tree.{Tree, UsedNode}
use Rattle.definitions.specs.Step.{step}
use Rattle.definitions.specs.Answer.{Answer, refuses, asks, wants, InOrder}
use Rattle.definitions.specs.Calls.{GivesStep}
use Rattle.definitions.specs.Walk.{comes_inside}
use Rattle.refusals.specs.declared.Refusal.{Refusal}
use Rattle.stepping.specs.declared.Moved.{Moved}
use Rattle.walking.specs.declared.Asked.{Asked}
use Rattle.walking.specs.declared.Asked.TheVariants.{InRange, Used, Plain}

-- what is asked of a number: that it is a node's, that the node is in use, that it is plain
abbrev pub Meets : Asked → Tree → ℕ → Type 0
Meets InRange t s = s < nodes
Meets Used t s = UsedNode t s
Meets Plain t s = t.below s ≡ none

-- and what it is refused with where it has it not
abbrev pub asked_number : Asked → ℕ
asked_number InRange = 6
asked_number Used = 7
asked_number Plain = 14

-- a walker may stand at s: a state
abbrev pub Standing : Tree → ℕ → Type 0
Standing t s = UsedNode t s × (t.below s ≡ none)

-- the state of a walker at s after what its command gives: its old one where it is refused
abbrev pub state_after : ℕ → Result Moved Refusal → ℕ
state_after s (Ok m) = m.state
state_after s (Err r) = s

-- one walker's command x at state s, where as many as may be are inside node n (full) or fewer: 17, 22, or what Step gives; s' is the walker's
-- state after it, its old one where it is refused
abbrev pub OneWalkerSays : Tree → ℕ → Bool → (s x s' : ℕ) → Answer → Type 0
OneWalkerSays t n full s x s' answer =
    InOrder (wants 17 (step t s x) ∷ asks 22 ((comes_inside t n s x && full) ≡ false) ∷ [])
    (λ r. (answer ≡ refuses r) × (s' ≡ s))
    (GivesStep t s x answer × (s' ≡ get_or answer.values 0 0))
