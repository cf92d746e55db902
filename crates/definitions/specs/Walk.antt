-- Document 02, W-206: walkers, each at a state of one book, of which at most k may be inside one node. A walker's record is its state.
use Rattle.std.specs.Prelude.{◌≡◌, Bool, false, cond, not, ◌&&◌, List, [], ◌∷◌, ◌++◌, ℕ, ◌+◌, ◌≤◌, ◌<◌, leb, length, get_or, set}
use Rattle.std.proofs.Math.Option.{none}
use Rattle.definitions.specs.Basics.{option, All}
use Rattle.definitions.specs.Limits.{nodes, most_walkers}
use Rattle.definitions.specs.Tree.{Tree, UsedNode, within}
use Rattle.definitions.specs.Step.{step}
use Rattle.definitions.specs.Book.{tree_of}
use Rattle.definitions.specs.Answer.{Answer, refuses, Refusal, asks, InOrder}
use Rattle.definitions.specs.Calls.{book_refusals, step_refusals, GivesStep, StepSays}

-- how many walkers are inside node n, at it or below it, by their states
unfoldable pub inside : Tree → ℕ → List ℕ → ℕ
inside t n [] = 0
inside t n (s ∷ states) = cond (within t n s) 1 0 + inside t n states

-- The refusals of what every call is handed, node n, limit k and the walkers' states: 1, 2, 23 (k or the number of walkers over 8), 6, 7 (of the
-- node and of every state), 14 (of the states; the node may be refined), 23 (more than k inside). An empty list of walkers is accepted
abbrev pub handed_refusals : List ℕ → (n k : ℕ) → List ℕ → List Refusal
handed_refusals book n k states =
    book_refusals book
    (asks 23 ((k ≤ most_walkers) × (length states ≤ most_walkers))
    ∷ asks 6 (All (λ s. s < nodes) (n ∷ states))
    ∷ asks 7 (All (UsedNode (tree_of book)) (n ∷ states))
    ∷ asks 14 (All (λ s. (tree_of book).below s ≡ none) states)
    ∷ asks 23 (inside (tree_of book) n states ≤ k)
    ∷ [])

-- the opening of walkers: a number, and nothing is written
abbrev pub OpenWalkersSay : List ℕ → (n k : ℕ) → List ℕ → ℕ → Type 0
OpenWalkersSay book n k states number = InOrder (handed_refusals book n k states) (λ r. number ≡ r) (number ≡ 0)

-- whether command x takes a walker at state s from outside node n to inside: by the state that it enters, and not by the target of the transition
unfoldable pub comes_inside : Tree → (n s x : ℕ) → Bool
comes_inside t n s x = option false (λ a. not (within t n s) && within t n a.node) (step t s x)

-- then those of command x for walker w: 6 (a number with no walker), Step's own, 22 (it would come inside, with k inside already)
abbrev pub walk_refusals : Tree → (n k : ℕ) → List ℕ → (w x : ℕ) → List Refusal
walk_refusals t n k states w x =
    asks 6 (w < length states)
    ∷ step_refusals t (get_or states w 0) x
    ++ asks 22 ((comes_inside t n (get_or states w 0) x && leb k (inside t n states)) ≡ false) ∷ []

-- a walker command: what Step gives, and the walker's record with the state that is given; refused, no record changes
abbrev pub WalkSays : List ℕ → (n k : ℕ) → List ℕ → (w x : ℕ) → Answer → List ℕ → Type 0
WalkSays book n k states w x answer states' =
    InOrder (handed_refusals book n k states ++ walk_refusals (tree_of book) n k states w x)
    (λ r. (answer ≡ refuses r) × (states' ≡ states))
    (GivesStep (tree_of book) (get_or states w 0) x answer × (states' ≡ set states w (get_or answer.values 0 0)))

-- ---- the claims

-- at most k are inside, and after each command of the list, whatever its call answers, as well
abbrev pub AtMostInside : List ℕ → (n k : ℕ) → List (ℕ × ℕ) → List ℕ → Type 0
AtMostInside book n k [] states = inside (tree_of book) n states ≤ k
AtMostInside book n k ((w, x) ∷ rest) states =
    (inside (tree_of book) n states ≤ k)
    × ((answer : Answer) (states' : List ℕ) → WalkSays book n k states w x answer states' → AtMostInside book n k rest states')

-- the limit: from an opening that keeps it, for every list of walker commands
abbrev pub LimitKept : Type 0
LimitKept =
    (book : List ℕ) (n k : ℕ) (states : List ℕ) → OpenWalkersSay book n k states 0 → (commands : List (ℕ × ℕ)) → AtMostInside book n k commands states

-- Exactly Step, for a walker that is there, of walkers that open: with `stepped` Step's own answer at its state, and `after` the records with the
-- state that Step gives, or as they were where it refuses. Within the limit the answer is Step's and these are the records; past it the
-- answer is 22 and no record changes.
abbrev pub ExactlyStep : Type 0
ExactlyStep =
    (book : List ℕ) (n k : ℕ) (states : List ℕ) (w x : ℕ) (stepped answer : Answer) (states' : List ℕ) → OpenWalkersSay book n k states 0
    → w < length states → StepSays book (get_or states w 0) x stepped → WalkSays book n k states w x answer states'
    → let after = set states w (get_or stepped.values 0 (get_or states w 0)) in
    (inside (tree_of book) n after ≤ k → (answer ≡ stepped) × (states' ≡ after))
    × (k < inside (tree_of book) n after → (answer ≡ refuses 22) × (states' ≡ states))

-- the others: every other record is the one before, and none comes or goes
abbrev pub OthersKept : Type 0
OthersKept =
    (book : List ℕ) (n k : ℕ) (states : List ℕ) (w x : ℕ) (answer : Answer) (states' : List ℕ) → WalkSays book n k states w x answer states'
    → (length states' ≡ length states) × ((i : ℕ) → (i ≡ w → ⊥) → get_or states' i 0 ≡ get_or states i 0)
