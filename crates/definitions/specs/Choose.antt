-- Document 01, "Writing, choosing, the session": the used part of the cheaper of two lists.
use Rattle.std.specs.Prelude.{◌≡◌, cond, List, [], ◌∷◌, ℕ, suc, ◌+◌, eqb, ltb, take}
use Rattle.std.proofs.Math.Option.{Option, none, some}
use Rattle.definitions.specs.Basics.{◌>>=◌}
use Rattle.definitions.specs.Limits.{commands, longest_list}
use Rattle.definitions.specs.Tree.{Tree}
use Rattle.definitions.specs.Step.{step}
use Rattle.definitions.specs.Book.{tree_of}
use Rattle.definitions.specs.Answer.{wants, InOrder}
use Rattle.definitions.specs.Calls.{book_refusals, state_refusals}

-- the part of a list that is used: how many commands up to the first arrival, and their cost
pub record Used : Type 0 where
  pub count : ℕ
  pub cost : ℕ

-- the used part of a list from state s up to its first arrival at b; none where it ends before: at its end, at a byte over 15 or
-- at a stop
unfoldable pub used_part : Tree → ℕ → ℕ → List ℕ → Option Used
used_part t b s [] = cond (eqb s b) (some (record { count = 0; cost = 0 })) none
used_part t b s (x ∷ xs) =
    cond (eqb s b) (some (record { count = 0; cost = 0 }))
    (cond (ltb x commands)
    (step t s x >>= λ a. used_part t b a.node xs >>= λ u. some (record { count = suc u.count; cost = a.cost + u.cost }))
    none)

-- the same of a list's first 65,536 commands
abbrev pub used_of : Tree → ℕ → ℕ → List ℕ → Option Used
used_of t a b xs = used_part t b a (take longest_list xs)

-- a front part of one of the two lists: which, and how many of its commands
pub data Choice : Type 0 where
  first : (count : ℕ) → Choice
  second : (count : ℕ) → Choice

-- the used part of the cheaper of two lists that arrive, on equal cost of the first; none where neither arrives
abbrev pub cheaper : Option Used → Option Used → Option Choice
cheaper none none = none
cheaper (some u) none = some (first u.count)
cheaper none (some v) = some (second v.count)
cheaper (some u) (some v) = some (cond (ltb v.cost u.cost) (second v.count) (first u.count))

abbrev pub cheaper_of : Tree → ℕ → ℕ → List ℕ → List ℕ → Option Choice
cheaper_of t a b one two = cheaper (used_of t a b one) (used_of t a b two)

-- the part that a choice names
abbrev pub part_of : Choice → List ℕ → List ℕ → List ℕ
part_of (first k) one two = take k one
part_of (second k) one two = take k two

-- which part is chosen, and the number. Refused are 1, 2, 6, 7, 14, 18 (neither arrives), with the empty front of the first list
abbrev pub ChoiceSays : List ℕ → ℕ → ℕ → List ℕ → List ℕ → Choice → ℕ → Type 0
ChoiceSays book a b one two choice number =
    InOrder
    (book_refusals book (state_refusals (tree_of book) a b (wants 18 (cheaper_of (tree_of book) a b one two) ∷ [])))
    (λ k. (choice ≡ first 0) × (number ≡ k))
    ((cheaper_of (tree_of book) a b one two ≡ some choice) × (number ≡ 0))

-- where the list stands in memory that a choice is a front part of, the two standing at these places
abbrev pub place_of : {Place : Type 0} → Choice → Place → Place → Place
place_of (first k) p q = p
place_of (second k) p q = q

-- Choose: the part given back is the one chosen, a front of that very list, and the lent word takes the number
abbrev pub ChooseSays : {Place : Type 0} → List ℕ → ℕ → ℕ → List ℕ → List ℕ → List ℕ → ℕ → Place → Place → Place → Type 0
ChooseSays book a b one two part number one_place two_place place =
    (choice : Choice) × ChoiceSays book a b one two choice number
    × (part ≡ part_of choice one two)
    × (place ≡ place_of choice one_place two_place)
