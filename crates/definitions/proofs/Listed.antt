-- W-211's claim: a true list of the states that are reached has them all, shows that there is no way, and is the only one. Assumes nothing.
use mathlib.Core.Path.{◌≡◌, refl, sym, ◌∙◌, ap, ap₂, subst}
use mathlib.Core.Logic.{⊎_elim}
use mathlib.Core.Bool.{true, or-true}
use mathlib.Core.Option.{none, some}
use mathlib.Core.List.{[], List, ◌∷◌}
use Prim.Native.Nat.{ℕ, ◌≤◌, ◌<◌}
use native.Mathlib.Omega.{arith}
use lib.Dec.{eqb}
use borrow.Author.Tests.{eq-eqb, eqb-true}
use Rattle.definitions.specs.Basics.{option, any_of, All, Rising}
use Rattle.definitions.specs.Tree.{Tree, Sound}
use Rattle.definitions.specs.Step.{Arrival, step, Moves}
use Rattle.definitions.specs.Costs.{LeastCost}
use Rattle.definitions.specs.Reach.{Reached, lists, TrueReach, ReachShows}
use Rattle.definitions.proofs.Options.{true_false, some_same, either}
use Rattle.definitions.proofs.Runs.{run_nil, run_first}
use Rattle.definitions.proofs.Simple.{step_range}

-- ---- what is listed

-- the first element, and the others
pub lists_first : (n : ℕ) (ns : List ℕ) → lists (n ∷ ns) n ≡ true
unfolding any_of
lists_first n ns = rw (eq-eqb n n refl)

pub lists_rest : (n : ℕ) (ns : List ℕ) (s : ℕ) → lists ns s ≡ true → lists (n ∷ ns) s ≡ true
unfolding any_of
lists_rest n ns s e = rw e (or-true (eqb s n))

-- an element is the first or one of the others
module _ {P : Type 0} (n : ℕ) (ns : List ℕ) (s : ℕ) where
  pub lists_cases : (s ≡ n → P) → (lists ns s ≡ true → P) → lists (n ∷ ns) s ≡ true → P
  unfolding any_of
  lists_cases first rest e = ⊎_elim (λ same. first (eqb-true s n same)) rest (either (eqb s n) (any_of (eqb s) ns) e)

-- no list of nothing has an element
pub lists_none : (s : ℕ) → lists [] s ≡ true → ⊥
unfolding any_of
lists_none s e = true_false e refl

-- what holds of every element holds of one that is listed
pub all_listed : (P : ℕ → Type 0) (list : List ℕ) → All P list → (s : ℕ) → lists list s ≡ true → P s
all_listed P [] holds s e = absurd (lists_none s e)
all_listed P (n ∷ ns) (here, there) s e = lists_cases n ns s (λ same. subst P (sym same) here) (all_listed P ns there s) e

-- ---- two rising lists with the same elements are one

rising_same : (ns ms : List ℕ) → Rising ns → Rising ms → ((s : ℕ) → lists ns s ≡ true → lists ms s ≡ true)
    → ((s : ℕ) → lists ms s ≡ true → lists ns s ≡ true) → ns ≡ ms
rising_same [] [] up up_too there back = refl
rising_same [] (m ∷ ms) up up_too there back = absurd (lists_none m (back m (lists_first m ms)))
rising_same (n ∷ ns) [] up up_too there back = absurd (lists_none n (there n (lists_first n ns)))
rising_same (n ∷ ns) (m ∷ ms) (above, up) (above_too, up_too) there back =
    let same : n ≡ m = omega (arith, first_least m n ns above (back m (lists_first m ms)), first_least n m ms above_too (there n (lists_first n ns))) in
    ap₂ (λ (k : ℕ) (ks : List ℕ). k ∷ ks) same
    (rising_same ns ms up up_too
    (λ s e. lists_cases m ms s (λ first. absurd (omega (arith, all_listed (λ k. n < k) ns above s e, first, same))) (λ rest. rest) (there s (lists_rest n ns s e)))
    (λ s e. lists_cases n ns s (λ first. absurd (omega (arith, all_listed (λ k. m < k) ms above_too s e, first, same))) (λ rest. rest) (back s (lists_rest m ms s e))))
  where
    -- the first element of a rising list is the least
    first_least : (k n : ℕ) (ns : List ℕ) → All (λ i. n < i) ns → lists (n ∷ ns) k ≡ true → n ≤ k
    first_least k n ns above e = lists_cases n ns k (λ same. omega (arith, same)) (λ rest. omega (arith, all_listed (λ i. n < i) ns above k rest)) e

-- ---- true lists

module _ {t : Tree} (sound : Sound t) {a b : ℕ} {list : List ℕ} (is : TrueReach t a b list) where
  -- a command from a listed state leads to one
  listed_step : (s x : ℕ) {r : Arrival} → lists list s ≡ true → step t s x ≡ some r → lists list r.node ≡ true
  listed_step s x {r} at e =
      let range = (step_range sound t.root s x e).0 in
      sym (ap (option true (λ q. lists list q.node)) e) ∙ is.closed s x at range

  -- and so does a list of commands
  listed_run : (s e c : ℕ) (xs : List ℕ) → lists list s ≡ true → Moves t s e xs c → lists list e ≡ true
  listed_run s e c [] at moves = subst (λ (r : Arrival). lists list r.node ≡ true) (some_same (run_nil (step t) s) moves) at
  listed_run s e c (x ∷ xs) at moves =
      let first = run_first (step t) s x xs moves in
      listed_run first.mid.node e first.end.cost xs (listed_step s x at first.step)
      (first.rest ∙ ap (λ (r : Arrival). some (record { node = r.node; cost = first.end.cost })) first.joins)

  -- so every state that is reached is listed
  listed_all : (s : ℕ) → Reached t a s → lists list s ≡ true
  listed_all s (c, xs, moves) = listed_run a s c xs is.holds moves

  listed_no_way : LeastCost t a b none
  listed_no_way = λ c (xs, moves). true_false (listed_all b (c, xs, moves)) is.lacks

pub reach_shows : ReachShows
reach_shows t sound a b list is = (
  listed_all sound is,
  listed_no_way sound is,
  λ other too.
      rising_same other list too.rising is.rising
      (λ s e. listed_all sound is s (all_listed (Reached t a) other too.reached s e))
      (λ s e. listed_all sound too s (all_listed (Reached t a) list is.reached s e)),
)
