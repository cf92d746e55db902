-- Walkers (document 02, W-206): each call's answer is one, the limit is kept, walkers that open stay so, a walker within the limit goes exactly as
-- Step says, and the other records stay. Assumes nothing.
use mathlib.Core.Path.{◌≡◌, refl, sym, ap, ◌∙◌}
use mathlib.Core.Logic.{inl, inr}
use mathlib.Core.Bool.{Bool, true, false, cond, not, ◌&&◌}
use mathlib.Core.Option.{none}
use mathlib.Core.List.{[], List, ◌∷◌, ◌++◌}
use Prim.Native.Nat.{ℕ, zero, suc, ◌+◌, ◌≤◌, ◌<◌}
use native.Mathlib.Omega.{arith}
use lib.Dec.{leb}
use lib.ListN.{length, get_or, set, length-set}
use lib.Seq.{get_or-set_other, set-get_or}
use borrow.Author.Tests.{leb-false, lt-leb}
use Rattle.definitions.specs.Basics.{All}
use Rattle.definitions.specs.Limits.{nodes, most_walkers}
use Rattle.definitions.specs.Tree.{Tree, UsedNode, within}
use Rattle.definitions.specs.Book.{tree_of}
use Rattle.definitions.specs.Answer.{Answer, refuses, Refusal, asks, InOrder}
use Rattle.definitions.specs.Calls.{book_refusals, step_refusals, GivesStep, StepSays}
use Rattle.definitions.specs.Walk.{inside, comes_inside, handed_refusals, walk_refusals, OpenWalkersSay, WalkSays}
use Rattle.definitions.specs.Walk.{AtMostInside, LimitKept, ExactlyStep, OthersKept}
use Rattle.definitions.proofs.Answers.{Passed, Exclusive, in_order_any, in_order_either, in_order_past, in_order_after, in_order_both, in_order_all, in_order_done}
use Rattle.definitions.proofs.Simple.{step_state}
use Rattle.definitions.proofs.Answers.{exclusive_both, both_ways, one_outcome, book_exclusive, step_exclusive, given_one}

-- ---- how many are inside

-- a record that changes: the old state goes out of the count, the new one comes into it
pub inside_set : (t : Tree) (n : ℕ) (states : List ℕ) (w v : ℕ) → w < length states
    → inside t n (set states w v) + cond (within t n (get_or states w 0)) 1 0 ≡ inside t n states + cond (within t n v) 1 0
unfolding inside
inside_set t n [] w v h = absurd (omega arith)
inside_set t n (s ∷ states) zero v h = omega arith
inside_set t n (s ∷ states) (suc w) v h = omega (arith, inside_set t n states w v (omega arith))

-- of i inside, at most k, a walker goes from inside or not (here) to inside or not (there): the limit is kept exactly where it does not come
-- inside with k inside already
module _ (i k : ℕ) (small : i ≤ k) (after : ℕ) where
  free_fits : (here there : Bool) → after + cond here 1 0 ≡ i + cond there 1 0 → ((not here && there) && leb k i) ≡ false → after ≤ k
  free_fits true true count free = omega (arith, small, count)
  free_fits true false count free = omega (arith, small, count)
  free_fits false true count free = omega (arith, leb-false k i free, count)
  free_fits false false count free = omega (arith, small, count)

  fits_free : (here there : Bool) → after + cond here 1 0 ≡ i + cond there 1 0 → after ≤ k → ((not here && there) && leb k i) ≡ false
  fits_free true true count fits = refl
  fits_free true false count fits = refl
  fits_free false true count fits = lt-leb k i (omega (arith, fits, count))
  fits_free false false count fits = refl

-- all of a list have a property, and so has another value at one of its places
all_set : (P : ℕ → Type 0) (list : List ℕ) (w v : ℕ) → All P list → P v → All P (set list w v)
all_set P [] w v all here = tt
all_set P (s ∷ list) zero v all here = (here, all.1)
all_set P (s ∷ list) (suc w) v all here = (all.0, all_set P list w v all.1 here)

-- ---- the answer of each call is one

-- what is asked is not had and had
asked : {P : Type 0} → (P → ⊥) → P → ⊥
asked bad good = bad good

module _ (book : List ℕ) (n k : ℕ) (states : List ℕ) where
  handed_exclusive : Exclusive (handed_refusals book n k states)
  handed_exclusive = (asked, (asked, (asked, (asked, (asked, (asked, (asked, tt)))))))

  pub open_walkers_one : {number other : ℕ} → OpenWalkersSay book n k states number → OpenWalkersSay book n k states other → number ≡ other
  open_walkers_one {number} {other} one two =
      both_ways (one_outcome (handed_refusals book n k states) handed_exclusive {R = λ r. number ≡ r} {S = λ r. other ≡ r} one two)
      (λ i a b. a ∙ sym b) (λ a b. a ∙ sym b)

  -- an opening that answers 0 has all that is asked
  pub opened_passed : OpenWalkersSay book n k states 0 → Passed (handed_refusals book n k states)
  opened_passed says = (in_order_done (handed_refusals book n k states) refl (λ r other same. other (sym same)) says).0

  module _ (w x : ℕ) where
    abbrev s : ℕ
    s = get_or states w 0

    -- the refusals of a walker command, those of the walker itself, and 22
    abbrev refusals : List Refusal
    refusals = handed_refusals book n k states ++ walk_refusals (tree_of book) n k states w x

    abbrev crowding : List Refusal
    crowding = asks 22 ((comes_inside (tree_of book) n s x && leb k (inside (tree_of book) n states)) ≡ false) ∷ []

    -- what it says where it is refused, and where it is done
    abbrev Refused : Answer → List ℕ → ℕ → Type 0
    Refused answer states' r = (answer ≡ refuses r) × (states' ≡ states)

    abbrev Done : Answer → List ℕ → Type 0
    Done answer states' = GivesStep (tree_of book) s x answer × (states' ≡ set states w (get_or answer.values 0 0))

    pub walk_one : {answer other : Answer} {states' states'' : List ℕ} → WalkSays book n k states w x answer states'
        → WalkSays book n k states w x other states'' → (answer ≡ other) × (states' ≡ states'')
    walk_one {answer} {other} {states'} {states''} one two =
        both_ways
        (one_outcome refusals
        (exclusive_both (handed_refusals book n k states) (walk_refusals (tree_of book) n k states w x) handed_exclusive
        (asked, exclusive_both (step_refusals (tree_of book) s x) crowding (step_exclusive (tree_of book) s x) (asked, tt)))
        {R = Refused answer states'} {S = Refused other states''} {D = Done answer states'} {E = Done other states''} one two)
        (λ i a b. (a.0 ∙ sym b.0, a.1 ∙ sym b.1))
        (λ a b. let same = given_one (tree_of book) s x a.0 b.0 in
        (same, a.1 ∙ ap (λ (r : Answer). set states w (get_or r.values 0 0)) same ∙ sym b.1))

    -- ---- a walker command that is answered

    module _ {answer : Answer} {states' : List ℕ} (says : WalkSays book n k states w x answer states') where
      -- at most k are inside after it
      still : inside (tree_of book) n states ≤ k → inside (tree_of book) n states' ≤ k
      unfolding comes_inside
      still small = in_order_either refusals {R = Refused answer states'} {D = Done answer states'} (λ r said. rw said.1 small) moved says
        where
          moved : Passed refusals → Done answer states' → inside (tree_of book) n states' ≤ k
          moved passed ((a, moves, m, acts, same), changed) =
              let own = passed.1.1.1.1.1.1.1 in
              let goes : states' ≡ set states w a.node = changed ∙ ap (λ (r : Answer). set states w (get_or r.values 0 0)) same in
              rw goes
              (free_fits (inside (tree_of book) n states) k small (inside (tree_of book) n (set states w a.node)) (within (tree_of book) n s)
              (within (tree_of book) n a.node) (inside_set (tree_of book) n states w a.node own.0) (rw moves at own).1.1.1.1.1.0)

      -- walkers that open stay so: no later command is refused for what it is handed
      pub stays_open : OpenWalkersSay book n k states 0 → OpenWalkersSay book n k states' 0
      stays_open opened =
          in_order_all (λ r. 0 ≡ r) (0 ≡ 0) (handed_refusals book n k states')
          (in_order_any refusals {R = Refused answer states'} {D = Done answer states'} (λ r said. rw said.1 all) moved says) refl
        where
          all : Passed (handed_refusals book n k states)
          all = opened_passed opened

          placed : (v : ℕ) → UsedNode (tree_of book) v → (tree_of book).below v ≡ none → inside (tree_of book) n (set states w v) ≤ k
              → Passed (handed_refusals book n k (set states w v))
          placed v used plain few =
              let formed = all.1.0 in
              let small = all.1.1.0 in
              let range = all.1.1.1.0 in
              let uses = all.1.1.1.1.0 in
              let many : length (set states w v) ≤ most_walkers = rw (length-set states w v) small.1 in (
                all.0,
                (
                  formed,
                  (
                    (small.0, many),
                    (
                      (range.0, all_set (λ d. d < nodes) states w v range.1 (formed.sound.node_range v used.0 used.1)),
                      (
                        (uses.0, all_set (UsedNode (tree_of book)) states w v uses.1 used),
                        (all_set (λ d. (tree_of book).below d ≡ none) states w v all.1.1.1.1.1.0 plain, (few, tt)),
                      ),
                    ),
                  ),
                ),
              )

          moved : Done answer states' → Passed (handed_refusals book n k states')
          moved ((a, moves, m, acts, same), changed) =
              let goes : states' ≡ set states w a.node = changed ∙ ap (λ (r : Answer). set states w (get_or r.values 0 0)) same in
              let (p, own, plain) = step_state all.1.0.sound (tree_of book).root s x moves in
              rw goes (placed a.node (p, own) plain (rw goes at still all.1.1.1.1.1.1.0))

      -- the other records stay
      others : (length states' ≡ length states) × ((i : ℕ) → (i ≡ w → ⊥) → get_or states' i 0 ≡ get_or states i 0)
      others =
          in_order_any refusals {R = Refused answer states'} {D = Done answer states'}
          (λ r said. (ap length said.1, λ i apart. ap (λ (l : List ℕ). get_or l i 0) said.1))
          (λ done. (
            ap length done.1 ∙ length-set states w _,
            λ i apart. ap (λ (l : List ℕ). get_or l i 0) done.1 ∙ get_or-set_other states w i _ 0 apart,
          ))
          says

    -- ---- exactly Step

    module _ (opened : OpenWalkersSay book n k states 0) (room : w < length states) (stepped : Answer) (steps : StepSays book s x stepped) where
      abbrev after : List ℕ
      after = set states w (get_or stepped.values 0 s)

      passed : Passed (handed_refusals book n k states)
      passed = opened_passed opened

      small : inside (tree_of book) n states ≤ k
      small = passed.1.1.1.1.1.1.0

      -- Step's answer by its own refusals alone
      own : InOrder (step_refusals (tree_of book) s x) (λ r. stepped ≡ refuses r) (GivesStep (tree_of book) s x stepped)
      own =
          in_order_past (λ r. stepped ≡ refuses r) (GivesStep (tree_of book) s x stepped) (book_refusals book []) (step_refusals (tree_of book) s x)
          (book_exclusive book [] tt) (passed.0, (passed.1.0, tt)) steps

      -- where Step refuses, the records are as they were
      kept : (r : ℕ) → stepped ≡ refuses r → after ≡ states
      kept r e = ap (λ (a : Answer). set states w (get_or a.values 0 s)) e ∙ set-get_or states w 0

      -- where it gives a state, the limit is kept after it exactly where 22 does not refuse
      fits : GivesStep (tree_of book) s x stepped → (comes_inside (tree_of book) n s x && leb k (inside (tree_of book) n states)) ≡ false
          → inside (tree_of book) n after ≤ k
      unfolding comes_inside
      fits (a, moves, m, acts, same) free =
          rw same
          (free_fits (inside (tree_of book) n states) k small (inside (tree_of book) n (set states w a.node)) (within (tree_of book) n s)
          (within (tree_of book) n a.node) (inside_set (tree_of book) n states w a.node room) (rw moves at free))

      free : GivesStep (tree_of book) s x stepped → inside (tree_of book) n after ≤ k
          → (comes_inside (tree_of book) n s x && leb k (inside (tree_of book) n states)) ≡ false
      unfolding comes_inside
      free (a, moves, m, acts, same) within_limit =
          rw moves
          (fits_free (inside (tree_of book) n states) k small (inside (tree_of book) n (set states w a.node)) (within (tree_of book) n s)
          (within (tree_of book) n a.node) (inside_set (tree_of book) n states w a.node room) (rw same at within_limit))

      -- what the walker command then says: what follows from Step's refusals and from what it gives
      then : (answer : Answer) (states' : List ℕ) → ((r : ℕ) → stepped ≡ refuses r → Refused answer states' r)
          → (GivesStep (tree_of book) s x stepped → InOrder crowding (Refused answer states') (Done answer states'))
          → WalkSays book n k states w x answer states'
      then answer states' f g =
          in_order_after (Refused answer states') (Done answer states') (handed_refusals book n k states) (walk_refusals (tree_of book) n k states w x) passed
          (inr (
            room,
            in_order_both (Refused answer states') (Done answer states') (λ r. stepped ≡ refuses r) (GivesStep (tree_of book) s x stepped)
                (step_refusals (tree_of book) s x) crowding f g own,
          ))

      taken : inside (tree_of book) n after ≤ k → WalkSays book n k states w x stepped after
      taken within_limit =
          then stepped after (λ r e. (e, kept r e))
          (λ given. inr (
            free given within_limit,
            (
              given,
              ap (λ (a : Answer). set states w (get_or a.values 0 s)) given.4
                  ∙ ap (λ (a : Answer). set states w (get_or a.values 0 0)) (sym given.4),
            ),
          ))

      crowded : k < inside (tree_of book) n after → WalkSays book n k states w x (refuses 22) states
      crowded past_limit =
          then (refuses 22) states
          (λ r e. absurd (omega (arith, small, past_limit, ap (inside (tree_of book) n) (kept r e))))
          (λ given. inl (λ free. omega (arith, past_limit, fits given free), (refl, refl)))

-- ---- the claims

-- the limit
keeps : (book : List ℕ) (n k : ℕ) (commands : List (ℕ × ℕ)) (states : List ℕ) → inside (tree_of book) n states ≤ k → AtMostInside book n k commands states
keeps book n k [] states small = small
keeps book n k ((w, x) ∷ rest) states small = (small, λ answer states' says. keeps book n k rest states' (still book n k states w x says small))

pub limit_kept : LimitKept
limit_kept book n k states opened commands = keeps book n k commands states (opened_passed book n k states opened).1.1.1.1.1.1.0

-- exactly Step
pub exactly_step : ExactlyStep
exactly_step book n k states w x stepped answer states' opened room steps says = (
  λ fits. walk_one book n k states w x says (taken book n k states w x opened room stepped steps fits),
  λ over. walk_one book n k states w x says (crowded book n k states w x opened room stepped steps over),
)

-- the others
pub others_kept : OthersKept
others_kept book n k states w x answer states' says = others book n k states w x says
