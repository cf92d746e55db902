-- What one walker's command says on each of its ways out, and the whole walker command where it is not refused before. Assumes nothing.
use mathlib.Core.Path.{◌≡◌, refl, ap, ◌∙◌}
use mathlib.Core.Logic.{inl, inr}
use mathlib.Core.Bool.{Bool, true, false, not, ◌&&◌}
use mathlib.Core.Option.{none, some}
use mathlib.Core.List.{[], List, ◌∷◌}
use Prim.Native.Nat.{ℕ, zero, suc, ◌<◌}
use native.Mathlib.Omega.{arith}
use lib.Dec.{leb}
use lib.ListN.{length, get_or, set}
use lib.Seq.{set-get_or}
use Rattle.definitions.specs.Basics.{All}
use Rattle.definitions.specs.Limits.{nodes, commands}
use Rattle.definitions.specs.Tree.{UsedNode, within}
use Rattle.definitions.specs.Step.{step}
use Rattle.definitions.specs.Book.{tree_of, WellFormed}
use Rattle.definitions.specs.Answer.{Answer, gives, refuses, Refusal, asks, wants, InOrder}
use Rattle.definitions.specs.Calls.{GivesStep, StepSays}
use Rattle.definitions.specs.Walk.{inside, comes_inside, handed_refusals, walk_refusals, WalkSays}
use Rattle.definitions.proofs.Answers.{Passed, StepDone, step_done, done_moved, step_given, in_order_after}
use Rattle.definitions.proofs.Options.{true_false}
use Rattle.definitions.proofs.Simple.{step_state}
use Rattle.walking.specs.Meaning.{Standing, OneWalkerSays}

module _ (book : List ℕ) (w : WellFormed book) (s x : ℕ) (at : Standing (tree_of book) s) (range : x < commands) where
  -- what Step tells
  told : {answer : Answer} → StepSays book s x answer → StepDone (tree_of book) s x answer
  told = step_done book w at.0 range at.1

  pub leads_in_range : {v c m : ℕ} → StepSays book s x (gives (v ∷ c ∷ m ∷ [])) → v < nodes
  leads_in_range {v} says =
      let (p, own, plain) = step_state w.sound (tree_of book).root s x (done_moved (tree_of book) s x (told says)) in
      w.sound.node_range v p own

  module _ (n : ℕ) (full : Bool) {v c m : ℕ} (says : StepSays book s x (gives (v ∷ c ∷ m ∷ []))) where
    moved : step (tree_of book) s x ≡ some (record { node = v; cost = c })
    moved = done_moved (tree_of book) s x (told says)

    comes : (comes_inside (tree_of book) n s x && full) ≡ ((not (within (tree_of book) n s) && within (tree_of book) n v) && full)
    unfolding comes_inside
    comes = rw moved refl

    -- it would come inside, and no more may be there
    pub crowded : ((not (within (tree_of book) n s) && within (tree_of book) n v) && full) ≡ true → OneWalkerSays (tree_of book) n full s x s (refuses 22)
    crowded over = inr ((record { node = v; cost = c }, moved), inl (λ free. true_false (comes ∙ over) free, (refl, refl)))

    -- it steps
    pub steps : ((not (within (tree_of book) n s) && within (tree_of book) n v) && full) ≡ false
        → OneWalkerSays (tree_of book) n full s x v (gives (v ∷ c ∷ m ∷ []))
    steps free = inr ((record { node = v; cost = c }, moved), inr (comes ∙ free, (step_given book s x says, refl)))

-- ---- the walker command

-- each has what all have
all_at : (P : ℕ → Type 0) (list : List ℕ) → All P list → (i : ℕ) → i < length list → P (get_or list i 0)
all_at P [] all i h = absurd (omega arith)
all_at P (s ∷ list) all zero h = all.0
all_at P (s ∷ list) all (suc i) h = all_at P list all.1 i (omega arith)

-- past what the opening refuses, of a walker and a command that are there
module _ (book : List ℕ) (n k : ℕ) (states : List ℕ) (w x : ℕ) (opened : Passed (handed_refusals book n k states)) (room : w < length states) (small : x < commands)
    (v : ℕ) (answer : Answer) where
  abbrev s : ℕ
  s = get_or states w 0

  -- what a refusal says, and what is said where nothing refuses
  abbrev Refused : ℕ → Type 0
  Refused r = (answer ≡ refuses r) × (set states w v ≡ states)

  abbrev Done : Type 0
  Done = GivesStep (tree_of book) s x answer × (set states w v ≡ set states w (get_or answer.values 0 0))

  abbrev crowding : List Refusal
  crowding = asks 22 ((comes_inside (tree_of book) n s x && leb k (inside (tree_of book) n states)) ≡ false) ∷ []

  -- a state that stays is no change
  stays : v ≡ s → set states w v ≡ states
  stays e = ap (set states w) e ∙ set-get_or states w 0

  -- the walker's own command
  own : OneWalkerSays (tree_of book) n (leb k (inside (tree_of book) n states)) s x v answer
      → InOrder (wants 17 (step (tree_of book) s x) ∷ crowding) Refused Done
  own (inl (stop, (e, here))) = inl (stop, (e, stays here))
  own (inr (there, inl (over, (e, here)))) = inr (there, inl (over, (e, stays here)))
  own (inr (there, inr (free, (given, e)))) = inr (there, inr (free, (given, ap (set states w) e)))

  pub goes : OneWalkerSays (tree_of book) n (leb k (inside (tree_of book) n states)) s x v answer → WalkSays book n k states w x answer (set states w v)
  goes says =
      in_order_after Refused Done (handed_refusals book n k states) (walk_refusals (tree_of book) n k states w x) opened
      (inr (
        room,
        inr (
          (all_at (λ d. d < nodes) states opened.1.1.1.0.1 w room, small),
          inr (
            all_at (UsedNode (tree_of book)) states opened.1.1.1.1.0.1 w room,
            inr (all_at (λ d. (tree_of book).below d ≡ none) states opened.1.1.1.1.1.0 w room, own says),
          ),
        ),
      ))
