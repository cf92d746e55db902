-- What the words of rows and of a book say to a test on words. Assumes nothing.
use mathlib.Core.Path.{◌≡◌, refl, sym, ◌∙◌, ap, ap₂}
use mathlib.Core.Logic.{⊎_elim}
use mathlib.Core.Bool.{Bool, true, false, cond, not, ◌&&◌, not-not}
use mathlib.Core.Option.{none, some}
use mathlib.Core.List.{List}
use Prim.Native.Nat.{ℕ, suc, ◌+◌, ◌*◌, ◌-◌, ◌<◌}
use native.Mathlib.Omega.{arith}
use lib.Dec.{eqb, ltb}
use borrow.Author.Tests.{eq-eqb, ne_eqb}
use Rattle.definitions.specs.Basics.{is_some, is_at}
use Rattle.definitions.specs.Limits.{machines, nodes, costs, absent}
use Rattle.definitions.specs.Book.{word, number, under, transition_word, transition_of, machine_word, tree_of}
use Rattle.definitions.specs.Open.{cell}
use Rattle.opening.specs.Rows.{last_under, row_owner, next_lower, neighbour, free}
use Rattle.definitions.proofs.Options.{equal_or_not, some_same}
use Rattle.definitions.proofs.Words.{transition_word_lem}
use Rattle.opening.proofs.Last.{last_is, last_skip}

-- the word of a transition to a neighbour
pub neighbour_word : (v : ℕ) → v < nodes → transition_of (v * costs + 1) ≡ neighbour (some v)
unfolding transition_word neighbour
neighbour_word v h = transition_word_lem (neighbour (some v)) (λ a e. rw (← some_same refl e) (h, omega arith))

-- a number that a word says is there exactly where the word is not "none"
told : (k i w : ℕ) → is_some (under k i (number w)) ≡ not (eqb (word (under k i (number w))) absent)
unfolding under number word
told k i w = go (ltb i k)
  where
    go : (b : Bool) → is_some (cond b (number w) none) ≡ not (eqb (word (cond b (number w) none)) absent)
    go true = ⊎_elim (λ e. rw (eq-eqb w absent e)) (λ other. rw (ne_eqb w absent other) (rw (ne_eqb w absent other))) (equal_or_not w absent)
    go false = refl

-- whether a machine of a book is in use, and whether it is held, by their words
pub used_told : (ws : List ℕ) (m : ℕ) → is_some ((tree_of ws).start m) ≡ not (eqb (word ((tree_of ws).start m)) absent)
unfolding tree_of
used_told ws m = told machines m (machine_word ws m 1)

held_told : (ws : List ℕ) (m : ℕ) → is_some ((tree_of ws).holder m) ≡ not (eqb (word ((tree_of ws).holder m)) absent)
unfolding tree_of
held_told ws m = told machines m (machine_word ws m 0)

-- and so whether it is in use with no node that holds it
pub free_told : (ws : List ℕ) (m : ℕ)
    → free (tree_of ws) m ≡ (not (eqb (word ((tree_of ws).start m)) absent) && eqb (word ((tree_of ws).holder m)) absent)
unfolding free
free_told ws m =
    ap₂ ◌&&◌ (used_told ws m) (ap not (held_told ws m) ∙ not-not (eqb (word ((tree_of ws).holder m)) absent))

-- what a word says is p exactly where the word is p, unless that is the word for "none"
pub says : (w p : ℕ) → (p ≡ absent → ⊥) → is_at (number w) p ≡ eqb w p
unfolding number
says w p h =
    ⊎_elim (λ e. ap (λ (v : ℕ). is_at (number v) p) e ∙ sym (ap (λ (v : ℕ). eqb v p) e ∙ ne_eqb absent p (λ f. h (sym f))))
    (λ other. rw (ne_eqb w absent other)) (equal_or_not w absent)

module _ (rows : List ℕ) where
  -- a row with no owner has no lower node
  pub lower_none : (n : ℕ) → cell rows n 0 ≡ absent → next_lower rows n ≡ none
  unfolding next_lower row_owner number
  lower_none n e = rw e

  -- and any other row's lower node is the last node before it with its owner
  pub lower_last : (n w : ℕ) → w ≡ cell rows n 0 → (w ≡ absent → ⊥) → next_lower rows n ≡ last_under n (λ j. is_at (row_owner rows j) w)
  unfolding next_lower row_owner number
  lower_last n w e h = rw (← e, ne_eqb w absent h)

  -- one node less: it is the last where it has the owner, and else nothing changes
  pub lower_met : (i w : ℕ) → (w ≡ absent → ⊥) → 0 < i → cell rows (i - 1) 0 ≡ w → last_under i (λ j. is_at (row_owner rows j) w) ≡ some (i - 1)
  unfolding row_owner
  lower_met i w h l e =
      last_is i (i - 1) (λ j. is_at (row_owner rows j) w) (omega arith) (says (cell rows (i - 1) 0) w h ∙ eq-eqb (cell rows (i - 1) 0) w e)
      (λ j above under. absurd (omega arith))

  pub lower_passed : (i w : ℕ) → (w ≡ absent → ⊥) → 0 < i → (cell rows (i - 1) 0 ≡ w → ⊥)
      → last_under i (λ j. is_at (row_owner rows j) w) ≡ last_under (i - 1) (λ j. is_at (row_owner rows j) w)
  unfolding row_owner
  lower_passed i w h l e =
      let p : ℕ → Bool = λ j. is_at (row_owner rows j) w in
      let up : i ≡ suc (i - 1) = omega arith in
      ap (λ (k : ℕ). last_under k p) up
      ∙ last_skip (i - 1) p (says (cell rows (i - 1) 0) w h ∙ ne_eqb (cell rows (i - 1) 0) w e)
