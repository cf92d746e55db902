-- What the words of the tables and of the results say, one at a time. Assumes nothing.
use mathlib.Core.Path.{◌≡◌, refl, sym, ◌∙◌, ap}
use mathlib.Core.Bool.{Bool, true, false, cond}
use mathlib.Core.Option.{Option, none, some}
use mathlib.Core.List.{List}
use Prim.Native.Nat.{ℕ, ◌+◌, ◌*◌, ◌<◌}
use lib.Dec.{eqb, ltb}
use lib.ListN.{get_or}
use borrow.Author.Tests.{eq-eqb, ne_eqb, eqb-true, eqb-false, ltb-true}
use Rattle.definitions.specs.Basics.{◌>>=◌}
use Rattle.definitions.specs.Limits.{commands, absent}
use Rattle.definitions.specs.Step.{Arrival}
use Rattle.definitions.specs.Book.{number, under}
use Rattle.definitions.proofs.Options.{bind_some, none_some, some_same}
use Rattle.definitions.proofs.Words.{under_in, under_some}
use Rattle.search.specs.Search.{unreached, reached, entry_move, row_move, move_of, distance_of, name_of}
use Rattle.search.specs.Parts.{at}

-- ---- a number under its limit

-- nothing is read under a limit where nothing is there
under_none : {A : Type 0} (limit i : ℕ) (o : Option A) → (i < limit → o ≡ none) → under limit i o ≡ none
unfolding under
under_none {A} limit i o none_there = go (ltb i limit) refl
  where
    go : (t : Bool) → ltb i limit ≡ t → under limit i o ≡ none
    go true h = rw h (none_there (ltb-true i limit h))
    go false h = rw h

-- ---- a word that says a number, all but one

-- a word other than the blank one says itself
says : (blank w : ℕ) → (w ≡ blank → ⊥) → cond (eqb w blank) none (some w) ≡ some w
says blank w h = rw (ne_eqb w blank h)

-- and what a word says is the word itself
said : (blank w : ℕ) {n : ℕ} → cond (eqb w blank) none (some w) ≡ some n → (w ≡ n) × (w ≡ blank → ⊥)
said blank w {n} e = go (eqb w blank) refl
  where
    go : (t : Bool) → eqb w blank ≡ t → (w ≡ n) × (w ≡ blank → ⊥)
    go true h = absurd (none_some {o = none} {a = n} refl (rw h at e))
    go false h = (some_same refl (rw h at e), eqb-false w blank h)

-- only the blank word says nothing
silent : (blank w : ℕ) → cond (eqb w blank) none (some w) ≡ none → w ≡ blank
silent blank w e = go (eqb w blank) refl
  where
    go : (t : Bool) → eqb w blank ≡ t → w ≡ blank
    go true h = eqb-true w blank h
    go false h = absurd (none_some {o = some w} (rw h at e) refl)

-- the same of distances
pub reached_is : (w : ℕ) → (w ≡ unreached → ⊥) → reached w ≡ some w
unfolding reached
reached_is w other = says unreached w other

pub reached_some : (w : ℕ) {c : ℕ} → reached w ≡ some c → (w ≡ c) × (w ≡ unreached → ⊥)
unfolding reached
reached_some w e = said unreached w e

pub reached_none : (w : ℕ) → reached w ≡ none → w ≡ unreached
unfolding reached
reached_none w e = silent unreached w e

-- and of numbers: a word other than the one for absent says itself, and that one says none
pub number_is : (w : ℕ) → (w ≡ absent → ⊥) → number w ≡ some w
unfolding number
number_is w other = says absent w other

pub number_none : (w : ℕ) → w ≡ absent → number w ≡ none
unfolding number
number_none w same = rw (eq-eqb w absent same)

-- ---- distances and names

module _ (k : ℕ) (words : List ℕ) (v : ℕ) where
  -- a word other than the blank one is a node's distance
  pub distance_is : v < k → (at words v ≡ unreached → ⊥) → distance_of k words v ≡ some (at words v)
  unfolding distance_of reached
  distance_is range h = under_in k v (reached (at words v)) range ∙ says unreached (at words v) h

  -- a node with a distance is one of the k, and its word says it
  pub distance_some : {c : ℕ} → distance_of k words v ≡ some c → (v < k) × (at words v ≡ c) × (at words v ≡ unreached → ⊥)
  unfolding distance_of reached
  distance_some e =
      let (range, there) = under_some k v (reached (at words v)) e in
      let (same, h) = said unreached (at words v) there in
      (range, same, h)

  -- a node without a distance has the blank word, and a node with the blank word has no distance
  pub distance_none : v < k → distance_of k words v ≡ none → at words v ≡ unreached
  unfolding distance_of reached
  distance_none range e = silent unreached (at words v) (sym (under_in k v (reached (at words v)) range) ∙ e)

  pub distance_off : at words v ≡ unreached → distance_of k words v ≡ none
  unfolding distance_of reached
  distance_off blank = under_none k v (reached (at words v)) (λ range. rw (eq-eqb (at words v) unreached blank))

  -- so with names
  pub name_is : v < k → (at words v ≡ absent → ⊥) → name_of k words v ≡ some (at words v)
  unfolding name_of number
  name_is range h = under_in k v (number (at words v)) range ∙ says absent (at words v) h

  pub name_none : (v < k → at words v ≡ absent) → name_of k words v ≡ none
  unfolding name_of number
  name_none blank = under_none k v (number (at words v)) (λ range. rw (eq-eqb (at words v) absent (blank range)))

-- ---- moves

module _ (target price : List ℕ) (u x : ℕ) where
  -- a row has a move where the target's word is a node
  pub row_is : x < commands → (get_or target (commands * u + x) 0 ≡ absent → ⊥)
      → row_move target price u x ≡ some (record { node = get_or target (commands * u + x) 0; cost = get_or price (commands * u + x) 0 })
  unfolding row_move entry_move number
  row_is range h =
      under_in commands x _ range
      ∙ ap (λ (o : Option ℕ). o >>= λ v. some (record { node = v; cost = get_or price (commands * u + x) 0 })) (says absent (get_or target (commands * u + x) 0) h)

  -- it has none where that word is blank
  pub row_none : get_or target (commands * u + x) 0 ≡ absent → row_move target price u x ≡ none
  unfolding row_move entry_move number
  row_none e = under_none commands x _ (λ range. rw (eq-eqb (get_or target (commands * u + x) 0) absent e))

  -- the moves of the first k rows
  pub move_row : (k : ℕ) → u < k → move_of k target price u x ≡ row_move target price u x
  unfolding move_of
  move_row k range = under_in k u (row_move target price u x) range

  -- a move is one of the first k rows
  pub move_some : (k : ℕ) {b : Arrival} → move_of k target price u x ≡ some b → (u < k) × (row_move target price u x ≡ some b)
  unfolding move_of
  move_some k e = under_some k u (row_move target price u x) e

  -- what the move of a row is, word by word
  pub row_words : {b : Arrival} → row_move target price u x ≡ some b
      → (x < commands)
      × (get_or target (commands * u + x) 0 ≡ absent → ⊥)
      × (get_or target (commands * u + x) 0 ≡ b.node)
      × (get_or price (commands * u + x) 0 ≡ b.cost)
  unfolding row_move entry_move number
  row_words {b} e =
      let (range, there) = under_some commands x _ e in
      let (v, has, same) =
      bind_some (number (get_or target (commands * u + x) 0)) (λ v. some (record { node = v; cost = get_or price (commands * u + x) 0 })) there in
      let (is, word) = said absent (get_or target (commands * u + x) 0) has in
      let at : record { node = v; cost = get_or price (commands * u + x) 0 } ≡ b = some_same refl same in
      (range, word, is ∙ ap (λ (a : Arrival). a.node) at, ap (λ (a : Arrival). a.cost) at)
