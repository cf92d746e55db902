-- What the words of a list tell of the rows that they hold, whatever they are. Assumes nothing.
use mathlib.Core.Path.{◌≡◌, refl, sym, ap, ◌∙◌}
use mathlib.Core.Bool.{Bool, true, false, cond}
use mathlib.Core.Option.{Option, none, some}
use mathlib.Core.List.{List}
use Prim.Native.Nat.{ℕ, ◌+◌, ◌≤◌, ◌<◌}
use native.Mathlib.Omega.{arith}
use lib.Dec.{eqb, ltb}
use borrow.Author.Tests.{ltb-true, eq-eqb, ne_eqb}
use Rattle.definitions.specs.Limits.{machines, nodes, commands, blank}
use Rattle.definitions.specs.Book.{number, under}
use Rattle.definitions.specs.Sheet.{Rows, cost_word, cost_of, machine_row_word, node_row_word, rows_of}
use Rattle.definitions.proofs.Options.{none_some, some_same, true_false}
use Rattle.definitions.proofs.Lists.{no_value}
use Rattle.definitions.proofs.Words.{under_some}
use Rattle.book.proofs.Said.{Within, told, number_read}
use Rattle.sheet.specs.Fields.{Mark}

-- a cost that is said of number i, if any, is said under the limit, and never by the word for blank
abbrev pub CostWithin : ℕ → ℕ → Option ℕ → Type 0
CostWithin limit i o = (c : ℕ) → o ≡ some c → (i < limit) × (c ≡ blank → ⊥)

-- rows that are read out of words speak of machines and nodes
pub record ReadRows (r : Rows) : Type 0 where
  pub stale : (m : ℕ) → r.stale m ≡ true → m < machines
  pub exit : (m x : ℕ) → CostWithin machines m (r.exit m x)
  pub last : (m x : ℕ) → Within machines m (r.last m x)
  pub cost : (n : ℕ) → CostWithin nodes n (r.cost n)
  pub before : (n : ℕ) → Within nodes n (r.before n)
  pub by : (n : ℕ) → Within nodes n (r.by n)

-- a cost read under a limit
cost_read : (limit i w : ℕ) → CostWithin limit i (under limit i (cost_of w))
unfolding cost_of
cost_read limit i w c e =
    let (l, f) = under_some limit i (cost_of w) e in
    let (same, other) = told w blank w f in
    (l, λ z. other (same ∙ z))

-- a mark read under a limit
mark_read : (limit i : ℕ) (a : Bool) → cond (ltb i limit) a false ≡ true → i < limit
mark_read limit i a = go (ltb i limit) refl
  where
    go : (b : Bool) → ltb i limit ≡ b → cond b a false ≡ true → i < limit
    go true e f = ltb-true i limit e
    go false e f = absurd (true_false f refl)

-- the rows of a list are read out of words
pub rows_of_read : (ws : List ℕ) → ReadRows (rows_of ws)
unfolding rows_of
rows_of_read ws =
    record {
      stale = λ m e. mark_read machines m (eqb (machine_row_word ws m 0) 1) e;
      exit =
          λ m x c e.
          let (hm, f) = under_some machines m (under commands x (cost_of (machine_row_word ws m (1 + x)))) e in
          (hm, (cost_read commands x (machine_row_word ws m (1 + x)) c f).1);
      last =
          λ m x n e.
          let (hm, f) = under_some machines m (under commands x (number (machine_row_word ws m (1 + commands + x)))) e in
          (hm, (number_read commands x (machine_row_word ws m (1 + commands + x)) f).1);
      cost = λ n. cost_read nodes n (node_row_word ws n 0);
      before = λ n k e. number_read nodes n (node_row_word ws n 1) e;
      by = λ n k e. number_read nodes n (node_row_word ws n 2) e;
    }

-- what a mark says
pub is_stale : {ws : List ℕ} {m w : ℕ} → Mark ws m w → w ≡ 1 → (rows_of ws).stale m ≡ true
is_stale {w = w} mark one = mark.says ∙ eq-eqb w 1 one

pub is_filled : {ws : List ℕ} {m w : ℕ} → Mark ws m w → (w ≡ 1 → ⊥) → (rows_of ws).stale m ≡ false
is_filled {w = w} mark other = mark.says ∙ ne_eqb w 1 other

-- ---- a word v that is the word of the cost that o says

-- it says what o says
pub cost_back : {limit i v : ℕ} (o : Option ℕ) → CostWithin limit i o → v ≡ cost_word o → cost_of v ≡ o
unfolding cost_word cost_of
cost_back none w e = rw e
cost_back (some c) w e = rw (e, ne_eqb c blank (w c refl).1)

-- a cost that is said is the word
pub cost_is : {v c : ℕ} (o : Option ℕ) → v ≡ cost_word o → o ≡ some c → v ≡ c
unfolding cost_word
cost_is none e f = absurd (none_some refl f)
cost_is (some k) e f = e ∙ some_same refl f

-- where none is said the word is blank
pub blank_is : {v : ℕ} {o : Option ℕ} → v ≡ cost_word o → o ≡ none → v ≡ blank
unfolding cost_word
blank_is e f = e ∙ ap cost_word f

-- a word that is not blank is said
pub cost_said : {v : ℕ} (o : Option ℕ) → v ≡ cost_word o → (v ≡ blank → ⊥) → o ≡ some v
unfolding cost_word
cost_said none e other = absurd (other e)
cost_said (some c) e other = ap some (sym e)

-- where the word is blank none is said
pub cost_unsaid : {limit i v : ℕ} (o : Option ℕ) → CostWithin limit i o → v ≡ cost_word o → v ≡ blank → o ≡ none
cost_unsaid o w e z = no_value o (λ c f. (w c f).1 (sym (cost_is o e f) ∙ z))

-- no cost is said of a number past the limit
pub cost_outside : {limit i : ℕ} (o : Option ℕ) → CostWithin limit i o → limit ≤ i → o ≡ none
cost_outside o w past = no_value o (λ c f. omega (arith, (w c f).0))

-- nor any other number
pub number_outside : {limit i : ℕ} (o : Option ℕ) → Within limit i o → limit ≤ i → o ≡ none
number_outside o w past = no_value o (λ c f. omega (arith, (w c f).0))
