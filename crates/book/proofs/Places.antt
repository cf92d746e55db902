-- Words that lie in records, one after the other: what each of them says after one is written. The laws are about sections of any width,
-- so that they serve the sections of a book and of a sheet alike. Assumes nothing.
use mathlib.Core.Path.{◌≡◌, refl, ap, sym, ◌∙◌, fun_ext}
use mathlib.Core.Logic.{⊎_elim}
use mathlib.Core.Bool.{Bool, true, false, cond}
use mathlib.Core.Option.{Option, none}
use mathlib.Core.List.{List}
use Prim.Native.Nat.{ℕ, ◌+◌, ◌*◌, ◌/◌, ◌%◌, ◌≤◌, ◌<◌}
use native.Mathlib.Omega.{arith}
use lib.Arith.{digits_div, digits_mod}
use lib.Dec.{eqb, ltb}
use lib.ListN.{length, get_or, set}
use lib.Seq.{get_or-set_same, get_or-set_other}
use borrow.Author.Tests.{ltb-true, ltb-false, lt-ltb, le-ltb, eq-eqb, ne_eqb}
use Rattle.definitions.specs.Basics.{put, unless}
use Rattle.definitions.specs.Book.{under}
use Rattle.definitions.proofs.Options.{equal_or_not}

-- what is read under a limit is the same where the words are
pub kept : {A : Type 0} (limit i : ℕ) (f : ℕ → A) (d : A) {v w : ℕ} → (i < limit → v ≡ w)
    → cond (ltb i limit) (f v) d ≡ cond (ltb i limit) (f w) d
kept limit i f d {v} {w} same = go (ltb i limit) refl
  where
    go : (b : Bool) → ltb i limit ≡ b → cond b (f v) d ≡ cond b (f w) d
    go true e = ap f (same (ltb-true i limit e))
    go false e = refl

-- and under two limits
pub kept_grid : {A : Type 0} (rows columns i j : ℕ) (f : ℕ → Option A) {v w : ℕ} → (i < rows → j < columns → v ≡ w)
    → under rows i (under columns j (f v)) ≡ under rows i (under columns j (f w))
unfolding under
kept_grid rows columns i j f {v} {w} same = go (ltb i rows) refl
  where
    go : (b : Bool) → ltb i rows ≡ b → cond b (under columns j (f v)) none ≡ cond b (under columns j (f w)) none
    go true e = kept columns j f none (same (ltb-true i rows e))
    go false e = refl

-- where the words are the same but for v at n, what is read of them is the same but for what v says at n
pub changed : {A : Type 0} (limit n v : ℕ) (f : ℕ → A) (d : A) (w after : ℕ → ℕ) → n < limit → after n ≡ v
    → ((i : ℕ) → i < limit → (i ≡ n → ⊥) → after i ≡ w i)
    → (i : ℕ) → cond (ltb i limit) (f (after i)) d ≡ put (λ j. cond (ltb j limit) (f (w j)) d) n (f v) i
changed limit n v f d w after hn here other i =
    ⊎_elim
    (λ e. rw (lt-ltb i limit (omega arith), eq-eqb i n e) (ap (λ a. f (after a)) e ∙ ap f here))
    (λ ne. rw (ne_eqb i n ne) (kept limit i f d (λ hi. other i hi ne)))
    (equal_or_not i n)

-- the same for records of records
pub changed_grid : {A : Type 0} (rows columns n x v : ℕ) (f : ℕ → Option A) (w after : ℕ → ℕ → ℕ) → n < rows → x < columns → after n x ≡ v
    → ((i j : ℕ) → j < columns → (i ≡ n → j ≡ x → ⊥) → after i j ≡ w i j)
    → (i j : ℕ) → under rows i (under columns j (f (after i j)))
    ≡ put (λ a b. under rows a (under columns b (f (w a b)))) n (put (λ b. under rows n (under columns b (f (w n b)))) x (f v)) i j
unfolding under
changed_grid rows columns n x v f w after hn hx here other i j =
    ⊎_elim
    (λ e.
    rw (lt-ltb i rows (omega arith), eq-eqb i n e, lt-ltb n rows hn)
    (ap (λ a. cond (ltb j columns) (f (after a j)) none) e
    ∙ changed columns x v f none (w n) (after n) hx here (λ b hb ne. other n b hb (λ p q. ne q)) j))
    (λ ne.
    rw (ne_eqb i n ne)
    (kept_grid rows columns i j f (λ hi hj. other i j hj (λ p q. ne p))))
    (equal_or_not i n)

-- ---- one word of a section is written

-- two places of a table that are equal belong to the same record and are the same place of it
pub place_same : (width n k i j : ℕ) → k < width → j < width → i * width + j ≡ n * width + k → (i ≡ n) × (j ≡ k)
place_same width n k i j hk hj e = (
  sym (digits_div i hj) ∙ ap (λ p. p / width) e ∙ digits_div n hk,
  sym (digits_mod i hj) ∙ ap (λ p. p % width) e ∙ digits_mod n hk,
)

-- records of `width` words have each word j of each record i at a place of its own, `place i j`
abbrev pub Apart : (ℕ → ℕ → ℕ) → ℕ → Type 0
Apart place width = (n k i j : ℕ) → k < width → j < width → place i j ≡ place n k → (i ≡ n) × (j ≡ k)

-- word k of record n is written
module _ (place : ℕ → ℕ → ℕ) (width : ℕ) (apart : Apart place width) (ws : List ℕ) (n k v : ℕ) (hk : k < width)
    (inside : place n k < length ws) where
  -- the word written
  pub stored : get_or (set ws (place n k) v) (place n k) 0 ≡ v
  stored = get_or-set_same ws (place n k) v 0 inside

  -- any other word of the records
  pub unstored : (i j : ℕ) → j < width → (i ≡ n → j ≡ k → ⊥) → get_or (set ws (place n k) v) (place i j) 0 ≡ get_or ws (place i j) 0
  unstored i j hj other =
      get_or-set_other ws (place n k) (place i j) v 0
      (λ e.
      let both = apart n k i j hk hj e in
      other both.0 both.1)

  -- what is read at place k of each record: what v says at record n, and else as before
  pub field_put : {A : Type 0} (limit : ℕ) (f : ℕ → A) (d : A) → n < limit
      → (i : ℕ) → cond (ltb i limit) (f (get_or (set ws (place n k) v) (place i k) 0)) d
      ≡ put (λ a. cond (ltb a limit) (f (get_or ws (place a k) 0)) d) n (f v) i
  field_put limit f d hn =
      changed limit n v f d (λ a. get_or ws (place a k) 0) (λ a. get_or (set ws (place n k) v) (place a k) 0) hn stored
      (λ i hi ne. unstored i k hk (λ p q. ne p))

  -- and at another place of each record: as before
  pub field_kept : {A : Type 0} (limit j : ℕ) (f : ℕ → A) (d : A) → j < width → (j ≡ k → ⊥)
      → (i : ℕ) → cond (ltb i limit) (f (get_or (set ws (place n k) v) (place i j) 0)) d ≡ cond (ltb i limit) (f (get_or ws (place i j) 0)) d
  field_kept limit j f d hj ne i = kept limit i f d (λ hi. unstored i j hj (λ p q. ne q))

  -- what is read at the places from `off` on of each record, where k is place x of these: what v says at record n and x, and else as before
  pub grid_put : {A : Type 0} (rows columns off x : ℕ) (f : ℕ → Option A) → n < rows → x < columns → off + columns ≤ width → k ≡ off + x
      → (i j : ℕ) → under rows i (under columns j (f (get_or (set ws (place n k) v) (place i (off + j)) 0)))
      ≡ put (λ a b. under rows a (under columns b (f (get_or ws (place a (off + b)) 0)))) n
      (put (λ b. under rows n (under columns b (f (get_or ws (place n (off + b)) 0)))) x (f v)) i j
  grid_put rows columns off x f hn hx within e =
      changed_grid rows columns n x v f (λ a b. get_or ws (place a (off + b)) 0) (λ a b. get_or (set ws (place n k) v) (place a (off + b)) 0) hn
      hx (ap (λ p. get_or (set ws (place n k) v) (place n p) 0) (sym e) ∙ stored)
      (λ i j hj other. unstored i (off + j) (omega arith) (λ p q. other p (omega arith)))

  -- and where k is none of these: as before
  pub grid_kept : {A : Type 0} (rows columns off : ℕ) (f : ℕ → Option A) → off + columns ≤ width → ((x : ℕ) → x < columns → off + x ≡ k → ⊥)
      → (i j : ℕ) → under rows i (under columns j (f (get_or (set ws (place n k) v) (place i (off + j)) 0)))
      ≡ under rows i (under columns j (f (get_or ws (place i (off + j)) 0)))
  grid_kept rows columns off f within other i j =
      kept_grid rows columns i j f (λ hi hj. unstored i (off + j) (omega arith) (λ p q. other j hj q))

-- ---- a row of a grid is cleared, place by place

-- the grid, but nothing at record n below place i
abbrev pub cleared_to : {A : Type 0} → (ℕ → ℕ → Option A) → ℕ → ℕ → ℕ → ℕ → Option A
cleared_to grid n i = put grid n (λ x. unless (ltb x i) (grid n x))

-- one place more
pub cleared_more : {A : Type 0} (grid : ℕ → ℕ → Option A) (n i : ℕ)
    → put (cleared_to grid n i) n (put (cleared_to grid n i n) i none) ≡ cleared_to grid n (i + 1)
cleared_more grid n i =
    fun_ext λ a.
    fun_ext λ b.
    ⊎_elim (λ e. rw (eq-eqb a n e, eq-eqb n n refl) (go b)) (λ ne. rw (ne_eqb a n ne)) (equal_or_not a n)
  where
    same : (b : ℕ) → (b ≡ i → ⊥) → (t : Bool) → ltb b i ≡ t → t ≡ ltb b (i + 1)
    same b ne true e = sym (lt-ltb b (i + 1) (omega (arith, ltb-true b i e)))
    same b ne false e = sym (le-ltb b (i + 1) (omega (arith, ltb-false b i e)))

    go : (b : ℕ) → cond (eqb b i) none (unless (ltb b i) (grid n b)) ≡ unless (ltb b (i + 1)) (grid n b)
    go b =
        ⊎_elim (λ e. rw (eq-eqb b i e, lt-ltb b (i + 1) (omega arith)))
        (λ ne. rw (ne_eqb b i ne) (ap (λ t. unless t (grid n b)) (same b ne (ltb b i) refl)))
        (equal_or_not b i)

-- the whole record, where there is nothing from place i on
pub cleared_all : {A : Type 0} (grid : ℕ → ℕ → Option A) (n i : ℕ) → ((x : ℕ) → i ≤ x → grid n x ≡ none)
    → cleared_to grid n i ≡ put grid n (λ x. none)
cleared_all grid n i past = ap (put grid n) (fun_ext λ x. go x (ltb x i) refl)
  where
    go : (x : ℕ) (b : Bool) → ltb x i ≡ b → unless b (grid n x) ≡ none
    go x true e = refl
    go x false e = past x (ltb-false x i e)

-- a grid that is read under limits has nothing past them
pub grid_past : {A : Type 0} (rows columns i j : ℕ) (o : Option A) → columns ≤ j → under rows i (under columns j o) ≡ none
unfolding under
grid_past {A} rows columns i j o past = rw (le-ltb j columns past) (go (ltb i rows))
  where
    go : (b : Bool) → cond {A = Option A} b none none ≡ none
    go true = refl
    go false = refl
