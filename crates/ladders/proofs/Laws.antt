-- The words of a ladder's rows, and the starts of a book, as the functions find them. Assumes nothing.
use mathlib.Core.Path.{◌≡◌, refl, sym, ◌∙◌, ap}
use mathlib.Core.Bool.{false}
use mathlib.Core.Option.{none, some}
use mathlib.Core.Logic.{inr}
use mathlib.Core.List.{[], List, ◌∷◌}
use Prim.Native.Nat.{ℕ, zero, suc, ◌+◌, ◌*◌, ◌-◌, ◌/◌, ◌%◌, ◌^◌, ◌≤◌, ◌<◌}
use native.Mathlib.Nat.{pow-le-pow_right}
use native.Mathlib.Omega.{arith}
use lib.Dec.{eqb}
use lib.ListN.{length}
use borrow.Author.Tests.{lt-ltb, le-ltb}
use Rattle.definitions.specs.Limits.{absent}
use Rattle.definitions.specs.Tree.{Tree, Sound}
use Rattle.definitions.specs.Book.{word, encode, tree_of, WellFormed}
use Rattle.definitions.specs.Sheet.{encode_rows}
use Rattle.definitions.specs.Edit.{is_start}
use Rattle.definitions.specs.Open.{ladder_below, row_count, table, ComesOf, open_rows}
use Rattle.opening.specs.Rows.{row_tree}
use Rattle.definitions.specs.Answer.{gives}
use Rattle.definitions.specs.Write.{GivesList}
use Rattle.definitions.specs.Ladder.{ladder_rows}
use Rattle.book.specs.Fields.{Holds}
use Rattle.storing.specs.Stored.{Stored}
use Rattle.storing.proofs.Laws.{stored_front}
use Rattle.opening.proofs.Ladder.{rows_length}
use Rattle.opening.proofs.Comes.{rows_claimed, comes_rows}
use Rattle.ladders.specs.Meaning.{StartRight}

-- ---- powers of two

pub doubled_small : (d : ℕ) → d ≤ 6 → 2 ^ d ≤ 64
doubled_small d h = omega (arith, pow-le-pow_right {n = 2} (omega arith) h)

-- ---- the machine below a node of the ladder

-- the start node holds none
pub below_start : (c n : ℕ) → n % 3 ≡ 1 → absent ≡ word (ladder_below c n)
unfolding ladder_below word
below_start c n k = rw k

-- the first and the last hold machine 2m + 1 and 2m + 2, if it is under c
pub below_under : (c n : ℕ) {m : ℕ} → (n % 3 ≡ 1 → ⊥) → m ≡ 2 * (n / 3) + 1 + n % 3 / 2 → m < c → m ≡ word (ladder_below c n)
unfolding ladder_below word
below_under c n {m} other made small = go (n % 3) refl
  where
    go : (k : ℕ) → n % 3 ≡ k → m ≡ word (ladder_below c n)
    go zero k =
        let same : m ≡ 2 * (n / 3) + 1 = omega (arith, made, k) in
        rw (k, lt-ltb (2 * (n / 3) + 1) c (omega arith)) same
    go (suc zero) k = absurd (other k)
    go (suc (suc j)) k =
        let same : m ≡ 2 * (n / 3) + 2 = omega (arith, made) in
        rw (k, lt-ltb (2 * (n / 3) + 2) c (omega arith)) same

pub below_over : (c n : ℕ) {m : ℕ} → (n % 3 ≡ 1 → ⊥) → m ≡ 2 * (n / 3) + 1 + n % 3 / 2 → c ≤ m → absent ≡ word (ladder_below c n)
unfolding ladder_below word
below_over c n {m} other made big = go (n % 3) refl
  where
    go : (k : ℕ) → n % 3 ≡ k → absent ≡ word (ladder_below c n)
    go zero k = rw (k, le-ltb (2 * (n / 3) + 1) c (omega (arith, made, k)))
    go (suc zero) k = absurd (other k)
    go (suc (suc j)) k = rw (k, le-ltb (2 * (n / 3) + 2) c (omega (arith, made)))

-- ---- the start node of a node's machine

-- a node that is not in use starts nothing
pub unused_starts : (t : Tree) (n : ℕ) → t.owner n ≡ none → false ≡ is_start t n
unused_starts t n e = rw e

-- a node in use is the start node if its machine's word is its number
pub used_starts : {t : Tree} → Sound t → (n : ℕ) {m f : ℕ} → t.owner n ≡ some m → f ≡ word (t.start m) → eqb f n ≡ is_start t n
unfolding word
used_starts {t} s n {m} {f} own said =
    let (g, e) = s.owner_used n m own in
    let there : t.start m ≡ some f = e ∙ ap some (sym (said ∙ ap word e)) in
    rw (own, there)

-- ---- a book that holds the tree that is filled from the rows

module _ (rows : List ℕ) {book : List ℕ} (held : Holds book (row_tree rows)) where
  -- where a tree comes of the rows, the book is that tree's
  pub formed : (t : Tree) × ComesOf (table rows) t → WellFormed book
  formed (t, (claimed, sound)) = record { length = held.length; sound = rw (held.tree, comes_rows rows t claimed sound) sound }

  pub starts_by : (t : Tree) × ComesOf (table rows) t → (n : ℕ) → n < row_count rows → StartRight (tree_of book) rows n
  starts_by (t, (claimed, sound)) n h = rw (held.tree, comes_rows rows t claimed sound) (claimed.start n h)

  -- and one comes where the book is well formed and the starts are right
  pub opens_by : WellFormed book → ((n : ℕ) → n < row_count rows → StartRight (tree_of book) rows n) → (t : Tree) × ComesOf (table rows) t
  opens_by well right = (row_tree rows, (rows_claimed rows (λ n h. rw held.tree at (right n h)), rw held.tree at well.sound))

-- what is then written is that tree's opening
pub rows_done : (rows : List ℕ) {book sheet : List ℕ} → (t : Tree) × ComesOf (table rows) t → book ≡ encode (row_tree rows)
    → sheet ≡ encode_rows (open_rows (row_tree rows))
    → (t : Tree) × ComesOf (table rows) t × (◌≡◌ {A = ℕ} 0 0) × (book ≡ encode t) × (sheet ≡ encode_rows (open_rows t))
rows_done rows (t, (claimed, sound)) written filled =
    let same = comes_rows rows t claimed sound in
    (t, (claimed, sound), refl, written ∙ ap encode same, filled ∙ ap (λ (u : Tree). encode_rows (open_rows u)) same)

-- ---- the generator's rows

module _ (depth c : ℕ) (made : c ≡ 2 ^ depth - 1) where
  -- how many numbers they have
  pub rows_count : length (ladder_rows (2 ^ depth - 1)) ≡ 9 * c
  rows_count = omega (arith, rows_length (2 ^ depth - 1))

  -- stored at the front of a list that has room for them
  pub rows_given : {end : ℕ} {out out' : List ℕ} → Stored out 0 (ladder_rows c) end out' → 9 * c ≤ length out
      → GivesList (ladder_rows (2 ^ depth - 1)) out (gives (end ∷ [])) out'
  rows_given {end} {out} {out'} stored room =
      let st : Stored out 0 (ladder_rows (2 ^ depth - 1)) end out' = rw made at stored in
      let (size, list) = stored_front st (omega (arith, rows_count)) in
      inr (omega (arith, rows_count), (ap (λ (k : ℕ). gives (k ∷ [])) size, list))
