-- Worked tables (document 02, W-208): tables of which no tree comes, and what a tree must be that comes of one with gaps. Assumes nothing.
use mathlib.Core.Path.{◌≡◌, refl, sym, ◌∙◌, ap}
use mathlib.Core.Logic.{◌⊎◌, inl, inr, ⊎_elim}
use mathlib.Core.Bool.{Bool, true, false, cond, not, ◌&&◌, ◌||◌}
use mathlib.Core.Option.{some}
use mathlib.Core.List.{[], List, ◌∷◌}
use Prim.Native.Nat.{ℕ, zero, suc, ◌<◌}
use native.Mathlib.Omega.{arith}
use lib.Dec.{eqb, ltb}
use borrow.Author.Tests.{lt-ltb, eqb-true}
use Rattle.definitions.specs.Basics.{option, is_at}
use Rattle.definitions.specs.Tree.{Tree}
use Rattle.definitions.specs.Book.{number, under}
use Rattle.definitions.specs.Edit.{is_start}
use Rattle.definitions.specs.Open.{row_count, cell, NextLower, Claimed, table, ComesOf}
use Rattle.definitions.proofs.Options.{none_some, some_same, true_false, is_at_some}
use Rattle.definitions.proofs.Words.{under_some}
use Rattle.definitions.proofs.Path.{Deep, at_root, root_holder, deep}
use Rattle.definitions.proofs.Tables.{marked, own_starts}
use Rattle.definitions.proofs.Tests.{all_below, all_below_lem}
use Rattle.definitions.proofs.Worked.{to}

-- a row that is not in use
abbrev unused_row : List ℕ → List ℕ
unused_row rest = 65535 ∷ 65535 ∷ 0 ∷ rest

-- no tree comes of the rows
abbrev NoneComes : List ℕ → Type 0
NoneComes rows = (t : Tree) → ComesOf (table rows) t → ⊥

-- a start that a row names is the machine's
named : {rows : List ℕ} {t : Tree} → Claimed rows t → (n m : ℕ) → n < row_count rows → cell rows n 2 ≡ 1 → t.owner n ≡ some m → t.start m ≡ some n
named {rows} {t} has n m small one own = own_starts t own (marked (is_start t n) (sym (has.start n small) ∙ one))

-- a second start in a machine, and a start that is neither 1 nor 0
pub two_starts : NoneComes (0 ∷ 65535 ∷ 1 ∷ 0 ∷ 65535 ∷ 1 ∷ [])
unfolding cell under number
two_starts t (has, sound) =
    let same : ◌≡◌ {A = ℕ} 0 1 = some_same (named has 0 0 (omega arith) refl (has.owner 0)) (named has 1 0 (omega arith) refl (has.owner 1)) in
    omega arith

pub start_of_two : NoneComes (0 ∷ 65535 ∷ 1 ∷ 0 ∷ 65535 ∷ 2 ∷ [])
unfolding cell under number
start_of_two t (has, sound) = go (is_start t 1) (has.start 1 (omega arith))
  where
    go : (b : Bool) → ◌≡◌ {A = ℕ} 2 (cond b 1 0) → ⊥
    go true e = omega arith
    go false e = omega arith

-- a start in a row that is not in use
pub start_of_none : NoneComes (0 ∷ 65535 ∷ 1 ∷ 65535 ∷ 65535 ∷ 1 ∷ [])
unfolding cell under number
start_of_none t (has, sound) =
    let none_there : is_start t 1 ≡ false = rw (has.owner 1) in
    true_false (marked (is_start t 1) (sym (has.start 1 (omega arith)))) none_there

-- two holders of one machine
pub two_holders : NoneComes (0 ∷ 1 ∷ 1 ∷ 0 ∷ 1 ∷ 0 ∷ 1 ∷ 65535 ∷ 1 ∷ [])
unfolding cell under number
two_holders t (has, sound) =
    let same : ◌≡◌ {A = ℕ} 0 1 = some_same (sound.below_held 0 1 (has.below 0)) (sound.below_held 1 1 (has.below 1)) in
    omega arith

-- two machines that no node holds
abbrev apart : List ℕ
apart = 0 ∷ 65535 ∷ 1 ∷ 1 ∷ 65535 ∷ 1 ∷ []

pub two_roots : NoneComes apart
unfolding cell under number
two_roots t (has, sound) =
    let first = named has 0 0 (omega arith) refl (has.owner 0) in
    let second = named has 1 1 (omega arith) refl (has.owner 1) in
    let same : ◌≡◌ {A = ℕ} 0 1 = top (deep sound first).2 ∙ sym (top (deep sound second).2) in
    omega arith
  where
    plain : (h m : ℕ) → h < 2 → t.below h ≡ some m → ⊥
    plain zero m small e = none_some (has.below 0) e
    plain (suc zero) m small e = none_some (has.below 1) e
    plain (suc (suc h)) m small e = omega arith

    top : {m k : ℕ} → Deep t m k → m ≡ t.root
    top (at_root e) = e
    top {m} (Deep.under {h = h} held own way) =
        let down = sound.held_below m h held in
        absurd (plain h m (under_some 2 h (number (cell apart h 1)) (sym (has.below h) ∙ down)).0 down)

-- two machines that hold each other, beside a root
pub cycle : NoneComes (0 ∷ 65535 ∷ 1 ∷ 1 ∷ 2 ∷ 1 ∷ 2 ∷ 1 ∷ 1 ∷ [])
unfolding cell under number
cycle t (has, sound) = round (inl refl) (deep sound (named has 1 1 (omega arith) refl (has.owner 1))).2
  where
    up : {m : ℕ} → (m ≡ 1) ⊎ (m ≡ 2) → (h p : ℕ) × (t.holder m ≡ some h) × (t.owner h ≡ some p) × ((p ≡ 1) ⊎ (p ≡ 2))
    up (inl e) = (2, 2, rw e (sound.below_held 2 1 (has.below 2)), has.owner 2, inr refl)
    up (inr e) = (1, 1, rw e (sound.below_held 1 2 (has.below 1)), has.owner 1, inl refl)

    round : {m k : ℕ} → (m ≡ 1) ⊎ (m ≡ 2) → Deep t m k → ⊥
    round which (at_root e) = let (h, p, held, own, next) = up which in root_holder sound e held
    round which (Deep.under held own way) =
        let (h, p, too, above, next) = up which in
        let same = some_same own (ap t.owner (some_same held too) ∙ above) in
        round (rw same next) way

-- A table with gaps: machine 5 has nodes 0, 3 and 6, of which 3 holds machine 9, that has nodes 2 and 4; rows 1 and 5 are not in use.
abbrev gapped : List ℕ
gapped =
    5 ∷ 65535 ∷ 0
    ∷ unused_row (9 ∷ 65535 ∷ 1
    ∷ 5 ∷ 9 ∷ 1
    ∷ 9 ∷ 65535 ∷ 0
    ∷ unused_row (5 ∷ 65535 ∷ 0 ∷ []))

-- what it says of its tree
pub record GappedTree (t : Tree) : Type 0 where
  -- the root is the machine that no row holds; the other machine's holder, and both starts, are those of the rows
  pub root : t.root ≡ 5
  pub holder : t.holder 9 ≡ some 3
  pub start_5 : t.start 5 ≡ some 3
  pub start_9 : t.start 9 ≡ some 2
  -- command 0 goes to the next lower node of the machine and command 1 to the next higher, past rows that are not in use and the other machine's
  pub down_3 : t.transition 3 0 ≡ to 0 1
  pub up_3 : t.transition 3 1 ≡ to 6 1
  pub up_0 : t.transition 0 1 ≡ to 3 1
  pub up_2 : t.transition 2 1 ≡ to 4 1
  pub down_4 : t.transition 4 0 ≡ to 2 1

module _ {t : Tree} (has : Claimed gapped t) where
  -- node v is the next lower one of n's machine m: no row between them is of m
  next : (n v m : ℕ) → v < n → t.owner n ≡ some m → t.owner v ≡ some m
      → all_below n (λ j. not (ltb v j && is_at (under 7 j (number (cell gapped j 0))) m)) ≡ true → NextLower t n v
  next n v m lower own too test =
      record {
        lower = lower;
        in_use = (m, own);
        same = too ∙ sym own;
        between = λ j above below same.
            let row : is_at (under 7 j (number (cell gapped j 0))) m ≡ true = is_at_some m m (sym (has.owner j) ∙ same ∙ own) refl in
            let both : (ltb v j && is_at (under 7 j (number (cell gapped j 0))) m) ≡ true = rw (lt-ltb v j above) row in
            true_false (all_below_lem n _ test j below) (ap not both);
      }

pub gapped_tree : (t : Tree) → ComesOf (table gapped) t → GappedTree t
unfolding cell under number all_below
gapped_tree t (has, sound) =
    record {
      root = top sound.root_used;
      holder = sound.below_held 3 9 (has.below 3);
      start_5 = named has 3 5 (omega arith) refl (has.owner 3);
      start_9 = named has 2 9 (omega arith) refl (has.owner 2);
      down_3 = has.reaches 3 0 0 low;
      up_3 = has.reaches 3 1 6 high;
      up_0 = has.reaches 0 1 3 low;
      up_2 = has.reaches 2 1 4 inner;
      down_4 = has.reaches 4 0 2 inner;
    }
  where
    low : NextLower t 3 0
    low = next has 3 0 5 (omega arith) (has.owner 3) (has.owner 0) refl

    high : NextLower t 6 3
    high = next has 6 3 5 (omega arith) (has.owner 6) (has.owner 3) refl

    inner : NextLower t 4 2
    inner = next has 4 2 9 (omega arith) (has.owner 4) (has.owner 2) refl

    -- a row's owner is 5 or 9
    owners : (s m : ℕ) → t.owner s ≡ some m → (m ≡ 5) ⊎ (m ≡ 9)
    owners s m own =
        let (small, row) = under_some 7 s (number (cell gapped s 0)) (sym (has.owner s) ∙ own) in
        either (eqb m 5) refl (rw row at (all_below_lem 7 (λ i. option true (λ k. eqb k 5 || eqb k 9) (number (cell gapped i 0))) refl s small))
      where
        either : (b : Bool) → eqb m 5 ≡ b → (b || eqb m 9) ≡ true → (m ≡ 5) ⊎ (m ≡ 9)
        either true e f = inl (eqb-true m 5 e)
        either false e f = inr (eqb-true m 9 f)

    -- machine 9 is held, so it is not the root
    top : (s : ℕ) × (t.start t.root ≡ some s) → t.root ≡ 5
    top (s, e) =
        ⊎_elim (λ five. five) (λ nine. absurd (root_holder sound (sym nine) (sound.below_held 3 9 (has.below 3))))
        (owners s t.root (sound.start_owned t.root s e))
