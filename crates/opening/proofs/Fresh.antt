-- The one row of Open fresh says its tree. Assumes nothing.
use mathlib.Core.Path.{◌≡◌, refl, sym, ◌∙◌, ap}
use mathlib.Core.Bool.{false}
use mathlib.Core.Option.{none}
use mathlib.Core.List.{[], List, ◌∷◌}
use Prim.Native.Nat.{ℕ, zero, suc, ◌<◌}
use native.Mathlib.Omega.{arith}
use borrow.Author.Tests.{ne_eqb}
use Rattle.definitions.specs.Limits.{machines, absent}
use Rattle.definitions.specs.Book.{word, number, under}
use Rattle.definitions.specs.Edit.{single}
use Rattle.definitions.specs.Open.{fresh_tree, cell}
use Rattle.opening.specs.Rows.{last_under, row_owner, row_below, row_start, next_lower, neighbour, linked}
use Rattle.opening.specs.Rows.{grown, free, root_of, row_tree}
use Rattle.definitions.proofs.Words.{same_tree}
use Rattle.opening.proofs.Last.{last_is}
use Rattle.opening.proofs.Growth.{under_out, under_none}

-- node 0 of machine 0, its start, with no machine below
abbrev pub fresh_row : List ℕ
fresh_row = 0 ∷ 65535 ∷ 1 ∷ []

pub fresh_rows_lem : row_tree fresh_row ≡ fresh_tree
unfolding row_tree root_of free grown linked neighbour next_lower last_under cell row_owner row_below row_start under number word
    fresh_tree single
fresh_rows_lem = same_tree (row_tree fresh_row) fresh_tree root owner below start (under_none machines) transition (λ n. refl) (λ m. refl)
  where
    start : (m : ℕ) → (grown fresh_row 1 absent).start m ≡ fresh_tree.start m
    start zero = refl
    start (suc p) = rw (ne_eqb 0 (suc p) (omega arith), ne_eqb (suc p) 0 (omega arith)) (under_none machines (suc p))

    root : root_of (grown fresh_row 1 absent) ≡ 0
    root = ap word (last_is machines 0 (free (grown fresh_row 1 absent)) (omega arith) refl unused)
      where
        unused : (m : ℕ) → 0 < m → m < machines → free (grown fresh_row 1 absent) m ≡ false
        unused zero above under = absurd (omega arith)
        unused (suc p) above under = rw (ne_eqb 0 (suc p) (omega arith)) (rw (under_none {A = ℕ} machines (suc p)))

    owner : (n : ℕ) → (grown fresh_row 1 absent).owner n ≡ fresh_tree.owner n
    owner zero = refl
    owner (suc n) = under_out 1 (suc n) (row_owner fresh_row (suc n)) (omega arith) ∙ sym (rw (ne_eqb (suc n) 0 (omega arith)))

    below : (n : ℕ) → (grown fresh_row 1 absent).below n ≡ none
    below zero = refl
    below (suc n) = under_out 1 (suc n) (row_below fresh_row (suc n)) (omega arith)

    transition : (n x : ℕ) → linked fresh_row 1 n x ≡ none
    transition zero zero = refl
    transition (suc n) zero = ap neighbour (under_out 1 (suc n) (next_lower fresh_row (suc n)) (omega arith))
    transition n (suc zero) = refl
    transition n (suc (suc x)) = refl
