-- Two true rows of one sound tree say the same costs where neither is marked. Only the names are free. Assumes nothing.
use mathlib.Core.Path.{◌≡◌, sym, ◌∙◌, ap}
use mathlib.Core.Logic.{⊎_elim}
use mathlib.Core.Bool.{false}
use mathlib.Core.Option.{some}
use mathlib.Core.List.{[], List, ◌∷◌}
use Prim.Native.Nat.{ℕ, ◌<◌}
use Rattle.definitions.specs.Limits.{commands}
use Rattle.definitions.specs.Tree.{Tree, Sound}
use Rattle.definitions.specs.Step.{Arrival}
use Rattle.definitions.specs.Sheet.{Rows}
use Rattle.definitions.specs.Truth.{move, run_inside, TrueRows}
use Rattle.definitions.proofs.Options.{present, least_unique}
use Rattle.definitions.proofs.Path.{parent_below, counting_range}
use Rattle.definitions.proofs.Runs.{run_nil, run_first, run_cons}
use Rattle.definitions.proofs.Local.{move_parts}
use Rattle.definitions.proofs.LocalTruth.{filled_below, move_owned}
use Rattle.rows.proofs.Locality.{same_machine_lem, SameMoves, same_move}

-- ---- exit costs

-- the exit costs of a machine that is marked in neither
pub true_exit_unique : {t : Tree} {r q : Rows} → TrueRows t r → TrueRows t q → (m : ℕ) → r.stale m ≡ false → q.stale m ≡ false
    → (x : ℕ) → x < commands → r.exit m x ≡ q.exit m x
true_exit_unique {t} {r} {q} rows other m full full_q x range =
    ⊎_elim (λ unused. (rows.blanks.unused_machine_lem m unused).exit x range ∙ sym ((other.blanks.unused_machine_lem m unused).exit x range))
    (λ used.
    least_unique _ _ (λ c p. p) (λ c p. p) (r.exit m x) (q.exit m x) ((rows.filled m used.0 used.1 full).exit x range)
    ((other.filled m used.0 used.1 full_q).exit x range))
    (present (t.start m))

-- ---- costs

module _ {t : Tree} (s : Sound t) {r q : Rows} (rows : TrueRows t r) (other : TrueRows t q) {m : ℕ}
    (full : r.stale m ≡ false) (full_q : q.stale m ≡ false) where
  -- the moves of a machine that is marked in neither: the machines below are marked in neither
  true_moves : SameMoves t t r q m
  true_moves =
      record {
        machine = same_machine_lem t m;
        below = λ n b x own down range.
            let above = parent_below s own down in
            let full_b = filled_below t r rows.stale_above b m above full in
            let full_q_b = filled_below t q other.stale_above b m above full_q in
            true_exit_unique other rows b full_q_b full_b x range;
      }

  -- a list of moves
  walk_same : (n : ℕ) (xs : List ℕ) {b : Arrival} → t.owner n ≡ some m → run_inside t r n xs ≡ some b → run_inside t q n xs ≡ some b
  walk_same n [] own e = run_nil (move t q) n ∙ sym (run_nil (move t r) n) ∙ e
  walk_same n (x ∷ xs) own e =
      let first = run_first (move t r) n x xs e in
      let range : x < commands = counting_range s n x _ (move_parts t r n x first.step).has in
      let step : move t q n x ≡ some first.mid = same_move true_moves n x own range ∙ first.step in
      let rest = walk_same first.mid.node xs (move_owned s r n x own first.step) first.rest in
      run_cons (move t q) n x xs step rest ∙ ap (λ (a : Arrival). some a) first.joins

-- the costs of the nodes of a machine that is marked in neither
pub true_cost_unique : {t : Tree} → Sound t → {r q : Rows} → TrueRows t r → TrueRows t q → (n m : ℕ) → t.owner n ≡ some m
    → r.stale m ≡ false → q.stale m ≡ false → r.cost n ≡ q.cost n
true_cost_unique {t} s {r} {q} rows other n m own full full_q =
    let (f, used) = s.owner_used n m own in
    let first : t.owner f ≡ some m = s.start_owned m f used in
    least_unique _ _ (λ c w. (w.0, walk_same s rows other full full_q f w.0 first w.1))
    (λ c w. (w.0, walk_same s other rows full_q full f w.0 first w.1))
    (r.cost n) (q.cost n) ((rows.filled m f used full).least n own) ((other.filled m f used full_q).least n own)
