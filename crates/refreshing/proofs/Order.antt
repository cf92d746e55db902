-- The machines are filled level by level, the lowest first, so that below a machine in hand nothing is stale; in the end nothing is.
-- Assumes nothing.
use mathlib.Core.Path.{◌≡◌, refl, sym}
use mathlib.Core.Logic.{⊎_elim}
use mathlib.Core.List.{List}
use Prim.Native.Nat.{ℕ, ◌≤◌}
use native.Mathlib.Omega.{arith}
use Rattle.definitions.specs.Limits.{levels}
use Rattle.definitions.specs.Tree.{Tree, Sound}
use Rattle.definitions.specs.Sheet.{Rows, rows_of}
use Rattle.definitions.specs.Truth.{TrueSheet}
use Rattle.definitions.proofs.Options.{true_false, present}
use Rattle.definitions.proofs.Words.{marks_words}
use Rattle.sheet.proofs.Reading.{is_stale}
use Rattle.sheet.specs.Fields.{Mark}
use Rattle.refreshing.specs.Refresh.{machine_level, Fillable, Kept, FreshBelow, FilledBelow, Refreshes}
use Rattle.refreshing.proofs.Levels.{level_range, level_below, level_used}

-- ---- what is kept

kept_none : (t : Tree) (r : Rows) → Kept t r r
kept_none t r =
    record {
      fresh = λ m e. e;
      exit = λ m x e. refl;
      last = λ m x e. refl;
      cost = λ n m own e. refl;
      before = λ n m own e. refl;
      by = λ n m own e. refl;
    }

-- ---- one machine

module _ {t : Tree} {l m : ℕ} {sheet : List ℕ} (holds : TrueSheet t sheet) where
  module _ (sound : Sound t) {w : ℕ} (mark : Mark sheet m w) (is : w ≡ 1) where
    -- a stale machine of this level can be filled
    pub step_fillable : FreshBelow t l (rows_of sheet) → {here : ℕ} → here ≡ machine_level t m → here ≡ l → Fillable t m (rows_of sheet)
    step_fillable low level_is same =
        record {
          used =
              ⊎_elim (λ off. absurd (true_false (is_stale mark is) (holds.rows.blanks.unused_stale m off))) (λ used. used)
              (present (t.start m));
          stale = is_stale mark is;
          below = λ n b own down. low.fresh b (omega (arith, level_below sound own down));
        }

-- ---- all levels

module _ {t : Tree} where
  -- below the lowest level there is no machine
  pub below_none : Sound t → {sheet : List ℕ} → TrueSheet t sheet → FilledBelow t levels sheet sheet
  below_none sound {sheet} holds =
      record {
        holds = holds;
        kept = kept_none t (rows_of sheet);
        below = record {
          fresh = λ p deep.
              let (s, used) = level_used t p (omega arith) in
              absurd (omega (arith, level_range sound used));
        };
      }

  -- above the root there is no machine either: the refresh is done
  pub below_all : Sound t → {l : ℕ} {sheet after : List ℕ} → FilledBelow t l sheet after → l ≤ 0 → Refreshes t sheet after
  below_all sound {l} {sheet} {after} done none_left =
      record {
        rows = record {
          filled = done.holds.rows;
          fresh = λ m.
              ⊎_elim (λ off. done.holds.rows.blanks.unused_stale m off)
              (λ used. done.below.fresh m (omega (arith, level_range sound used.1))) (present (t.start m));
          exit_kept = done.kept.exit;
          last_kept = done.kept.last;
          cost_kept = done.kept.cost;
          before_kept = done.kept.before;
          by_kept = done.kept.by;
        };
        words = sym (marks_words after done.holds.length done.holds.marks);
      }
