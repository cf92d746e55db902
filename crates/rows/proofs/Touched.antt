-- A change of the tree by which some machines are touched, with all above them, and every other machine in use stays as it was: the
-- rows stay true, if the touched machines are marked and blanked and what is not in use is blank. Assumes nothing.
use mathlib.Core.Path.{◌≡◌, refl, sym, ◌∙◌}
use mathlib.Core.Logic.{⊎_elim}
use mathlib.Core.Bool.{Bool, true, false, not, ◌&&◌, ◌||◌}
use mathlib.Core.Option.{Option, none, some}
use Prim.Native.Nat.{ℕ}
use Rattle.definitions.specs.Basics.{unless, is_some}
use Rattle.definitions.specs.Tree.{Tree, Sound, used_machine, parent}
use Rattle.definitions.specs.Sheet.{Rows}
use Rattle.definitions.specs.Truth.{BlankNode, BlankRule, TrueRows}
use Rattle.definitions.specs.Edit.{with_stale}
use Rattle.definitions.proofs.Options.{bind_some, decided, true_false}
use Rattle.definitions.proofs.Path.{parent_below}
use Rattle.definitions.proofs.Local.{Relaxed, Attained}
use Rattle.definitions.proofs.LocalTruth.{true_local, local_true}
use Rattle.rows.proofs.Locality.{SameMachine, SameRow, same_row}

-- the machines above a touched one are touched, and a machine in use that is not touched is as it was
pub record Spares (t u : Tree) (touched : ℕ → Bool) : Type 0 where
  pub up : (m p : ℕ) → touched m ≡ true → parent u m ≡ some p → touched p ≡ true
  pub same : (m s : ℕ) → u.start m ≡ some s → touched m ≡ false → SameMachine t u m

-- ---- the rows after such a change

-- nothing is left where one of two tests holds, nor where the second does not if there was nothing
blanked : {A : Type 0} (a b : Bool) {o : Option A} → (b ≡ false → o ≡ none) → unless (a || b) o ≡ none
blanked true b empty = refl
blanked false true empty = refl
blanked false false empty = empty refl

module _ (u : Tree) (touched : ℕ → Bool) (r : Rows) (m : ℕ) where
  -- a machine in use is marked where it is touched or was marked
  marked : {s : ℕ} → u.start m ≡ some s → (touched m || r.stale m) ≡ true → (with_stale u touched r).stale m ≡ true
  unfolding with_stale
  marked used e = rw used e

  -- a machine that is not touched was marked, if it is
  was_marked : (with_stale u touched r).stale m ≡ true → touched m ≡ false → r.stale m ≡ true
  unfolding with_stale
  was_marked mark off = go (u.start m) (rw off at mark)
    where
      go : (o : Option ℕ) → (is_some o && r.stale m) ≡ true → r.stale m ≡ true
      go none e = absurd (true_false e refl)
      go (some s) e = e

  -- a machine in use that is not marked is not touched and was not marked
  unmarked : {s : ℕ} → u.start m ≡ some s → (with_stale u touched r).stale m ≡ false → (touched m ≡ false) × (r.stale m ≡ false)
  unfolding with_stale
  unmarked used mark = go (touched m) (rw used at mark)
    where
      go : (b : Bool) → (b || r.stale m) ≡ false → (b ≡ false) × (r.stale m ≡ false)
      go true e = absurd (true_false refl e)
      go false e = (refl, e)

module _ {t u : Tree} (sound_t : Sound t) (sound_u : Sound u) {touched : ℕ → Bool} (spares : Spares t u touched) where
  -- below a machine that is not touched none is
  spared_below : {m p : ℕ} → parent u m ≡ some p → touched p ≡ false → touched m ≡ false
  spared_below {m} {p} above off =
      ⊎_elim (λ on. absurd (true_false (spares.up m p on above) off)) (λ e. e) (decided (touched m))

  -- a machine in use that is not touched has the row that it had
  pub row_kept : (r : Rows) (m s : ℕ) → u.start m ≡ some s → touched m ≡ false → SameRow t u r (with_stale u touched r) m
  unfolding with_stale
  row_kept r m s used off =
      let same = spares.same m s used off in
      record {
        moves = record {
          machine = same;
          below = λ n b x own down range.
              let down_u : u.below n ≡ some b = same.below n own ∙ down in
              let (f, used_b) = sound_u.held_used b n (sound_u.below_held n b down_u) in
              rw (used_b, spared_below (parent_below sound_u (same.owned n own) down_u) off);
        };
        exit = λ x range. rw (used, off);
        last = λ x range. rw (used, off);
        cost = λ n own. rw (same.owned n own, off);
        before = λ n own. rw (same.owned n own, off);
        by = λ n own. rw (same.owned n own, off);
      }

  module _ {r : Rows} (rows : TrueRows t r) where
    -- a node of a machine that is marked was blank, if the machine is not touched
    was_blank : (n m : ℕ) → u.owner n ≡ some m → (with_stale u touched r).stale m ≡ true → touched m ≡ false → BlankNode r n
    was_blank n m own mark off =
        let (s, used) = sound_u.owner_used n m own in
        rows.blanks.stale_node n m ((spares.same m s used off).owner n own) (was_marked u touched r m mark off)

    -- what is not in use, and what is marked, is blank
    blanks_left : BlankRule u (with_stale u touched r)
    unfolding with_stale
    blanks_left =
        record {
          unused_stale = λ m off. rw off;
          unused_machine_lem = λ m off. record { exit = λ x range. rw off; last = λ x range. rw off };
          unused_node_lem = λ n off. record { cost = rw off; before = rw off; by = rw off };
          stale_machine = λ m mark. record {
            exit = λ x range.
                blanked (not (used_machine u m)) (touched m)
                (λ off. (rows.blanks.stale_machine m (was_marked u touched r m mark off)).exit x range);
            last = λ x range.
                blanked (not (used_machine u m)) (touched m)
                (λ off. (rows.blanks.stale_machine m (was_marked u touched r m mark off)).last x range);
          };
          stale_node = λ n m own mark. record {
            cost = rw own (blanked false (touched m) (λ off. (was_blank n m own mark off).cost));
            before = rw own (blanked false (touched m) (λ off. (was_blank n m own mark off).before));
            by = rw own (blanked false (touched m) (λ off. (was_blank n m own mark off).by));
          };
        }

    -- the machine above a marked one is marked
    marked_up : (m p : ℕ) → (with_stale u touched r).stale m ≡ true → parent u m ≡ some p → (with_stale u touched r).stale p ≡ true
    unfolding parent
    marked_up m p mark above =
        let (h, held, own) = bind_some (u.holder m) u.owner above in
        let (s, used) = sound_u.owner_used h p own in
        marked u touched r p used (go h s held own used (touched p) refl)
      where
        go : (h s : ℕ) → u.holder m ≡ some h → u.owner h ≡ some p → u.start p ≡ some s → (b : Bool) → touched p ≡ b
            → (touched p || r.stale p) ≡ true
        go h s held own used true on = rw on
        go h s held own used false off =
            let same = spares.same p s used off in
            let own_t : t.owner h ≡ some p = same.owner h own in
            let down : t.below h ≡ some m = sym (same.below h own_t) ∙ sound_u.held_below m h held in
            rw off (rows.stale_above m p (was_marked u touched r m mark (spared_below above off)) (parent_below sound_t own_t down))

    -- a machine in use that is not marked has a true row
    spared_row : (m s : ℕ) → u.start m ≡ some s → (with_stale u touched r).stale m ≡ false
        → Relaxed u (with_stale u touched r) m s × Attained u (with_stale u touched r) m s
    spared_row m s used mark =
        let (off, fresh) = unmarked u touched r m used mark in
        let used_t : t.start m ≡ some s = sym (spares.same m s used off).start ∙ used in
        let (relaxed, attained) = same_row (row_kept r m s used off) (sound_t.start_owned m s used_t) sound_u in
        let local = true_local sound_t r rows in
        (relaxed (local.relaxed m s used_t fresh), attained (local.attained m s used_t fresh))

    -- the rows are true of the changed tree
    pub spared_true : TrueRows u (with_stale u touched r)
    spared_true =
        local_true sound_u _ (record {
          blanks = blanks_left;
          stale_above = marked_up;
          relaxed = λ m s used mark. (spared_row m s used mark).0;
          attained = λ m s used mark. (spared_row m s used mark).1;
        })
