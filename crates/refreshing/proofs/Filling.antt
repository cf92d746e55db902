-- Filling the row of one stale machine, below which nothing is stale, keeps the rows true. Assumes nothing.
use mathlib.Core.Path.{◌≡◌, refl, sym, ◌∙◌, ap}
use mathlib.Core.Logic.{⊎_elim}
use mathlib.Core.Bool.{true, false}
use mathlib.Core.Option.{Option, none, some}
use Prim.Native.Nat.{ℕ}
use Rattle.definitions.specs.Tree.{Tree, Sound, parent}
use Rattle.definitions.specs.Sheet.{Rows}
use Rattle.definitions.specs.Truth.{TrueRows, BlankRule}
use Rattle.definitions.proofs.Options.{bind_some, none_some, some_same, true_false, equal_or_not}
use Rattle.definitions.proofs.Path.{parent_below}
use Rattle.definitions.proofs.Local.{Relaxed, Attained}
use Rattle.definitions.proofs.LocalTruth.{true_local, local_true}
use Rattle.rows.proofs.Locality.{SameRow, same_row}
use Rattle.refreshing.specs.Parts.{Fills}

module _ {t : Tree} (sound : Sound t) {r q : Rows} (rows : TrueRows t r) {m s : ℕ} (used : t.start m ≡ some s) (stale : r.stale m ≡ true)
    (below : (n b : ℕ) → t.owner n ≡ some m → t.below n ≡ some b → r.stale b ≡ false) (fills : Fills t m r q) where
  -- a machine that is stale after was stale before, and is another
  other : {p : ℕ} → q.stale p ≡ true → p ≡ m → ⊥
  other {p} mark same = true_false mark (ap q.stale same ∙ fills.fresh)

  was : {p : ℕ} → q.stale p ≡ true → r.stale p ≡ true
  was {p} mark = sym (fills.stale p (other mark)) ∙ mark

  -- a machine that is not in use is another, and so is the owner of a node of another
  unused : {p : ℕ} → t.start p ≡ none → p ≡ m → ⊥
  unused {p} off same = none_some (sym (ap t.start same) ∙ off) used

  owned : {n p : ℕ} → t.owner n ≡ some p → (p ≡ m → ⊥) → t.owner n ≡ some m → ⊥
  owned own apart own_m = apart (some_same own own_m)

  free : {n : ℕ} → t.owner n ≡ none → t.owner n ≡ some m → ⊥
  free off own = none_some off own

  filled_blanks : BlankRule t q
  filled_blanks =
      let blank = rows.blanks in
      record {
        unused_stale = λ p off. fills.stale p (unused off) ∙ blank.unused_stale p off;
        unused_machine_lem = λ p off. record {
          exit = λ x range. fills.exit p x (unused off) ∙ (blank.unused_machine_lem p off).exit x range;
          last = λ x range. fills.last p x (unused off) ∙ (blank.unused_machine_lem p off).last x range;
        };
        unused_node_lem = λ n off. record {
          cost = fills.cost n (free off) ∙ (blank.unused_node_lem n off).cost;
          before = fills.before n (free off) ∙ (blank.unused_node_lem n off).before;
          by = fills.by n (free off) ∙ (blank.unused_node_lem n off).by;
        };
        stale_machine = λ p mark. record {
          exit = λ x range. fills.exit p x (other mark) ∙ (blank.stale_machine p (was mark)).exit x range;
          last = λ x range. fills.last p x (other mark) ∙ (blank.stale_machine p (was mark)).last x range;
        };
        stale_node = λ n p own mark. record {
          cost = fills.cost n (owned own (other mark)) ∙ (blank.stale_node n p own (was mark)).cost;
          before = fills.before n (owned own (other mark)) ∙ (blank.stale_node n p own (was mark)).before;
          by = fills.by n (owned own (other mark)) ∙ (blank.stale_node n p own (was mark)).by;
        };
      }

  -- the machine above a stale one is stale: it is not m, for nothing just below m is stale
  filled_above : (p a : ℕ) → q.stale p ≡ true → parent t p ≡ some a → q.stale a ≡ true
  unfolding parent
  filled_above p a mark up =
      let (h, held, own) = bind_some (t.holder p) t.owner up in
      let down : t.below h ≡ some p = sound.held_below p h held in
      let apart : a ≡ m → ⊥ = λ same. true_false (was mark) (below h p (own ∙ ap {B = Option ℕ} some same) down) in
      fills.stale a apart ∙ rows.stale_above p a (was mark) up

  -- a machine that was not stale has the row that it had: it is not above m, so it reads nothing of m's row
  kept_row : (p : ℕ) → (p ≡ m → ⊥) → r.stale p ≡ false → SameRow t t r q p
  kept_row p apart full =
      record {
        moves = record {
          machine = record {
            start = refl;
            owned = λ n own. own;
            owner = λ n own. own;
            below = λ n own. refl;
            counting = λ n x own range. refl;
            leave = λ n b own down. refl;
          };
          below = λ n b x own down range.
              fills.exit b x
              (λ same.
              true_false (rows.stale_above m p stale (ap (parent t) (sym same) ∙ parent_below sound own down)) full);
        };
        exit = λ x range. fills.exit p x apart;
        last = λ x range. fills.last p x apart;
        cost = λ n own. fills.cost n (owned own apart);
        before = λ n own. fills.before n (owned own apart);
        by = λ n own. fills.by n (owned own apart);
      }

  module _ (relaxed : Relaxed t q m s) (attained : Attained t q m s) where
    -- every machine that is not stale has a true row
    filled_row : (p f : ℕ) → t.start p ≡ some f → q.stale p ≡ false → Relaxed t q p f × Attained t q p f
    filled_row p f st full =
        ⊎_elim
        (λ same.
        let first : f ≡ s = some_same st (ap t.start same ∙ used) in
        rw (same, first) (relaxed, attained))
        (λ apart.
        let was_full : r.stale p ≡ false = sym (fills.stale p apart) ∙ full in
        let (to_relaxed, to_attained) = same_row (kept_row p apart was_full) (sound.start_owned p f st) sound in
        let local = true_local sound r rows in
        (to_relaxed (local.relaxed p f st was_full), to_attained (local.attained p f st was_full)))
        (equal_or_not p m)

    -- the rows stay true
    pub fill_true : TrueRows t q
    fill_true =
        local_true sound q (record {
          blanks = filled_blanks;
          stale_above = filled_above;
          relaxed = λ p f st full. (filled_row p f st full).0;
          attained = λ p f st full. (filled_row p f st full).1;
        })
