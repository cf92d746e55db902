-- The lowest number from a number on, by its rank; and lists of where numbers move, written one after the other. Assumes nothing.
use mathlib.Core.Path.{◌≡◌, refl, sym, ◌∙◌, ap, subst}
use mathlib.Core.Logic.{⊎_elim}
use mathlib.Core.Bool.{Bool, true, false}
use mathlib.Core.Option.{Option, none, some}
use mathlib.Core.List.{List}
use Prim.Native.Nat.{ℕ, suc, ◌+◌, ◌≤◌, ◌<◌}
use native.Mathlib.Omega.{arith}
use lib.ListN.{length, get_or}
use lib.ListN.{set, length-set}
use lib.Seq.{get_or-set_same, get_or-set_other}
use borrow.Author.Tests.{eq-eqb, ne_eqb}
use Rattle.definitions.specs.Basics.{count_below}
use Rattle.definitions.specs.Limits.{absent}
use Rattle.definitions.specs.Book.{word}
use Rattle.definitions.specs.Merge.{ranked, moved}
use Rattle.definitions.proofs.Options.{equal_or_not}
use Rattle.definitions.proofs.Simple.{count_pass, count_skip}
use Rattle.mergetheory.proofs.Ranks.{ranked_some, ranked_at, ranked_none, none_on, moved_pass, moved_not}
use Rattle.numbering.specs.Tests.{has, FrontWords}

module _ (list : List ℕ) (v : ℕ) where
  -- number k is the lowest from i on, where none between has the word and k has
  pub lowest_here : (i k : ℕ) → k < length list → count_below k (has list v) ≡ count_below i (has list v) → get_or list k 0 ≡ v
      → k ≡ word (ranked (length list) (has list v) (count_below i (has list v)))
  unfolding word
  lowest_here i k h same e =
      sym (ap word (ap (ranked (length list) (has list v)) (sym same) ∙ ranked_at (length list) (has list v) k h (eq-eqb (get_or list k 0) v e)))

  -- one number more has not
  pub lowest_on : (i k : ℕ) → count_below k (has list v) ≡ count_below i (has list v) → (get_or list k 0 ≡ v → ⊥)
      → count_below (k + 1) (has list v) ≡ count_below i (has list v)
  lowest_on i k same other =
      let at : k + 1 ≡ suc k = omega arith in
      rw at (count_skip (has list v) k (ne_eqb (get_or list k 0) v other) ∙ same)

  -- none has
  pub lowest_none : (i k : ℕ) → length list ≤ k → k ≤ length list → count_below k (has list v) ≡ count_below i (has list v)
      → absent ≡ word (ranked (length list) (has list v) (count_below i (has list v)))
  unfolding word
  lowest_none i k past under same =
      let all : k ≡ length list = omega arith in
      sym (ap word (ranked_none (length list) (has list v) (count_below i (has list v)) (omega (arith, rw all at same))))

  -- the number after that of rank j
  pub ranked_after : (j k r : ℕ) → length list < absent → k < length list → r ≡ word (ranked (length list) (has list v) (count_below (k + 1) (has list v)))
      → k ≡ word (ranked (length list) (has list v) j) → r ≡ word (ranked (length list) (has list v) (suc j))
  unfolding word
  ranked_after j k r short under next at = go (ranked (length list) (has list v) j) refl at
    where
      go : (o : Option ℕ) → ranked (length list) (has list v) j ≡ o → k ≡ word o → r ≡ word (ranked (length list) (has list v) (suc j))
      go none e f = absurd (omega arith)
      go (some i) e f =
          let placed = ranked_some (length list) (has list v) j (e ∙ ap {B = Option ℕ} some (sym f)) in
          let at : k + 1 ≡ suc k = omega arith in
          next
          ∙ ap (λ n. word (ranked (length list) (has list v) n))
          (ap (λ n. count_below n (has list v)) at ∙ count_pass (has list v) k placed.passes ∙ ap suc placed.rank)

  -- past the last there is none
  pub none_after : (j k : ℕ) → length list ≤ k → k ≡ word (ranked (length list) (has list v) j)
      → absent ≡ word (ranked (length list) (has list v) (suc j))
  unfolding word
  none_after j k past at = go (ranked (length list) (has list v) j) refl at
    where
      go : (o : Option ℕ) → ranked (length list) (has list v) j ≡ o → k ≡ word o → absent ≡ word (ranked (length list) (has list v) (suc j))
      go none e f = sym (ap word (none_on (length list) (has list v) j e))
      go (some i) e f = absurd (omega (arith, (ranked_some (length list) (has list v) j e).range))

-- ---- lists that are written one word after the other

pub front_none : {size : ℕ} {f : ℕ → ℕ} {list : List ℕ} → length list ≡ size → FrontWords size 0 f list
front_none room = record { length = room; word = λ i h. absurd (omega arith) }

-- one word more
pub front_more : {size k : ℕ} {f : ℕ → ℕ} {list : List ℕ} (v : ℕ) → FrontWords size k f list → k < size → v ≡ f k → FrontWords size (k + 1) f (set list k v)
front_more {k = k} {list = list} v less h here =
    record {
      length = length-set list k v ∙ less.length;
      word = λ i under.
          ⊎_elim (λ same. rw same (get_or-set_same list k v 0 (omega (arith, less.length)) ∙ here))
          (λ other. get_or-set_other list k i v 0 other ∙ less.word i (omega (arith, other))) (equal_or_not i k);
    }

-- all
pub front_all : {size k : ℕ} {f : ℕ → ℕ} {list : List ℕ} → k ≡ size → FrontWords size k f list → FrontWords size size f list
front_all {size} {f = f} {list} all whole = subst (λ i. FrontWords size i f list) all whole

-- ---- the list of where numbers move

-- the list has where each number under d moves, and `next` is where the next one goes
pub record MovedUpto (limit : ℕ) (p q : ℕ → Bool) (out : List ℕ) (next d : ℕ) : Type 0 where
  pub told : FrontWords limit d (λ i. word (moved limit p q i)) out
  pub coming : next ≡ word (ranked limit q (count_below d p))

module _ {limit : ℕ} {p q : ℕ → Bool} where
  -- at first
  pub upto_none : {out : List ℕ} {next : ℕ} → length out ≡ limit → next ≡ word (ranked limit q (count_below 0 q)) → MovedUpto limit p q out next 0
  unfolding count_below
  upto_none room next = record { told = front_none room; coming = next }

  -- one number more, with what is stored for it
  upto_more : {out : List ℕ} {next after d : ℕ} (v : ℕ) → MovedUpto limit p q out next d → d < limit → v ≡ word (moved limit p q d)
      → after ≡ word (ranked limit q (count_below (suc d) p)) → MovedUpto limit p q (set out d v) after (d + 1)
  upto_more {out} {next} {after} {d} v less h here on =
      let at : suc d ≡ d + 1 = omega arith in
      record { told = front_more v less.told h here; coming = rw at at on }

  -- one that moves, and one that does not
  pub upto_moves : {out : List ℕ} {next after d : ℕ} → MovedUpto limit p q out next d → d < limit → p d ≡ true
      → after ≡ word (ranked limit q (suc (count_below d p))) → MovedUpto limit p q (set out d next) after (d + 1)
  upto_moves {next = next} {d = d} less h on after =
      upto_more next less h (less.coming ∙ ap word (sym (moved_pass limit p q d on)))
      (after ∙ ap (λ j. word (ranked limit q j)) (sym (count_pass p d on)))

  pub upto_stays : {out : List ℕ} {next d : ℕ} → MovedUpto limit p q out next d → d < limit → p d ≡ false → MovedUpto limit p q (set out d absent) next (d + 1)
  unfolding word
  upto_stays {next = next} {d = d} less h off =
      upto_more absent less h (sym (ap word (moved_not limit p q d off)))
      (less.coming ∙ ap (λ j. word (ranked limit q j)) (sym (count_skip p d off)))
