-- Which numbers a book uses, as a list of 1 and 0. Assumes nothing.
use mathlib.Core.Path.{◌≡◌, refl, sym, ◌∙◌, ap}
use mathlib.Core.Bool.{Bool, true, false, not, cond, ◌&&◌}
use mathlib.Core.List.{List}
use Prim.Native.Nat.{ℕ, suc, ◌+◌, ◌<◌}
use native.Mathlib.Omega.{arith}
use lib.Dec.{eqb, ltb}
use lib.ListN.{length}
use borrow.Author.Tests.{lt-ltb}
use Rattle.definitions.specs.Basics.{count_below}
use Rattle.definitions.specs.Limits.{absent}
use Rattle.definitions.specs.Book.{word, number}
use Rattle.definitions.specs.Merge.{ranked, moved, rising}
use Rattle.definitions.proofs.Simple.{count_same}
use Rattle.definitions.proofs.Words.{number_word}
use Rattle.mergetheory.proofs.Ranks.{ranked_some, ranked_same, moved_same}
use Rattle.numbering.specs.Tests.{has, Tells}
use Rattle.merging.specs.Merging.{Flags}

-- the word of the number of a rank says it
pub number_ranked : (limit : ℕ) (q : ℕ → Bool) (j : ℕ) → limit < absent → {w : ℕ} → w ≡ word (ranked limit q j) → number w ≡ ranked limit q j
number_ranked limit q j fits e = ap number e ∙ number_word (ranked limit q j) (λ n h. omega (arith, (ranked_some limit q j h).range))

-- ---- two such lists: `moving` of the numbers that move, `kept` of those that are taken

-- the numbers under the limit that are not taken
abbrev untaken : ℕ → (ℕ → Bool) → ℕ → Bool
untaken limit q k = ltb k limit && not (q k)

module _ (limit : ℕ) (p q : ℕ → Bool) {moving kept : List ℕ} (fm : Flags limit p moving) (fk : Flags limit q kept) where
  -- the words 1 and 0 say so
  moves_one : (k : ℕ) → k < limit → has moving 1 k ≡ p k
  moves_one k h = rw (fm.word k h) (one (p k))
    where
      one : (b : Bool) → eqb (cond b 1 0) 1 ≡ b
      one true = refl
      one false = refl

  takes_one : (k : ℕ) → k < limit → has kept 0 k ≡ untaken limit q k
  takes_one k h = rw (fk.word k h, lt-ltb k limit h) (zero_not (q k))
    where
      zero_not : (b : Bool) → eqb (cond b 1 0) 0 ≡ not b
      zero_not true = refl
      zero_not false = refl

  -- where they move, which moved to a number, and the next lowest number that is not taken
  pub told_to : {out : List ℕ} → Tells (length moving) (moved (length moving) (has moving 1) (has kept 0)) out
      → Tells limit (rising limit p (untaken limit q)).to out
  unfolding rising
  told_to {out} told =
      let at : Tells limit (moved limit (has moving 1) (has kept 0)) out = rw fm.length at told in
      record {
        length = at.length;
        word = λ k h. at.word k h ∙ ap word (moved_same limit (has moving 1) (has kept 0) p (untaken limit q) k h moves_one takes_one);
      }

  pub told_from : {out : List ℕ} → Tells (length kept) (moved (length kept) (has kept 0) (has moving 1)) out
      → Tells limit (rising limit p (untaken limit q)).from out
  unfolding rising
  told_from {out} told =
      let at : Tells limit (moved limit (has kept 0) (has moving 1)) out = rw fk.length at told in
      record {
        length = at.length;
        word = λ k h. at.word k h ∙ ap word (moved_same limit (has kept 0) (has moving 1) (untaken limit q) p k h takes_one moves_one);
      }

  -- the number whose rank is as many as move, or one more, among those that are not taken
  same_rank : (f : ℕ → ℕ) → word (ranked limit (has kept 0) (f (count_below (length moving) (has moving 1))))
      ≡ word (ranked limit (untaken limit q) (f (count_below limit p)))
  same_rank f =
      ap (λ l. word (ranked limit (has kept 0) (f (count_below l (has moving 1))))) fm.length
      ∙ ap (λ i. word (ranked limit (has kept 0) (f i))) (count_same limit (has moving 1) p moves_one)
      ∙ ap word (ranked_same limit (has kept 0) (untaken limit q) (f (count_below limit p)) takes_one)

  pub told_next : {r : ℕ} → r ≡ word (ranked (length moving) (has kept 0) (count_below (length moving) (has moving 1)))
      → r ≡ word (ranked limit (untaken limit q) (count_below limit p))
  told_next {r} e =
      e ∙ ap (λ l. word (ranked l (has kept 0) (count_below (length moving) (has moving 1)))) fm.length ∙ same_rank (λ i. i)

  -- and the one after that
  pub told_after : {a r : ℕ} → a ≡ word (ranked (length moving) (has kept 0) (count_below (length moving) (has moving 1)))
      → ((j : ℕ) → a ≡ word (ranked (length kept) (has kept 0) j) → r ≡ word (ranked (length kept) (has kept 0) (suc j)))
      → r ≡ word (ranked limit (untaken limit q) (count_below limit p + 1))
  told_after {a} {r} e on =
      let at : suc (count_below limit p) ≡ count_below limit p + 1 = omega arith in
      let sizes : length moving ≡ length kept = fm.length ∙ sym fk.length in
      let count : ℕ = count_below (length moving) (has moving 1) in
      on count (e ∙ ap (λ l. word (ranked l (has kept 0) count)) sizes)
      ∙ ap (λ l. word (ranked l (has kept 0) (suc count))) fk.length
      ∙ same_rank suc
      ∙ ap (λ i. word (ranked limit (untaken limit q) i)) at
