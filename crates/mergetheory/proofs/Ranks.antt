-- Numbers that pass a test, by how many such are below them; and numbers that move in rising order to the lowest that pass another test. Assumes
-- nothing.
use mathlib.Core.Path.{◌≡◌, refl, sym, ◌∙◌, ap}
use mathlib.Core.Logic.{◌⊎◌, inl, inr, ⊎_elim}
use mathlib.Core.Bool.{Bool, true, false, cond, ◌&&◌}
use mathlib.Core.Option.{none, some}
use Prim.Native.Nat.{ℕ, zero, suc, ◌≤◌, ◌<◌}
use native.Mathlib.Nat.{not-suc-le-zero}
use native.Mathlib.Omega.{arith}
use lib.Dec.{eqb}
use borrow.Author.Tests.{eq-eqb, ne_eqb}
use Rattle.definitions.specs.Basics.{count_below}
use Rattle.definitions.specs.Merge.{ranked, moved, Renumbering, rising}
use Rattle.definitions.proofs.Options.{none_some, some_same, true_false, decided, equal_or_not, less_or_not}
use Rattle.definitions.proofs.Lists.{no_value}
use Rattle.definitions.proofs.Simple.{count_pass, count_skip, count_same}

-- ---- how many numbers pass

-- a number that passes is counted below every higher one
pub count_under : (p : ℕ → Bool) (limit d : ℕ) → d < limit → p d ≡ true → count_below d p < count_below limit p
count_under p zero d h e = absurd (not-suc-le-zero h)
count_under p (suc k) d h e =
    ⊎_elim (λ same. omega (arith, ap (λ i. count_below i p) same, count_pass p k (rw same at e)))
    (λ other.
    let less : count_below d p < count_below k p = count_under p k d (omega (arith, other)) e in
    ⊎_elim (λ on. omega (arith, count_pass p k on)) (λ off. omega (arith, count_skip p k off)) (decided (p k)))
    (equal_or_not d k)

-- no number is counted below 0
count_zero : (p : ℕ → Bool) {j : ℕ} → j < count_below 0 p → ⊥
unfolding count_below
count_zero p h = omega arith

-- ---- the number of a rank

-- a number that passes has its own rank; where it has another or does not pass, the rank is that of a lower one, if any has it
ranked_here : (k : ℕ) (p : ℕ → Bool) (j : ℕ) → p k ≡ true → count_below k p ≡ j → ranked (suc k) p j ≡ some k
unfolding ranked
ranked_here k p j on e = rw (on, eq-eqb (count_below k p) j e)

ranked_lower : (k : ℕ) (p : ℕ → Bool) (j : ℕ) → (p k ≡ true → count_below k p ≡ j → ⊥) → ranked (suc k) p j ≡ ranked k p j
unfolding ranked
ranked_lower k p j other = go (p k) refl
  where
    go : (b : Bool) → p k ≡ b → cond (b && eqb (count_below k p) j) (some k) (ranked k p j) ≡ ranked k p j
    go true e = rw (ne_eqb (count_below k p) j (other e))
    go false e = refl

-- what the number of a rank is
pub record HasRank (limit : ℕ) (p : ℕ → Bool) (j k : ℕ) : Type 0 where
  pub range : k < limit
  pub passes : p k ≡ true
  pub rank : count_below k p ≡ j

-- no number under 0 has a rank
ranked_zero : (p : ℕ → Bool) (j : ℕ) → ranked 0 p j ≡ none
unfolding ranked
ranked_zero p j = refl

-- the highest number has the rank, or the one that has it under a lower limit
ranked_step : (k : ℕ) (p : ℕ → Bool) (j : ℕ) → ((p k ≡ true) × (count_below k p ≡ j)) ⊎ (ranked (suc k) p j ≡ ranked k p j)
ranked_step k p j =
    ⊎_elim
    (λ on. ⊎_elim (λ here. inl (on, here)) (λ other. inr (ranked_lower k p j (λ t e. other e))) (equal_or_not (count_below k p) j))
    (λ off. inr (ranked_lower k p j (λ t e. true_false t off))) (decided (p k))

pub ranked_some : (limit : ℕ) (p : ℕ → Bool) (j : ℕ) {k : ℕ} → ranked limit p j ≡ some k → HasRank limit p j k
ranked_some zero p j e = absurd (none_some (ranked_zero p j) e)
ranked_some (suc l) p j {k} e =
    ⊎_elim
    (λ here.
    let same : l ≡ k = some_same (ranked_here l p j here.0 here.1) e in
    record { range = omega arith; passes = rw same at here.0; rank = rw same at here.1 })
    (λ lower.
    let less = ranked_some l p j (sym lower ∙ e) in
    record { range = omega (arith, less.range); passes = less.passes; rank = less.rank }) (ranked_step l p j)

-- a number that passes is the one of its rank
pub ranked_at : (limit : ℕ) (p : ℕ → Bool) (k : ℕ) → k < limit → p k ≡ true → ranked limit p (count_below k p) ≡ some k
ranked_at zero p k h e = absurd (not-suc-le-zero h)
ranked_at (suc l) p k h e =
    ⊎_elim (λ same. rw same (ranked_here l p (count_below l p) (rw same at e) refl))
    (λ other.
    let under : k < l = omega (arith, other) in
    ranked_lower l p (count_below k p) (λ t r. omega (arith, count_under p l k under e)) ∙ ranked_at l p k under e)
    (equal_or_not k l)

-- there are as many ranks as numbers that pass
pub ranked_exists : (limit : ℕ) (p : ℕ → Bool) (j : ℕ) → j < count_below limit p → (k : ℕ) × (ranked limit p j ≡ some k)
ranked_exists zero p j h = absurd (count_zero p h)
ranked_exists (suc l) p j h =
    ⊎_elim (λ here. (l, ranked_here l p j here.0 here.1))
    (λ lower. let (k, e) = ranked_exists l p j (fewer (decided (p l)) lower) in (k, lower ∙ e)) (ranked_step l p j)
  where
    fewer : (p l ≡ true) ⊎ (p l ≡ false) → ranked (suc l) p j ≡ ranked l p j → j < count_below l p
    fewer (inl on) lower =
        ⊎_elim (λ same. absurd (fresh same)) (λ other. omega (arith, count_pass p l on, other)) (equal_or_not (count_below l p) j)
      where
        fresh : count_below l p ≡ j → ⊥
        fresh same = let placed = ranked_some l p j (sym lower ∙ ranked_here l p j on same) in omega (arith, placed.range)
    fewer (inr off) lower = omega (arith, count_skip p l off)

-- more numbers pass than one of them has below it
pub rank_under : (limit : ℕ) (p : ℕ → Bool) (j : ℕ) {k : ℕ} → ranked limit p j ≡ some k → j < count_below limit p
rank_under limit p j {k} e =
    let at = ranked_some limit p j e in
    omega (arith, count_under p limit k at.range at.passes, at.rank)

-- so there are no more ranks
pub ranked_none : (limit : ℕ) (p : ℕ → Bool) (j : ℕ) → count_below limit p ≤ j → ranked limit p j ≡ none
ranked_none limit p j h = no_value (ranked limit p j) (λ k e. omega (arith, rank_under limit p j e))

-- so where none has a rank, none has the next
pub none_on : (limit : ℕ) (p : ℕ → Bool) (j : ℕ) → ranked limit p j ≡ none → ranked limit p (suc j) ≡ none
none_on limit p j e =
    ⊎_elim (λ less. absurd (none_some e (ranked_exists limit p j less).1)) (λ past. ranked_none limit p (suc j) (omega (arith, past)))
    (less_or_not j (count_below limit p))

-- ---- numbers that move

-- a number that passes moves to the one of its rank, another does not move
pub moved_pass : (limit : ℕ) (p q : ℕ → Bool) (d : ℕ) → p d ≡ true → moved limit p q d ≡ ranked limit q (count_below d p)
unfolding moved
moved_pass limit p q d e = rw e

pub moved_not : (limit : ℕ) (p q : ℕ → Bool) (d : ℕ) → p d ≡ false → moved limit p q d ≡ none
unfolding moved
moved_not limit p q d e = rw e

-- what moves passes, and moves to a number of its own rank that passes the other test
pub moved_some : (limit : ℕ) (p q : ℕ → Bool) (d : ℕ) {k : ℕ} → moved limit p q d ≡ some k → (p d ≡ true) × HasRank limit q (count_below d p) k
moved_some limit p q d e =
    ⊎_elim (λ on. (on, ranked_some limit q (count_below d p) (sym (moved_pass limit p q d on) ∙ e)))
    (λ off. absurd (none_some (moved_not limit p q d off) e)) (decided (p d))

-- and from there it comes back
moved_back : (limit : ℕ) (p q : ℕ → Bool) → ((d : ℕ) → p d ≡ true → d < limit) → (d : ℕ) {k : ℕ} → moved limit p q d ≡ some k
    → moved limit q p k ≡ some d
moved_back limit p q small d {k} e =
    let (on, placed) = moved_some limit p q d e in
    moved_pass limit q p k placed.passes ∙ ap (ranked limit p) placed.rank ∙ ranked_at limit p d (small d on) on

-- The numbers that pass p move, each to one that passes q, and from there it comes back.
pub record Renumbers (r : Renumbering) (p q : ℕ → Bool) : Type 0 where
  pub moves : (d : ℕ) → p d ≡ true → (k : ℕ) × (r.to d ≡ some k)
  pub there : {d k : ℕ} → r.to d ≡ some k → (p d ≡ true) × (q k ≡ true)
  pub back : {d k : ℕ} → r.to d ≡ some k → r.from k ≡ some d
  pub again : {d k : ℕ} → r.from k ≡ some d → r.to d ≡ some k

-- numbers under a limit that move in rising order do so, if there are enough to move to
pub rising_renumbers : (limit : ℕ) (p q : ℕ → Bool) → ((d : ℕ) → p d ≡ true → d < limit) → ((d : ℕ) → q d ≡ true → d < limit)
    → count_below limit p ≤ count_below limit q → Renumbers (rising limit p q) p q
unfolding rising
rising_renumbers limit p q small high enough =
    record {
      moves = λ d on.
          let (k, e) = ranked_exists limit q (count_below d p) (omega (arith, count_under p limit d (small d on) on)) in
          (k, moved_pass limit p q d on ∙ e);
      there = λ {d} {k} e. let (on, placed) = moved_some limit p q d e in (on, placed.passes);
      back = λ {d} {k} e. moved_back limit p q small d e;
      again = λ {d} {k} e. moved_back limit q p high k e;
    }

-- no number moves to one that has at least as many free ones below it as there are numbers that move
pub beyond : (limit : ℕ) (p q : ℕ → Bool) (k : ℕ) → count_below limit p ≤ count_below k q → (rising limit p q).from k ≡ none
unfolding rising
beyond limit p q k h =
    ⊎_elim (λ on. moved_pass limit q p k on ∙ ranked_none limit p (count_below k q) h) (moved_not limit q p k) (decided (q k))

-- ---- tests that agree under the limit

-- give ranks to the same numbers and move them alike
pub ranked_same : (limit : ℕ) (p q : ℕ → Bool) (j : ℕ) → ((i : ℕ) → i < limit → p i ≡ q i) → ranked limit p j ≡ ranked limit q j
unfolding ranked
ranked_same zero p q j same = refl
ranked_same (suc l) p q j same =
    rw (same l (omega arith), count_same l p q (λ i h. same i (omega arith)), ranked_same l p q j (λ i h. same i (omega arith)))

pub moved_same : (limit : ℕ) (p q f g : ℕ → Bool) (d : ℕ) → d < limit → ((i : ℕ) → i < limit → p i ≡ f i)
    → ((i : ℕ) → i < limit → q i ≡ g i) → moved limit p q d ≡ moved limit f g d
unfolding moved
moved_same limit p q f g d h sp sq =
    rw (sp d h, count_same d p f (λ i less. sp i (omega arith)), ranked_same limit q g (count_below d f) sq)
