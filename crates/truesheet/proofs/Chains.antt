-- The names that lead from a node to one that has none before it: how many they are, and the counts of them that are kept.
-- Assumes nothing.
use mathlib.Core.Path.{◌≡◌, refl, sym, ap, subst, ◌∙◌}
use mathlib.Core.Logic.{⊎_elim}
use mathlib.Core.Option.{none, some}
use mathlib.Core.List.{List}
use Prim.Native.Nat.{ℕ, zero, suc, ◌+◌, ◌-◌, ◌≤◌, ◌<◌}
use native.Mathlib.Omega.{arith}
use lib.ListN.{length, get_or, set, length-set}
use lib.Seq.{get_or-set_same, get_or-set_other}
use Rattle.definitions.specs.Basics.{iterate}
use Rattle.definitions.specs.Limits.{nodes, longest_chain}
use Rattle.definitions.specs.Book.{word}
use Rattle.definitions.specs.Sheet.{Rows}
use Rattle.definitions.proofs.Options.{bind_some, none_some, some_same, equal_or_not}
use Rattle.book.proofs.Said.{said_is}
use Rattle.truesheet.specs.Fits.{NamesLead, Follows, uncounted, Counted}

-- ---- one step

module _ {r : Rows} {n : ℕ} where
  -- a node that has none before it is there
  pub steps_here : r.before n ≡ none → NamesLead r n 0
  unfolding iterate
  steps_here last = record { first = n; leads = refl; ends = last }

  pub here_steps : {k : ℕ} → r.before n ≡ none → NamesLead r n k → k ≡ 0
  unfolding iterate
  here_steps {k = zero} last way = refl
  here_steps {k = suc k} last way = absurd (none_some refl (rw last at way.leads))

  -- any other is one step further than the node before it
  pub steps_on : {u k : ℕ} → r.before n ≡ some u → NamesLead r u k → NamesLead r n (suc k)
  unfolding iterate
  steps_on before way = record { first = way.first; leads = rw before way.leads; ends = way.ends }

  pub on_steps : {u k : ℕ} → r.before n ≡ some u → NamesLead r n k → (j : ℕ) × (k ≡ suc j) × NamesLead r u j
  unfolding iterate
  on_steps {u} {k = zero} before way =
      absurd (none_some (subst (λ (v : ℕ). r.before v ≡ none) (some_same way.leads refl) way.ends) before)
  on_steps {u} {k = suc k} before way = (k, refl, record { first = way.first; leads = rw before at way.leads; ends = way.ends })

  -- a node that is not there has one before it
  pub steps_next : {k : ℕ} → 1 ≤ k → NamesLead r n k → (u : ℕ) × (r.before n ≡ some u) × ((j : ℕ) → k ≡ suc j → NamesLead r u j)
  unfolding iterate
  steps_next {k = zero} some_left way = absurd (omega arith)
  steps_next {k = suc k} some_left way =
      let (u, before, rest) = bind_some (r.before n) (iterate r.before k) way.leads in (
        u,
        before,
        λ j e.
            let same : k ≡ j = omega arith in
            subst (NamesLead r u) same (record { first = way.first; leads = rest; ends = way.ends }),
      )

-- and that node is one step nearer
pub steps_down : {r : Rows} {n k : ℕ} → 1 ≤ k → NamesLead r n k → {u : ℕ} → u ≡ word (r.before n)
    → (r.before n ≡ some u) × NamesLead r u (k - 1)
steps_down {r} {n} {k} some_left way {u} e =
    let (v, before, rest) = steps_next some_left way in
    let same : v ≡ u = sym (said_is (r.before n) e before) in
    let one : k ≡ suc (k - 1) = omega arith in
    (subst (λ (i : ℕ). r.before n ≡ some i) same before, subst (λ (i : ℕ). NamesLead r i (k - 1)) same (rest (k - 1) one))

-- the number of steps is one number
pub steps_unique : {r : Rows} {n j k : ℕ} → NamesLead r n j → NamesLead r n k → j ≡ k
unfolding iterate
steps_unique {r} {n} {j = zero} {k} a b =
    sym (here_steps (subst (λ (v : ℕ). r.before v ≡ none) (some_same a.leads refl) a.ends) b)
steps_unique {r} {n} {j = suc j} {k} a b =
    let (u, before, rest) = steps_next (omega arith) a in
    let (i, e, way) = on_steps before b in
    ap suc (steps_unique {r = r} {n = u} {j = j} {k = i} (rest j refl) way) ∙ sym e

-- ---- following the names

-- node v is j steps on from node n
pub record Ahead (r : Rows) (n v j : ℕ) : Type 0 where
  pub to : (k : ℕ) → NamesLead r v k → NamesLead r n (k + j)
  pub from : (k : ℕ) → NamesLead r n k → (i : ℕ) × (k ≡ i + j) × NamesLead r v i

pub ahead_more : {r : Rows} {n v u j : ℕ} → r.before v ≡ some u → Ahead r n v j → Ahead r n u (j + 1)
ahead_more {r} {n} {v} {u} {j} before a =
    record {
      to = λ k way.
          let same : suc k + j ≡ k + (j + 1) = omega arith in
          subst (NamesLead r n) same (a.to (suc k) (steps_on before way));
      from = λ k way.
          let (i, e, rest) = a.from k way in
          let (h, f, last) = on_steps before rest in
          (h, omega arith, last);
    }

-- the answer where a node is counted
pub follows_counted : {r : Rows} {n v j : ℕ} {counts : List ℕ} → Ahead r n v j → Counted r counts → v < nodes → {k : ℕ}
    → k ≡ get_or counts v 0
    → (k ≡ uncounted → ⊥) → Follows r n (j + k)
follows_counted {r} {n} {v} {j} {counts} a counted near {k} e known =
    let way : NamesLead r v k = subst (NamesLead r v) (sym e) (counted.right v near (λ z. known (e ∙ z))).1 in
    let same : k + j ≡ j + k = omega arith in
    record {
      near = λ short. subst (NamesLead r n) same (a.to k way);
      far = λ long (i, short, other).
          let (h, f, rest) = a.from i other in
          omega (arith, steps_unique rest way);
    }

-- where a node has none before it
pub follows_here : {r : Rows} {n v j : ℕ} → Ahead r n v j → r.before v ≡ none → j ≤ longest_chain → Follows r n j
follows_here {r} {n} {v} {j} a last short =
    let same : 0 + j ≡ j = omega arith in
    record { near = λ e. subst (NamesLead r n) same (a.to 0 (steps_here last)); far = λ long. absurd (omega arith) }

-- and where there are too many
pub follows_far : {r : Rows} {n v j k : ℕ} → Ahead r n v j → longest_chain < j → longest_chain < k → Follows r n k
follows_far a long large =
    record { near = λ short. absurd (omega arith); far = λ _ (i, short, way). let (h, f, rest) = a.from i way in omega arith }

-- ---- counting

-- nothing is counted at first
pub counted_none : (r : Rows) {counts : List ℕ} → length counts ≡ nodes → ((n : ℕ) → n < nodes → get_or counts n 0 ≡ uncounted)
    → Counted r counts
counted_none r size empty = record { size = size; right = λ n small known. absurd (known (empty n small)) }

-- one node more
pub counted_more : {r : Rows} {counts : List ℕ} → Counted r counts → (v k : ℕ) → v < nodes → k ≤ longest_chain → NamesLead r v k
    → Counted r (set counts v k)
counted_more {r} {counts} counted v k near short way =
    record {
      size = length-set counts v k ∙ counted.size;
      right = λ n small known.
          ⊎_elim
          (λ same.
          let here : get_or (set counts v k) n 0 ≡ k =
          ap (λ (i : ℕ). get_or (set counts v k) i 0) same ∙ get_or-set_same counts v k 0 (omega (arith, counted.size)) in
          rw here (short, subst (λ (i : ℕ). NamesLead r i k) (sym same) way))
          (λ other.
          let there : get_or (set counts v k) n 0 ≡ get_or counts n 0 = get_or-set_other counts v n k 0 other in
          rw there (counted.right n small (λ z. known (there ∙ z))))
          (equal_or_not n v);
    }
