-- States counted and stale machines looked for along the list of all numbers; what is known where no refusal is met. Assumes nothing.
use mathlib.Core.Path.{◌≡◌, refl, sym, ap, ◌∙◌}
use mathlib.Core.Logic.{⊎_elim}
use mathlib.Core.Bool.{Bool, true, false, cond}
use mathlib.Core.List.{[], List, map, map-id}
use Prim.Native.Nat.{ℕ, zero, suc, ◌+◌, ◌<◌}
use native.Mathlib.Omega.{arith}
use lib.ListN.{length}
use Rattle.std.proofs.Common.{Result}
use Rattle.std.specs.List.{count_by, list_any, range_with_len}
use Rattle.std.proofs.lemmas.List.FromFn.{length-range_with_len, get_or-range_with_len, sum_by-map-range_with_len_more}
use Rattle.std.proofs.lemmas.List.Folds.{Any-from_list_any, list_any_at}
use Rattle.definitions.specs.Basics.{count_below}
use Rattle.definitions.specs.Limits.{machines, nodes}
use Rattle.definitions.specs.Tree.{Tree, is_state, states}
use Rattle.definitions.specs.Sheet.{rows_of}
use Rattle.definitions.proofs.Options.{decided}
use Rattle.definitions.proofs.Answers.{Passed, judged_passed}
use Rattle.book.specs.Decides.{Decides}
use Rattle.book.proofs.Decide.{decides_by}
use Rattle.refusals.specs.Meaning.{status_of, Judged}
use Rattle.refusals.specs.declared.Refusal.{Refusal}
use Rattle.sheet.proofs.Reading.{rows_of_read}
use Rattle.readiness.specs.Judged.{between_refusals, Ready}

-- ---- states

-- the numbers under k that pass a test, counted along their list
count_by_below : (p : ℕ → Bool) (k : ℕ) → count_by p (map (λ (i : ℕ). i) (range_with_len 0 k)) ≡ count_below k p
unfolding count_below
count_by_below p zero = refl
count_by_below p (suc k) =
    let next : suc k ≡ k + 1 = omega arith in
    ap (λ (n : ℕ). count_by p (map (λ (i : ℕ). i) (range_with_len 0 n))) next
    ∙ sum_by-map-range_with_len_more (λ (i : ℕ). cond {A = ℕ} (p i) 1 0) (λ (i : ℕ). i) 0 k k (omega arith)
    ∙ omega (arith, count_by_below p k)

pub count_all : (t : Tree) → count_by (is_state t) (range_with_len 0 nodes) ≡ states t
unfolding states
count_all t = ap (count_by (is_state t)) (sym (map-id (range_with_len 0 nodes))) ∙ count_by_below (is_state t) nodes

-- ---- stale machines

-- a machine is stale exactly where one of the 64 is
pub decides_stale : (sheet : List ℕ) {r : Bool} → r ≡ list_any (rows_of sheet).stale (range_with_len 0 machines)
    → Decides r ((m : ℕ) × ((rows_of sheet).stale m ≡ true))
decides_stale sheet {r} e =
    decides_by r
    (λ yes. let (k, m, inside, at, stale) = Any-from_list_any (rows_of sheet).stale (range_with_len 0 machines) (sym e ∙ yes) in (m, stale))
    (λ (m, stale). e ∙ there m stale ((rows_of_read sheet).stale m stale))
  where
    there : (m : ℕ) → (rows_of sheet).stale m ≡ true → m < machines → list_any (rows_of sheet).stale (range_with_len 0 machines) ≡ true
    there m stale small =
        let long : m < length (range_with_len 0 machines) = omega (arith, small, length-range_with_len 0 machines) in
        list_any_at (rows_of sheet).stale (range_with_len 0 machines) m 0 long
        (ap (rows_of sheet).stale (get_or-range_with_len 0 machines m 0 small ∙ omega arith) ∙ stale)

-- none is where none of them is
pub none_stale_lem : (sheet : List ℕ) → ((p : ℕ) × ((rows_of sheet).stale p ≡ true) → ⊥) → (p : ℕ) → (rows_of sheet).stale p ≡ false
none_stale_lem sheet never p = ⊎_elim (λ stale. absurd (never (p, stale))) (λ e. e) (decided ((rows_of sheet).stale p))

-- ---- what is judged

-- where nothing is refused all refusals are passed, and what they ask is there
pub ready : {A : Type 0} {book sheet : List ℕ} {a b : ℕ} (r : Result A Refusal) → Judged (between_refusals book sheet a b []) r → status_of r ≡ 0
    → Passed (between_refusals book sheet a b []) × Ready book sheet a b
ready {book = book} {sheet = sheet} {a = a} {b = b} r judged e =
    let all = judged_passed (between_refusals book sheet a b []) judged refl e in
    let (lengths, (formed, (true_sheet, (fresh, (range, (used, (plain, done))))))) = all in (
      all,
      record {
        formed = formed;
        true_sheet = true_sheet;
        fresh = fresh;
        used_a = used.0;
        plain_a = plain.0;
        used_b = used.1;
        plain_b = plain.1;
      },
    )
