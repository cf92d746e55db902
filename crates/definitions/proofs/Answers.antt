-- Refusals in their order: what an answer tells of them, and that the answer is one where document 01 leaves nothing free. Assumes nothing.
use mathlib.Core.Path.{◌≡◌, refl, sym, ap, ap₂, subst, ◌∙◌}
use mathlib.Core.Logic.{inl, inr, ⊎_elim}
use mathlib.Core.Bool.{Bool, true, not, ◌&&◌}
use mathlib.Core.Option.{Option, none, some}
use mathlib.Core.List.{[], List, ◌∷◌, ◌++◌}
use Prim.Native.Nat.{ℕ, suc, ◌-◌, ◌≤◌, ◌<◌, ◌^◌}
use native.Mathlib.Omega.{arith}
use lib.Dec.{eqb}
use lib.ListN.{length, get_or, take, drop}
use lib.Seq.{take_at}
use lib.Ieee.{Float}
use borrow.Author.Tests.{eqb-false, not-true}
use Rattle.definitions.specs.Basics.{Least}
use Rattle.definitions.specs.Limits.{nodes, commands, sheet_length}
use Rattle.definitions.specs.Tree.{Tree, Transition, UsedNode, states}
use Rattle.definitions.specs.Step.{Arrival, step, acting}
use Rattle.definitions.specs.Costs.{LeastCost}
use Rattle.definitions.specs.Sheet.{Rows, rows_of, encode_rows}
use Rattle.definitions.specs.Book.{encode, tree_of, WellFormed}
use Rattle.definitions.specs.Truth.{TrueSheet}
use Rattle.definitions.specs.Load.{load}
use Rattle.definitions.specs.Answer.{Answer, gives, refuses, Refusal, refuse, asks, wants, wants_least, asks_room, InOrder}
use Rattle.definitions.specs.Calls.{RightLengths, book_refusals, sheet_refusals, state_refusals, exit_refusals, step_refusals, plan_refusals}
use Rattle.definitions.specs.Calls.{OpenSays, open_refusals, LoadAnswer, LoadDone, LoadSays, ExitSays, GivesStep, StepSays, GivesPlan, PlanSays}
use Rattle.definitions.specs.Choose.{Choice, first, cheaper_of, part_of, place_of, ChoiceSays, ChooseSays}
use Rattle.definitions.specs.Write.{written, GivesList, WriteSays}
use Rattle.definitions.specs.Open.{open_rows, Opening, fresh, ladder, table, ComesOf}
use Rattle.definitions.specs.Ladder.{ladder_rows, LadderSays}
use Rattle.definitions.specs.Merge.{merge_refusals, MergeSays}
use Rattle.definitions.specs.Import.{Reading, took, waited, Timed, setting_bytes, import_refusals, ImportSays}
use Rattle.definitions.proofs.Options.{none_some, some_same, true_false, and_true}
use Rattle.definitions.proofs.Tables.{comes_one}

-- an answer that gives a value refuses nothing
pub given_refused : {v k : ℕ} {vs : List ℕ} {answer : Answer} → answer ≡ gives (v ∷ vs) → answer ≡ refuses k → ⊥
given_refused {vs = vs} p q =
    let z : suc (length vs) ≡ 0 = ap (λ (a : Answer). length a.values) (sym p ∙ q) in
    omega arith

-- an answer says what it gives
gives_same : {a b : ℕ} → gives (a ∷ []) ≡ gives (b ∷ []) → a ≡ b
gives_same e = ap (λ (a : Answer). get_or a.values 0 0) e

-- a list that is given stands at the front of the output, so many as are told
pub list_given : (bytes out out' : List ℕ) (size : ℕ) → GivesList bytes out (gives (size ∷ [])) out'
    → (size ≡ length bytes) × (take size out' ≡ bytes)
list_given bytes out out' size (inl (short, e)) = absurd (given_refused refl e.0)
list_given bytes out out' size (inr (room, (told, stand))) =
    let same : size ≡ length bytes = gives_same told in
    (same, rw stand (take_at bytes (drop (length bytes) out) size (sym same)))

-- ---- any refusals

-- each refusal's other side
abbrev pub Passed : List Refusal → Type 0
Passed [] = Unit
Passed (refuse k met passed ∷ rest) = passed × Passed rest

-- no refusal is both met and passed
abbrev pub Exclusive : List Refusal → Type 0
Exclusive [] = Unit
Exclusive (refuse k met passed ∷ rest) = (met → passed → ⊥) × Exclusive rest

-- what is said of a refusal, or where the call is done, in other words
pub in_order_map : (rs : List Refusal) {R S : ℕ → Type 0} {D E : Type 0} → ((k : ℕ) → R k → S k) → (D → E) → InOrder rs R D → InOrder rs S E
in_order_map [] f g done = g done
in_order_map (refuse k met passed ∷ rs) f g (inl (holds, said)) = inl (holds, f k said)
in_order_map (refuse k met passed ∷ rs) f g (inr (fails, rest)) = inr (fails, in_order_map rs f g rest)

-- what follows from each refusal and from the call being done
pub in_order_any : (rs : List Refusal) {R : ℕ → Type 0} {D X : Type 0} → ((k : ℕ) → R k → X) → (D → X) → InOrder rs R D → X
in_order_any [] f g done = g done
in_order_any (refuse k met passed ∷ rs) f g (inl (holds, said)) = f k said
in_order_any (refuse k met passed ∷ rs) f g (inr (fails, rest)) = in_order_any rs f g rest

-- the same with each refusal's other side where the call is done
pub in_order_either : (rs : List Refusal) {R : ℕ → Type 0} {D X : Type 0} → ((k : ℕ) → R k → X) → (Passed rs → D → X) → InOrder rs R D → X
in_order_either [] f g done = g tt done
in_order_either (refuse k met passed ∷ rs) f g (inl (holds, said)) = f k said
in_order_either (refuse k met passed ∷ rs) f g (inr (fails, rest)) = in_order_either rs f (λ others. g (fails, others)) rest

-- Refusals and then others: where the first are passed only the others are left, and the others are all; where nothing is left the call is done.
-- What comes of the first, and of the others where they are passed, comes of both
module _ (R : ℕ → Type 0) (D : Type 0) where
  pub in_order_past : (rs ss : List Refusal) → Exclusive rs → Passed rs → InOrder (rs ++ ss) R D → InOrder ss R D
  in_order_past [] ss apart all done = done
  in_order_past (refuse k met passed ∷ rs) ss apart all (inl (holds, said)) = absurd (apart.0 holds all.0)
  in_order_past (refuse k met passed ∷ rs) ss apart all (inr (fails, rest)) = in_order_past rs ss apart.1 all.1 rest

  pub in_order_after : (rs ss : List Refusal) → Passed rs → InOrder ss R D → InOrder (rs ++ ss) R D
  in_order_after [] ss all rest = rest
  in_order_after (refuse k met passed ∷ rs) ss all rest = inr (all.0, in_order_after rs ss all.1 rest)

  pub in_order_all : (rs : List Refusal) → Passed rs → D → InOrder rs R D
  in_order_all [] all done = done
  in_order_all (refuse k met passed ∷ rs) all done = inr (all.0, in_order_all rs all.1 done)

  pub in_order_both : (Q : ℕ → Type 0) (E : Type 0) (rs ss : List Refusal) → ((k : ℕ) → Q k → R k) → (E → InOrder ss R D) → InOrder rs Q E
      → InOrder (rs ++ ss) R D
  in_order_both Q E [] ss f g done = g done
  in_order_both Q E (refuse k met passed ∷ rs) ss f g (inl (holds, said)) = inl (holds, f k said)
  in_order_both Q E (refuse k met passed ∷ rs) ss f g (inr (fails, rest)) = inr (fails, in_order_both Q E rs ss f g rest)

-- whether no refusal has the number 0
abbrev pub numbered : List Refusal → Bool
numbered [] = true
numbered (refuse k met passed ∷ rest) = not (eqb k 0) && numbered rest

-- then no number that is answered is 0
pub in_order_nonzero : (R : ℕ → Type 0) (D : Type 0) (rs : List Refusal) → numbered rs ≡ true → InOrder rs R D → InOrder rs (λ k. (k ≡ 0 → ⊥) × R k) D
in_order_nonzero R D [] nonzero done = done
in_order_nonzero R D (refuse k met passed ∷ rs) nonzero (inl (holds, said)) =
    inl (holds, (eqb-false k 0 (not-true (eqb k 0) (and_true (not (eqb k 0)) (numbered rs) nonzero).0), said))
in_order_nonzero R D (refuse k met passed ∷ rs) nonzero (inr (fails, rest)) =
    inr (fails, in_order_nonzero R D rs (and_true (not (eqb k 0)) (numbered rs) nonzero).1 rest)

-- where no number but 0 is answered each refusal is passed and the call is done
pub in_order_done : (rs : List Refusal) → numbered rs ≡ true → {R : ℕ → Type 0} {D : Type 0} → ((k : ℕ) → (k ≡ 0 → ⊥) → R k → ⊥)
    → InOrder rs R D → Passed rs × D
in_order_done rs nonzero {R} {D} never says =
    in_order_either rs {R = λ k. (k ≡ 0 → ⊥) × R k} {D = D} (λ k said. absurd (never k said.0 said.1)) (λ others done. (others, done))
    (in_order_nonzero R D rs nonzero says)

-- A number that is the first refusal met, or 0: it is a refusal, whatever would come after, or all are passed
module _ (rs : List Refusal) {r : ℕ} (judged : InOrder rs (λ k. r ≡ k) (r ≡ 0)) where
  pub judged_met : (r ≡ 0 → ⊥) → (ss : List Refusal) (R : ℕ → Type 0) (D : Type 0) → R r → InOrder (rs ++ ss) R D
  judged_met nonzero ss R D p = in_order_both R D (λ k. r ≡ k) (r ≡ 0) rs ss (λ k e. subst R e p) (λ e. absurd (nonzero e)) judged

  pub judged_passed : numbered rs ≡ true → r ≡ 0 → Passed rs
  judged_passed nonzero e = (in_order_done rs nonzero {R = λ k. r ≡ k} {D = r ≡ 0} (λ k other at. other (sym at ∙ e)) judged).0

-- refusals and then others exclude their other sides where both do
pub exclusive_both : (rs ss : List Refusal) → Exclusive rs → Exclusive ss → Exclusive (rs ++ ss)
exclusive_both [] ss one two = two
exclusive_both (refuse k met passed ∷ rs) ss one two = (one.0, exclusive_both rs ss one.1 two)

-- two outcomes on one input: both are refused with the same number, or both are done
pub data Alike (R S : ℕ → Type 0) (D E : Type 0) : Type 0 where
  refused : (k : ℕ) → R k → S k → Alike R S D E
  done : D → E → Alike R S D E

pub one_outcome : (rs : List Refusal) → Exclusive rs → {R S : ℕ → Type 0} {D E : Type 0} → InOrder rs R D → InOrder rs S E → Alike R S D E
one_outcome [] apart d e = done d e
one_outcome (refuse k met passed ∷ rs) apart (inl (holds, r)) (inl (too, s)) = refused k r s
one_outcome (refuse k met passed ∷ rs) apart (inl (holds, r)) (inr (fails, rest)) = absurd (apart.0 holds fails)
one_outcome (refuse k met passed ∷ rs) apart (inr (fails, rest)) (inl (holds, s)) = absurd (apart.0 holds fails)
one_outcome (refuse k met passed ∷ rs) apart (inr (fails, d)) (inr (too, e)) = one_outcome rs apart.1 d e

-- and what follows from either
pub both_ways : {R S : ℕ → Type 0} {D E X : Type 0} → Alike R S D E → ((k : ℕ) → R k → S k → X) → (D → E → X) → X
both_ways (refused k r s) f g = f k r s
both_ways (done d e) f g = g d e

-- ---- a call that is lent a book and a sheet: 1, 2 and 3 met or passed, whatever comes after them

module _ (book sheet : List ℕ) (rest : List Refusal) (Refused : ℕ → Type 0) (Done : Type 0) where
  pub lent_length : (RightLengths book sheet → ⊥) → Refused 1 → InOrder (sheet_refusals book sheet rest) Refused Done
  lent_length wrong p = inl (wrong, p)

  pub lent_torn : RightLengths book sheet → (WellFormed book → ⊥) → Refused 2 → InOrder (sheet_refusals book sheet rest) Refused Done
  lent_torn right torn p = inr (right, inl (torn, p))

  pub lent_untrue : WellFormed book → length sheet ≡ sheet_length → (TrueSheet (tree_of book) sheet → ⊥) → Refused 3
      → InOrder (sheet_refusals book sheet rest) Refused Done
  lent_untrue w k untrue p = inr ((w.length, k), inr (w, inl (untrue, p)))

  module _ (w : WellFormed book) (s : TrueSheet (tree_of book) sheet) where
    pub lent_past : InOrder rest Refused Done → InOrder (sheet_refusals book sheet rest) Refused Done
    lent_past i = inr ((w.length, s.length), inr (w, inr (s, i)))

    -- and back
    pub lent_on : InOrder (sheet_refusals book sheet rest) Refused Done → InOrder rest Refused Done
    lent_on (inl (wrong, p)) = absurd (wrong (w.length, s.length))
    lent_on (inr (right, inl (torn, p))) = absurd (torn w)
    lent_on (inr (right, inr (formed, inl (untrue, p)))) = absurd (untrue s)
    lent_on (inr (right, inr (formed, inr (true_sheet, i)))) = i

-- what a refusal says of an answer, and of a list that is then as it was
abbrev Refuses : Answer → ℕ → Type 0
Refuses answer k = answer ≡ refuses k

abbrev pub Keeps : Answer → List ℕ → List ℕ → ℕ → Type 0
Keeps answer list list' k = (answer ≡ refuses k) × (list' ≡ list)

-- Load and Plan on a well-formed book and a true sheet
module _ (book sheet : List ℕ) (w : WellFormed book) (s : TrueSheet (tree_of book) sheet) where
  pub load_done : (stream : List ℕ) {answer : LoadAnswer} {book' sheet' : List ℕ} → LoadSays book sheet stream answer book' sheet'
      → LoadDone (tree_of book) (rows_of sheet) (load (tree_of book) stream) answer book' sheet'
  load_done stream {answer} {book'} {sheet'} =
      lent_on book sheet [] (λ k. (answer ≡ record { bytes = 0; commands = 0; number = k }) × (book' ≡ book) × (sheet' ≡ sheet))
      (LoadDone (tree_of book) (rows_of sheet) (load (tree_of book) stream) answer book' sheet') w s

  pub plan_on : (a b : ℕ) (buffer : List ℕ) {answer : Answer} {buffer' : List ℕ} → PlanSays book sheet a b buffer answer buffer'
      → InOrder (plan_refusals (tree_of book) (rows_of sheet) a b (length buffer)) (Keeps answer buffer buffer')
      (GivesPlan (tree_of book) a b buffer answer buffer')
  plan_on a b buffer {answer} {buffer'} =
      lent_on book sheet (plan_refusals (tree_of book) (rows_of sheet) a b (length buffer)) (Keeps answer buffer buffer')
      (GivesPlan (tree_of book) a b buffer answer buffer') w s

-- ---- Step on a well-formed book

-- what is left of Step's answer at a node in use, for a command: 14, 17, or what it gives; and at a state
abbrev pub StepOn : Tree → ℕ → ℕ → Answer → Type 0
StepOn t s x answer = InOrder (asks 14 (t.below s ≡ none) ∷ wants 17 (step t s x) ∷ []) (Refuses answer) (GivesStep t s x answer)

abbrev pub StepDone : Tree → ℕ → ℕ → Answer → Type 0
StepDone t s x answer = InOrder (wants 17 (step t s x) ∷ []) (Refuses answer) (GivesStep t s x answer)

module _ (book : List ℕ) (w : WellFormed book) {s x : ℕ} (used : UsedNode (tree_of book) s) (range : x < commands) where
  inside : (s < nodes) × (x < commands)
  inside = (w.sound.node_range s used.0 used.1, range)

  pub step_past : {answer : Answer} → StepOn (tree_of book) s x answer → StepSays book s x answer
  step_past i = inr (w.length, inr (w, inr (inside, inr (used, i))))

  -- at a state Step says what is left and nothing else
  module _ (plain : (tree_of book).below s ≡ none) where
    pub done_step : {answer : Answer} → StepDone (tree_of book) s x answer → StepSays book s x answer
    done_step i = step_past (inr (plain, i))

    pub step_done : {answer : Answer} → StepSays book s x answer → StepDone (tree_of book) s x answer
    step_done (inl (wrong, e)) = absurd (wrong w.length)
    step_done (inr (long, inl (torn, e))) = absurd (torn w)
    step_done (inr (long, inr (formed, inl (out, e)))) = absurd (out inside)
    step_done (inr (long, inr (formed, inr (in_range, inl (unused, e))))) = absurd (none_some unused used.1)
    step_done (inr (long, inr (formed, inr (in_range, inr (owned, inl (refined, e)))))) = absurd (refined plain)
    step_done (inr (long, inr (formed, inr (in_range, inr (owned, inr (state, i)))))) = i

-- what it tells of the step
module _ (t : Tree) (s x : ℕ) where
  pub given_step : {e c n : ℕ} → GivesStep t s x (gives (e ∷ c ∷ n ∷ []))
      → (step t s x ≡ some (record { node = e; cost = c })) × (acting t s x ≡ some n)
  given_step (a, moved, by, acts, same) = (
    moved ∙ sym (ap (λ (r : Answer). some (record { node = get_or r.values 0 0; cost = get_or r.values 1 0 })) same),
    acts ∙ sym (ap (λ (r : Answer). some (get_or r.values 2 0)) same),
  )

  pub done_moved : {e c n : ℕ} → StepDone t s x (gives (e ∷ c ∷ n ∷ [])) → step t s x ≡ some (record { node = e; cost = c })
  done_moved (inl (stop, e)) = absurd (given_refused refl e)
  done_moved (inr (there, given)) = (given_step given).0

  pub done_stopped : {k : ℕ} → StepDone t s x (refuses k) → step t s x ≡ none
  done_stopped (inl (stop, e)) = stop
  done_stopped (inr (there, (a, moved, by, acts, same))) = absurd (given_refused same refl)

-- an answer of Step that gives values gives a step, whatever the book
pub step_given : (book : List ℕ) (s x : ℕ) {v : ℕ} {vs : List ℕ} → StepSays book s x (gives (v ∷ vs)) → GivesStep (tree_of book) s x (gives (v ∷ vs))
step_given book s x {v} {vs} =
    in_order_any (book_refusals book (step_refusals (tree_of book) s x)) {R = Refuses (gives (v ∷ vs))} (λ k e. absurd (given_refused refl e)) (λ given. given)

-- ---- the calls' refusals exclude their other sides

-- a value that is wanted is there or not
apart_value : {A : Type 0} (o : Option A) → o ≡ none → (a : A) × (o ≡ some a) → ⊥
apart_value o missing there = none_some missing there.1

-- a least cost is there or not
apart_least : (P : ℕ → Type 0) → Least P none → (c : ℕ) × Least P (some c) → ⊥
apart_least P never there = never there.0 there.1.0

-- there is room or not
apart_room : {needed room : ℕ} → room < needed → needed ≤ room → ⊥
apart_room short enough = omega arith

module _ (book : List ℕ) (rest : List Refusal) (apart : Exclusive rest) where
  pub book_exclusive : Exclusive (book_refusals book rest)
  book_exclusive = (λ bad good. bad good, (λ bad good. bad good, apart))

  pub sheet_exclusive : (sheet : List ℕ) → Exclusive (sheet_refusals book sheet rest)
  sheet_exclusive sheet = (λ bad good. bad good, (λ bad good. bad good, (λ bad good. bad good, apart)))

pub states_exclusive : (t : Tree) (a b : ℕ) (rest : List Refusal) → Exclusive rest → Exclusive (state_refusals t a b rest)
states_exclusive t a b rest apart = (
  λ bad good. bad good,
  (λ unused used. ⊎_elim (λ e. none_some e used.0.1) (λ e. none_some e used.1.1) unused, (λ bad good. bad good, apart)),
)

pub exit_exclusive : (t : Tree) (r : Rows) (m x : ℕ) → Exclusive (exit_refusals t r m x)
exit_exclusive t r m x = (λ bad good. bad good, (apart_value (t.start m), (true_false, (apart_least _, tt))))

pub step_exclusive : (t : Tree) (s x : ℕ) → Exclusive (step_refusals t s x)
step_exclusive t s x = (λ bad good. bad good, (apart_value (t.owner s), (λ bad good. bad good, (apart_value (step t s x), tt))))

pub plan_exclusive : (t : Tree) (r : Rows) (a b room : ℕ) → Exclusive (plan_refusals t r a b room)
plan_exclusive t r a b room = (
  λ stale fresh. true_false stale.1 (fresh stale.0),
  states_exclusive t a b (asks_room 15 (states t - 1) room ∷ wants_least 16 (LeastCost t a b) ∷ []) (apart_room, (apart_least _, tt)),
)

pub open_exclusive : (o : Opening) (book sheet : List ℕ) → Exclusive (open_refusals o book sheet)
open_exclusive fresh book sheet = (λ bad good. bad good, tt)
open_exclusive ladder book sheet = (λ bad good. bad good, tt)
open_exclusive (table rows) book sheet = (λ bad good. bad good, (λ bad good. bad good, tt))

pub open_numbered : (o : Opening) (book sheet : List ℕ) → numbered (open_refusals o book sheet) ≡ true
open_numbered fresh book sheet = refl
open_numbered ladder book sheet = refl
open_numbered (table rows) book sheet = refl

-- ---- the answer is one

-- a least cost is one
least_same : {P : ℕ → Type 0} {c d : ℕ} → Least P (some c) → Least P (some d) → c ≡ d
least_same {P} {c} {d} one two = omega (arith, one.1 d two.0, two.1 c one.0)

-- Open's number and both lists
pub open_one : (o : Opening) (book sheet : List ℕ) {k j : ℕ} {book' book'' sheet' sheet'' : List ℕ} → OpenSays o book sheet k book' sheet'
    → OpenSays o book sheet j book'' sheet'' → (k ≡ j) × (book' ≡ book'') × (sheet' ≡ sheet'')
open_one o book sheet {k} {j} {book'} {book''} {sheet'} {sheet''} one two =
    both_ways
    (one_outcome (open_refusals o book sheet) (open_exclusive o book sheet)
    {R = λ i. (k ≡ i) × (book' ≡ book) × (sheet' ≡ sheet)} {S = λ i. (j ≡ i) × (book'' ≡ book) × (sheet'' ≡ sheet)} one two)
    (λ i (a, b, c) (d, e, f). (a ∙ sym d, b ∙ sym e, c ∙ sym f))
    (λ (t, comes, a, b, c) (u, too, d, e, f).
    let same = comes_one o t u comes too in
    (a ∙ sym d, b ∙ ap encode same ∙ sym e, c ∙ ap (λ (v : Tree). encode_rows (open_rows v)) same ∙ sym f))

-- where it gives 0 both lists are those of the tree that comes of the opening
pub open_done : (o : Opening) (t : Tree) (lent lent_sheet : List ℕ) {book sheet : List ℕ} → ComesOf o t → OpenSays o lent lent_sheet 0 book sheet
    → (book ≡ encode t) × (sheet ≡ encode_rows (open_rows t))
open_done o t lent lent_sheet {book} {sheet} comes says =
    let (passed, (u, too, zero, written, filled)) =
    in_order_done (open_refusals o lent lent_sheet) (open_numbered o lent lent_sheet)
    {R = λ k. (0 ≡ k) × (book ≡ lent) × (sheet ≡ lent_sheet)} (λ k other said. other (sym said.0)) says
    in
    let same = comes_one o u t too comes in
    (written ∙ ap encode same, filled ∙ ap (λ (v : Tree). encode_rows (open_rows v)) same)

-- Merge's number and the third's two lists
pub merge_one : (one_book other_book book sheet : List ℕ) {k j : ℕ} {book' book'' sheet' sheet'' : List ℕ} → MergeSays one_book other_book book sheet k book' sheet'
    → MergeSays one_book other_book book sheet j book'' sheet'' → (k ≡ j) × (book' ≡ book'') × (sheet' ≡ sheet'')
merge_one one_book other_book book sheet {k} {j} {book'} {book''} {sheet'} {sheet''} one two =
    both_ways
    (one_outcome (merge_refusals one_book other_book book sheet)
    (λ bad good. bad good, (λ bad good. bad good, (λ bad good. bad good, (λ bad good. bad good, (λ bad good. bad good, tt)))))
    {R = λ i. (k ≡ i) × (book' ≡ book) × (sheet' ≡ sheet)} {S = λ i. (j ≡ i) × (book'' ≡ book) × (sheet'' ≡ sheet)} one two)
    (λ i (a, b, c) (d, e, f). (a ∙ sym d, b ∙ sym e, c ∙ sym f))
    (λ (t, made, a, b, c) (u, also, d, e, f).
    let same : t ≡ u = some_same made also in
    (a ∙ sym d, b ∙ ap encode same ∙ sym e, c ∙ ap (λ w. encode_rows (open_rows w)) same ∙ sym f))

-- Load's answer and book; which names its refreshes write is free
pub load_one : (book sheet stream : List ℕ) {answer other : LoadAnswer} {book' book'' sheet' sheet'' : List ℕ}
    → LoadSays book sheet stream answer book' sheet' → LoadSays book sheet stream other book'' sheet'' → (answer ≡ other) × (book' ≡ book'')
load_one book sheet stream {answer} {other} {book'} {book''} {sheet'} {sheet''} one two =
    both_ways
    (one_outcome (sheet_refusals book sheet []) (sheet_exclusive book [] tt sheet)
    {R = λ k. (answer ≡ record { bytes = 0; commands = 0; number = k }) × (book' ≡ book) × (sheet' ≡ sheet)}
    {S = λ k. (other ≡ record { bytes = 0; commands = 0; number = k }) × (book'' ≡ book) × (sheet'' ≡ sheet)} one two)
    (λ i (a, b, c) (d, e, f). (a ∙ sym d, b ∙ sym e)) (λ d e. (d.answered ∙ sym e.answered, d.book ∙ sym e.book))

-- Exit's answer
pub exit_one : (book sheet : List ℕ) (m x : ℕ) {answer other : Answer} → ExitSays book sheet m x answer → ExitSays book sheet m x other
    → answer ≡ other
exit_one book sheet m x {answer} {other} one two =
    let rest = exit_refusals (tree_of book) (rows_of sheet) m x in
    both_ways
    (one_outcome (sheet_refusals book sheet rest) (sheet_exclusive book rest (exit_exclusive (tree_of book) (rows_of sheet) m x) sheet)
    {R = Refuses answer} {S = Refuses other} one two)
    (λ i a b. a ∙ sym b) (λ (c, least, a) (d, too, b). a ∙ ap (λ (k : ℕ). gives (k ∷ [])) (least_same least too) ∙ sym b)

-- Step's answer
pub given_one : (t : Tree) (s x : ℕ) {answer other : Answer} → GivesStep t s x answer → GivesStep t s x other → answer ≡ other
given_one t s x (c, moved, n, acts, a) (d, too, m, as_well, b) =
    a ∙ ap₂ (λ (k : Arrival) (j : ℕ). gives (k.node ∷ k.cost ∷ j ∷ [])) (some_same moved too) (some_same acts as_well) ∙ sym b

pub step_one : (book : List ℕ) (s x : ℕ) {answer other : Answer} → StepSays book s x answer → StepSays book s x other → answer ≡ other
step_one book s x {answer} {other} one two =
    let rest = step_refusals (tree_of book) s x in
    both_ways
    (one_outcome (book_refusals book rest) (book_exclusive book rest (step_exclusive (tree_of book) s x)) {R = Refuses answer} {S = Refuses other}
    one two)
    (λ i a b. a ∙ sym b) (given_one (tree_of book) s x)

-- Plan's number, and the cost that it gives; which of the cheapest lists is given, and so how many commands, is free
pub data SamePlan (answer other : Answer) : Type 0 where
  no_plan : (k : ℕ) → answer ≡ refuses k → other ≡ refuses k → SamePlan answer other
  same_cost : (cost count number : ℕ) → answer ≡ gives (cost ∷ count ∷ []) → other ≡ gives (cost ∷ number ∷ []) → SamePlan answer other

pub plan_one : (book sheet : List ℕ) (a b : ℕ) (buffer : List ℕ) {answer other : Answer} {buffer' buffer'' : List ℕ}
    → PlanSays book sheet a b buffer answer buffer' → PlanSays book sheet a b buffer other buffer'' → SamePlan answer other
plan_one book sheet a b buffer {answer} {other} {buffer'} {buffer''} one two =
    let rest = plan_refusals (tree_of book) (rows_of sheet) a b (length buffer) in
    both_ways
    (one_outcome (sheet_refusals book sheet rest)
    (sheet_exclusive book rest (plan_exclusive (tree_of book) (rows_of sheet) a b (length buffer)) sheet)
    {R = Keeps answer buffer buffer'} {S = Keeps other buffer buffer''} one two)
    (λ i (p, untouched) (q, too). no_plan i p q)
    (λ (c, xs, plan, p, said) (d, ys, too, q, same).
    same_cost c (length xs) (length ys) p
    (q ∙ ap (λ (k : ℕ). gives (k ∷ length ys ∷ [])) (least_same too.least plan.least)))

-- an answer that gives bytes, and the output
list_one : (xs ys out : List ℕ) {answer other : Answer} {out' out'' : List ℕ} → xs ≡ ys → GivesList xs out answer out' → GivesList ys out other out''
    → (answer ≡ other) × (out' ≡ out'')
list_one xs ys out {answer} {other} {out'} {out''} same one two =
    both_ways
    (one_outcome (asks_room 15 (length ys) (length out) ∷ []) (apart_room, tt) {R = Keeps answer out out'} {S = Keeps other out out''} (rw same at one) two)
    (λ i (a, b) (c, d). (a ∙ sym c, b ∙ sym d)) (λ (a, b) (c, d). (a ∙ sym c, b ∙ sym d))

-- Write's answer and output
pub write_one : (book out : List ℕ) {answer other : Answer} {out' out'' : List ℕ} → WriteSays book out answer out' → WriteSays book out other out''
    → (answer ≡ other) × (out' ≡ out'')
write_one book out {answer} {other} {out'} {out''} one two =
    both_ways
    (one_outcome (book_refusals book []) (book_exclusive book [] tt) {R = Keeps answer out out'} {S = Keeps other out out''} one two)
    (λ i (a, b) (c, d). (a ∙ sym c, b ∙ sym d)) (list_one (written (tree_of book)) (written (tree_of book)) out refl)

-- the generator's answer and output (document 02, W-208)
pub ladder_one : (depth : ℕ) (out : List ℕ) {answer other : Answer} {out' out'' : List ℕ} → LadderSays depth out answer out' → LadderSays depth out other out''
    → (answer ≡ other) × (out' ≡ out'')
ladder_one depth out {answer} {other} {out'} {out''} one two =
    let rows = ladder_rows (2 ^ depth - 1) in
    both_ways
    (one_outcome (asks 24 ((1 ≤ depth) × (depth ≤ 6)) ∷ []) (λ bad good. bad good, tt) {R = Keeps answer out out'} {S = Keeps other out out''} one two)
    (λ i (a, b) (c, d). (a ∙ sym c, b ∙ sym d)) (list_one rows rows out refl)

-- a timing gives one transition
pub timed_same : (reading : Reading) (dead : Float) (v : ℕ) {o p : Option Transition} → Timed reading dead v o → Timed reading dead v p → o ≡ p
timed_same (took seconds) dead v (c, least, is) (d, too, as_well) =
    is ∙ ap (λ (k : ℕ). some (record { target = v; cost = k })) (least_same least too) ∙ sym as_well
timed_same (waited seconds) dead v gone too = gone ∙ sym too

-- the import's answer and output
pub import_one : (n x v : ℕ) (reading : Reading) (dead : Float) (out : List ℕ) {answer other : Answer} {out' out'' : List ℕ}
    → ImportSays n x v reading dead out answer out' → ImportSays n x v reading dead out other out'' → (answer ≡ other) × (out' ≡ out'')
import_one n x v reading dead out {answer} {other} {out'} {out''} one two =
    both_ways
    (one_outcome (import_refusals n x v reading dead)
    (λ bad good. bad good, (λ bad good. bad good, tt)) {R = Keeps answer out out'} {S = Keeps other out out''} one two)
    (λ i (a, b) (c, d). (a ∙ sym c, b ∙ sym d))
    (λ (o, timed, given) (p, too, as_well). list_one (setting_bytes n x o) (setting_bytes n x p) out (ap (setting_bytes n x) (timed_same reading dead v timed too)) given as_well)

-- Choose's choice and number, and so the part, its place and the word
pub choice_one : (book : List ℕ) (a b : ℕ) (one two : List ℕ) {choice other : Choice} {k j : ℕ} → ChoiceSays book a b one two choice k
    → ChoiceSays book a b one two other j → (choice ≡ other) × (k ≡ j)
choice_one book a b one two {choice} {other} {k} {j} says too =
    let t = tree_of book in
    let last = wants 18 (cheaper_of t a b one two) ∷ [] in
    let rest = state_refusals t a b last in
    both_ways
    (one_outcome (book_refusals book rest)
    (book_exclusive book rest (states_exclusive t a b last (apart_value (cheaper_of t a b one two), tt)))
    {R = λ i. (choice ≡ first 0) × (k ≡ i)} {S = λ i. (other ≡ first 0) × (j ≡ i)} says too)
    (λ i (p, q) (r, s). (p ∙ sym r, q ∙ sym s)) (λ (p, q) (r, s). (some_same p r, q ∙ sym s))

pub choose_one : {Place : Type 0} (book : List ℕ) (a b : ℕ) (one two : List ℕ) (p q : Place) {part other : List ℕ} {k j : ℕ} {place elsewhere : Place}
    → ChooseSays book a b one two part k p q place → ChooseSays book a b one two other j p q elsewhere
    → (part ≡ other) × (place ≡ elsewhere) × (k ≡ j)
choose_one book a b one two p q (choice, says, part, place) (other, too, part_too, place_too) =
    let (same, number) = choice_one book a b one two says too in (
      part ∙ ap (λ (c : Choice). part_of c one two) same ∙ sym part_too,
      place ∙ ap (λ (c : Choice). place_of c p q) same ∙ sym place_too,
      number,
    )
