-- Demand 3: after an opening, any Loads and a refresh the lists hold the expected station, and Plan's answer is a good plan or a true "no way".
-- Assumes nothing.
use mathlib.Core.Path.{◌≡◌, refl, sym, ◌∙◌, ap, subst}
use mathlib.Core.Logic.{inl, inr, ⊎_elim}
use mathlib.Core.Bool.{true, not}
use mathlib.Core.Option.{none, some}
use mathlib.Core.List.{[], List, ◌∷◌}
use Prim.Native.Nat.{ℕ, ◌<◌}
use native.Mathlib.Omega.{arith}
use lib.ListN.{length, take, drop}
use lib.Seq.{take_at}
use borrow.Author.Tests.{not-true}
use Rattle.definitions.specs.Basics.{as_it_is, All, is_some}
use Rattle.definitions.specs.Limits.{nodes, plan_buffer}
use Rattle.definitions.specs.Tree.{Tree, Sound, is_state}
use Rattle.definitions.specs.Book.{encode, tree_of, WellFormed}
use Rattle.definitions.specs.Sheet.{Rows, rows_of}
use Rattle.definitions.specs.Truth.{TrueSheet}
use Rattle.definitions.specs.Stream.{refresh, operand_length, decode}
use Rattle.definitions.specs.Edit.{refusal}
use Rattle.definitions.specs.Load.{Outcome, load, stopped, after, expected}
use Rattle.definitions.specs.Open.{Opening, ComesOf}
use Rattle.definitions.specs.Answer.{Answer, refuses, InOrder}
use Rattle.definitions.specs.Calls.{OpenSays, LoadAnswer, LoadDone, LoadSays, GivesPlan, plan_refusals, PlanSays}
use Rattle.definitions.specs.ByCommand.{by_node}
use Rattle.definitions.specs.Demand.{Bytes, Loads, refresh_alone, with_refresh, GoodPlan, Demand3}
use Rattle.definitions.proofs.Options.{none_some, true_false, is_some_true, is_some_false, and_true}
use Rattle.definitions.proofs.Answers.{load_done, plan_on, open_done}
use Rattle.definitions.proofs.Words.{tree_of_encode, encode_well_formed}
use Rattle.definitions.proofs.Streams.{next_takes, next_nothing, load_taken, load_end, read_whole}
use Rattle.definitions.proofs.Kept.{load_sound, expected_sound}
use Rattle.definitions.proofs.Opened.{comes_sound}
use Rattle.definitions.proofs.Simple.{states_bound}
use Rattle.rows.proofs.Open.{open_true}
use Rattle.rows.proofs.Loaded.{commands_true}
use Rattle.wholerun.specs.WholeRun.{PlanReady, AnswersFor, Demanded, RunAnswered}
use Rattle.wholerun.proofs.TrueWords.{true_words, true_marks}

-- both lists hold this tree, which is sound
pub record Carried (t : Tree) (book sheet : List ℕ) : Type 0 where
  pub written : book ≡ encode t
  pub sound : Sound t
  pub filled : TrueSheet t sheet

-- ---- an opening

pub opened : (o : Opening) (t : Tree) → ComesOf o t → (lent lent_sheet : List ℕ) {book sheet : List ℕ} → OpenSays o lent lent_sheet 0 book sheet
    → Carried t book sheet
opened o t comes lent lent_sheet opening =
    let sound = comes_sound o t comes in
    let (written, filled) = open_done o t lent lent_sheet comes opening in
    record { written = written; sound = sound; filled = rw filled (true_words sound (open_true sound)) }

-- ---- a Load

-- a refresh alone is one command
load_refresh : (t : Tree) → load t refresh_alone ≡ after refresh 1 (stopped 0 t)
unfolding operand_length decode refusal
load_refresh t =
    let one = next_takes t refresh_alone (read_whole 0x18 [] {k = 0} refl (omega arith) refl) refl in
    load_taken t refresh_alone one ∙ ap (after refresh 1) (load_end t [] (next_nothing t))

module _ {t : Tree} {book sheet : List ℕ} (kept : Carried t book sheet) where
  -- the lists are a well-formed book of this tree
  formed : WellFormed book
  formed = rw kept.written (encode_well_formed t kept.sound)

  held : tree_of book ≡ t
  held = ap tree_of kept.written ∙ tree_of_encode t kept.sound

  true_sheet : TrueSheet (tree_of book) sheet
  true_sheet = rw held kept.filled

  -- Load does its commands
  does : (stream : List ℕ) {book' sheet' : List ℕ} {answer : LoadAnswer} → LoadSays book sheet stream answer book' sheet'
      → LoadDone t (rows_of sheet) (load t stream) answer book' sheet'
  does stream says = rw held at (load_done book sheet formed true_sheet stream says)

  -- it leaves lists that hold the tree after the stream
  pub loaded : (stream : List ℕ) → Bytes stream → {book' sheet' : List ℕ} {answer : LoadAnswer}
      → LoadSays book sheet stream answer book' sheet' → Carried (load t stream).tree book' sheet'
  loaded stream bytes says =
      let done = does stream says in
      let sound = load_sound kept.sound stream bytes in
      record {
        written = done.book;
        sound = sound;
        filled = rw done.sheet (true_words sound (commands_true kept.sound kept.filled.rows stream bytes done.done));
      }

  -- a refresh alone leaves the same tree, and nothing stale
  pub refresh_done : {book' sheet' : List ℕ} {answer : LoadAnswer} → LoadSays book sheet refresh_alone answer book' sheet' → PlanReady t book' sheet'
  refresh_done says =
      let done = rw (load_refresh t) at (does refresh_alone says) in
      let (mid, fills, same) = done.done in
      let rows = rw (← same) at fills.filled in
      record {
        written = done.book;
        filled = rw done.sheet (true_words kept.sound rows);
        fresh = λ m. ap (λ (ws : List ℕ). (rows_of ws).stale m) done.sheet ∙ true_marks kept.sound rows m ∙ ap (λ (r : Rows). r.stale m) same ∙ fills.fresh m;
      }

-- ---- all Loads, each on what the one before left, with a refresh alone as the last

-- their streams are streams of bytes
pub refreshed_bytes : (streams : List (List ℕ)) → All Bytes streams → All Bytes (with_refresh streams)
refreshed_bytes [] bytes = ((omega arith, tt), tt)
refreshed_bytes (stream ∷ streams) bytes = (bytes.0, refreshed_bytes streams bytes.1)

loads_refreshed : {t : Tree} {book sheet book' sheet' : List ℕ} (streams : List (List ℕ)) → Carried t book sheet → All Bytes streams
    → Loads as_it_is book sheet (with_refresh streams) book' sheet' → PlanReady (expected t (with_refresh streams)) book' sheet'
unfolding expected
loads_refreshed {t} {book' = book'} {sheet' = sheet'} [] kept bytes (Loads.then says Loads.done) =
    subst (λ (o : Outcome). PlanReady o.tree book' sheet') (sym (load_refresh t)) (refresh_done kept says)
loads_refreshed {t} (stream ∷ streams) kept bytes (Loads.then says rest) =
    loads_refreshed {t = (load t stream).tree} streams (loaded kept stream bytes.0 says) bytes.1 rest

-- from a holding just opened
pub prepared : (o : Opening) (streams : List (List ℕ)) → All Bytes streams → (lent lent_sheet : List ℕ) {opened_book opened_sheet book sheet : List ℕ}
    → OpenSays o lent lent_sheet 0 opened_book opened_sheet → Loads as_it_is opened_book opened_sheet (with_refresh streams) book sheet
    → (t : Tree) → ComesOf o t → PlanReady (expected t (with_refresh streams)) book sheet
prepared o streams bytes lent lent_sheet opening calls t comes = loads_refreshed streams (opened o t comes lent lent_sheet opening) bytes calls

-- ---- the Plan

-- on such lists, with 255 bytes, Plan refuses 6, 7, 14 or 16, or gives a plan
answers : {t : Tree} → Sound t → {book sheet : List ℕ} → PlanReady t book sheet → (a b : ℕ) {buffer : List ℕ} → length buffer ≡ plan_buffer
    → {answer : Answer} {buffer' : List ℕ} → PlanSays book sheet a b buffer answer buffer' → AnswersFor t a b buffer answer buffer'
answers {t} sound {book} {sheet} ready a b {buffer} room {answer} {buffer'} says =
    go (rw (held kept) at (plan_on book sheet (formed kept) (true_sheet kept) a b buffer says))
  where
    kept : Carried t book sheet
    kept = record { written = ready.written; sound = sound; filled = ready.filled }

    go : InOrder (plan_refusals t (rows_of sheet) a b (length buffer)) (λ k. (answer ≡ refuses k) × (buffer' ≡ buffer)) (GivesPlan t a b buffer answer buffer')
        → AnswersFor t a b buffer answer buffer'
    go (inl stale) = absurd (true_false stale.0.1 (ready.fresh stale.0.0))
    go (inr (fresh, inl out)) = inl out
    go (inr (fresh, inr (range, inl unused))) = inr (range, inl unused)
    go (inr (fresh, inr (range, inr (used, inl refined)))) = inr (range, inr (used, inl refined))
    go (inr (fresh, inr (range, inr (used, inr (plain, inl short))))) = absurd (omega (arith, short.0, room, states_bound t))
    go (inr (fresh, inr (range, inr (used, inr (plain, inr (long, rest)))))) = inr (range, inr (used, inr (plain, rest)))

-- a state is a node in use, and plain
state_parts : {t : Tree} → Sound t → (n : ℕ) → is_state t n ≡ true → (n < nodes) × ((m : ℕ) × (t.owner n ≡ some m)) × (t.below n ≡ none)
state_parts {t} sound n e =
    let (used, plain) = and_true (is_some (t.owner n)) (not (is_some (t.below n))) e in
    let (m, own) = is_some_true (t.owner n) used in
    (sound.node_range n m own, (m, own), is_some_false (t.below n) (not-true (is_some (t.below n)) plain))

-- a plan at the front of a buffer is a good one
good : {t : Tree} {a b : ℕ} {buffer : List ℕ} {answer : Answer} {buffer' : List ℕ} → GivesPlan t a b buffer answer buffer'
    → GoodPlan t a b answer buffer'
good {t} {a} {b} {buffer} {answer} {buffer'} (cost, list, plan, stated, written) =
    let front : take (length list) buffer' ≡ list = rw written (take_at list (drop (length list) buffer) (length list) refl) in
    record {
      cost = cost;
      count = length list;
      stated = stated;
      fits = ap length front;
      moves = rw front plan.moves;
      simple = rw front plan.simple;
      least = λ xs c moves. plan.least.1 c (xs, moves);
    }

-- for states none of 6, 7 and 14 holds
demanded : {t : Tree} → Sound t → (a b : ℕ) {buffer : List ℕ} {answer : Answer} {buffer' : List ℕ}
    → AnswersFor t a b buffer answer buffer' → Demanded t a b answer buffer'
demanded sound a b (inl refused) at_a at_b = absurd (refused.0 ((state_parts sound a at_a).0, (state_parts sound b at_b).0))
demanded sound a b (inr (range, inl refused)) at_a at_b =
    absurd
    (⊎_elim (λ unused. none_some unused (state_parts sound a at_a).1.1) (λ unused. none_some unused (state_parts sound b at_b).1.1)
    refused.0)
demanded sound a b (inr (range, inr (used, inl refused))) at_a at_b =
    absurd (refused.0 ((state_parts sound a at_a).2, (state_parts sound b at_b).2))
demanded sound a b (inr (range, inr (used, inr (plain, inl refused)))) at_a at_b =
    inr (record { stated = refused.1.0; stuck = λ xs c moves. refused.0 c (xs, moves) })
demanded sound a b (inr (range, inr (used, inr (plain, inr (way, done))))) at_a at_b = inl (good done)

-- so the answer is what demand 3 asks
pub answered : {t : Tree} → Sound t → {book sheet : List ℕ} → PlanReady t book sheet → (a b : ℕ) {buffer : List ℕ} → length buffer ≡ plan_buffer
    → {answer : Answer} {buffer' : List ℕ} → PlanSays book sheet a b buffer answer buffer' → RunAnswered t a b buffer answer book sheet buffer'
answered sound ready a b room says =
    let given = answers sound ready a b room says in
    record { ready = ready; answers = given; demanded = demanded sound a b given }

-- ---- demand 3

-- Loads on lent books are Loads on the books turned by node
loads_turned : (turn : List ℕ → List ℕ) {book sheet book' sheet' : List ℕ} {streams : List (List ℕ)} → Loads turn book sheet streams book' sheet'
    → Loads as_it_is (turn book) sheet streams (turn book') sheet'
loads_turned turn Loads.done = Loads.done
loads_turned turn (Loads.then says rest) = Loads.then says (loads_turned turn rest)

-- however the books are turned: what is promised is said of them by node
on_turned : (turn : List ℕ → List ℕ) → Demand3 turn
on_turned turn o t comes streams bytes lent lent_sheet opened_book opened_sheet book sheet opening calls a b at_a at_b buffer room answer buffer' says =
    (answered (expected_sound (comes_sound o t comes) (with_refresh streams) (refreshed_bytes streams bytes))
    (prepared o streams bytes (turn lent) lent_sheet opening (loads_turned turn calls) t comes) a b room says).demanded at_a at_b

pub demand_3 : Demand3 as_it_is
demand_3 = on_turned as_it_is

-- and on books by command (document 02, W-209)
pub demand_3_by_command : Demand3 by_node
demand_3_by_command = on_turned by_node
