-- W-203's claim: what the import wrote is loaded as the edit that leaves the timing's transition. Assumes nothing.
use mathlib.Core.Path.{◌≡◌, refl, sym, ap, ◌∙◌}
use mathlib.Core.Logic.{inl, inr}
use mathlib.Core.Bool.{true, false}
use mathlib.Core.Option.{Option, none, some}
use mathlib.Core.List.{[], List, ◌∷◌, append-nil}
use Prim.Native.Nat.{ℕ, ◌-◌, ◌≤◌}
use native.Mathlib.Nat.{add-zero}
use native.Mathlib.Omega.{arith}
use lib.ListN.{length, take}
use lib.IntN.{pos, negsuc}
use lib.Ieee.{Float, nan, fin, sub}
use Rattle.definitions.specs.Limits.{costs}
use Rattle.definitions.specs.Tree.{Tree, Transition}
use Rattle.definitions.specs.Book.{encode, tree_of, WellFormed}
use Rattle.definitions.specs.Sheet.{rows_of, encode_rows}
use Rattle.definitions.specs.Truth.{TrueSheet}
use Rattle.definitions.specs.Stream.{Edit, edit}
use Rattle.definitions.specs.Edit.{refusal, with_transition, edited, edited_rows}
use Rattle.definitions.specs.Load.{after, load}
use Rattle.definitions.specs.Answer.{gives}
use Rattle.definitions.specs.Calls.{LoadAnswer, LoadDone, LoadSays}
use Rattle.definitions.specs.Import.{Reading, took, waited, difference, Admitted, Timed, setting, setting_bytes, ImportSays, Placed, ImportLoads}
use Rattle.definitions.proofs.Words.{tree_of_encode}
use Rattle.definitions.proofs.Commands.{arrow_taken, clear_taken, both_here}
use Rattle.definitions.proofs.Streams.{next_nothing, load_end}
use Rattle.definitions.proofs.Spelling.{Spells, spells_arrow, spells_clear, whole, TakenAs, load_step}
use Rattle.definitions.proofs.Kept.{CostInRange, edited_sound}
use Rattle.definitions.proofs.Answers.{given_refused, list_given, load_done}

-- ---- loading the edit that sets a transition

-- its bytes are read as it
spells_setting : (n x : ℕ) (o : Option Transition) → Spells (edit (setting n x o)) (setting_bytes n x o)
spells_setting n x (some a) = spells_arrow n x a.target a.cost
spells_setting n x none = spells_clear n x

-- it leaves the transition
sets_transition : (t : Tree) (n x : ℕ) (o : Option Transition) → (edited t (setting n x o)).transition n x ≡ o
unfolding edited with_transition
sets_transition t n x (some a) = both_here t.transition n x (some a)
sets_transition t n x none = both_here t.transition n x none

-- one command alone
load_alone : {t : Tree} {e : Edit} {bytes : List ℕ} → TakenAs t e bytes
    → load t bytes ≡ whole bytes (edit e ∷ []) (edited t e)
load_alone {t} {e} {bytes} s =
    let done = load_step s [] ∙ ap (after (edit e) (length bytes)) (load_end (edited t e) [] (next_nothing (edited t e))) in
    rw (append-nil, add-zero) at done

-- what loading it leaves
module _ (book sheet : List ℕ) (w : WellFormed book) (s : TrueSheet (tree_of book) sheet) where
  setting_loads : (n x : ℕ) (o : Option Transition) → CostInRange (setting n x o) → refusal (tree_of book) (edit (setting n x o)) ≡ 0
      → {answer : LoadAnswer} {book' sheet' : List ℕ} → LoadSays book sheet (setting_bytes n x o) answer book' sheet'
      → (answer ≡ record { bytes = length (setting_bytes n x o); commands = 1; number = 0 }) × ((tree_of book').transition n x ≡ o)
      × (book' ≡ encode (edited (tree_of book) (setting n x o)))
      × (sheet' ≡ encode_rows (edited_rows (tree_of book) (setting n x o) (rows_of sheet)))
  setting_loads n x o range ok {answer} {book'} {sheet'} says =
      let t = tree_of book in
      let e = setting n x o in
      let alone = load_alone {bytes = setting_bytes n x o} (record { spells = spells_setting n x o; taken = ok }) in
      let done : LoadDone t (rows_of sheet) (whole (setting_bytes n x o) (edit e ∷ []) (edited t e)) answer book' sheet' =
      rw alone at (load_done book sheet w s (setting_bytes n x o) says) in
      let back : tree_of book' ≡ edited t e = ap tree_of done.book ∙ tree_of_encode (edited t e) (edited_sound w.sound e range ok) in
      let (mid, here, last) = done.done in (
        done.answered,
        ap (λ (u : Tree). u.transition n x) back ∙ sets_transition t n x o,
        done.book,
        done.sheet ∙ ap encode_rows (last ∙ here),
      )

-- ---- what the import wrote

-- a success: the bytes are those of the timing's transition, and on tree t the edit that sets it is taken
record Wrote (n x v size : ℕ) (reading : Reading) (dead : Float) (out' : List ℕ) (t : Tree) : Type 0 where
  pub transition : Option Transition
  pub timed : Timed reading dead v transition
  pub counted : size ≡ length (setting_bytes n x transition)
  pub bytes : take size out' ≡ setting_bytes n x transition
  pub range : CostInRange (setting n x transition)
  pub taken : refusal t (edit (setting n x transition)) ≡ 0

wrote : (n x v size : ℕ) (reading : Reading) (dead : Float) (out out' : List ℕ) → ImportSays n x v reading dead out (gives (size ∷ [])) out'
    → (t : Tree) → Placed t n v reading → Wrote n x v size reading dead out' t
wrote n x v size reading dead out out' (inl (bad, e)) t placed = absurd (given_refused refl e.0)
wrote n x v size reading dead out out' (inr (ranges, inl (unfit, e))) t placed = absurd (given_refused refl e.0)
wrote n x v size (waited seconds) dead out out' (inr ((node, command, target), inr (fit, (o, gone, given)))) t placed =
    let (counted, bytes) = list_given (setting_bytes n x none) out out' size (rw gone at given) in
    record {
      transition = none;
      timed = refl;
      counted = counted;
      bytes = bytes;
      range = tt;
      taken = clear_taken (record { node_range = node; command_range = command; node_used = placed });
    }
wrote n x v size (took seconds) dead out out' (inr ((node, command, target), inr (fit, (o, (c, least, is), given)))) t ((m, own), beside) =
    let a : Transition = record { target = v; cost = c } in
    let (counted, bytes) = list_given (setting_bytes n x (some a)) out out' size (rw is at given) in
    let small : c ≤ costs - 1 = least.1 (costs - 1) fit.3 in
    record {
      transition = some a;
      timed = (c, least, refl);
      counted = counted;
      bytes = bytes;
      range = omega arith;
      taken = arrow_taken (record { node_range = node; command_range = command; target_range = target; one_machine = (m, own, beside ∙ own) }) c;
    }

pub import_loads : ImportLoads
import_loads n x v size reading dead out out' book sheet book' sheet' answer says formed true_sheet placed load_says =
    let r : Wrote n x v size reading dead out' (tree_of book) = wrote n x v size reading dead out out' says (tree_of book) placed in
    let loaded = setting_loads book sheet formed true_sheet n x r.transition r.range r.taken (rw r.bytes at load_says) in
    let answered : answer ≡ record { bytes = size; commands = 1; number = 0 } =
    loaded.0 ∙ ap (λ (k : ℕ). record { bytes = k; commands = 1; number = 0 }) (sym r.counted) in
    (r.transition, r.timed, answered, loaded.1, loaded.2, loaded.3)

-- ---- worked timings; the mast book's is with its other examples (Mast)

-- the difference is rounded once, halfway to the even one: 65,535 and 1/256, less 1/512, is 65,535
pub halfway : difference (fin false 16776961 (negsuc 7)) (fin false 1 (negsuc 8)) ≡ fin false 65535 (pos 0)
unfolding sub
halfway = refl

-- a wait without an end is not judged: what is not a number clears the transition
pub wait_worked : ImportSays 0 0 1 (waited nan) nan (7 ∷ 7 ∷ 7 ∷ 7 ∷ []) (gives (4 ∷ [])) (0x15 ∷ 0 ∷ 0 ∷ 0 ∷ [])
wait_worked = inr (omega arith, inr (tt, (none, refl, inr (omega arith, (refl, refl)))))

-- minus zero is zero, less zero or less itself
pub zeros_worked : Admitted (took (fin true 0 (pos 0))) (fin false 0 (pos 0)) × Admitted (took (fin true 0 (pos 0))) (fin true 0 (pos 0))
    × Timed (took (fin true 0 (pos 0))) (fin false 0 (pos 0)) 1 (some (record { target = 1; cost = 0 }))
unfolding sub
zeros_worked = (
  (inr refl, inl refl, inr refl, omega arith),
  (inr refl, inr refl, inl refl, omega arith),
  (0, (omega arith, λ k h. omega arith), refl),
)
