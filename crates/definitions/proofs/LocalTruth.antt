-- A sheet's rows are true exactly where they are so machine by machine: the conditions that can be tested, and document 01's, which
-- speak of all lists. Assumes nothing.
use mathlib.Core.Path.{◌≡◌, refl, subst}
use mathlib.Core.Logic.{⊎_elim}
use mathlib.Core.Bool.{true, false}
use mathlib.Core.Option.{Option, none, some}
use mathlib.Core.List.{[], ◌∷◌, ◌++◌}
use Prim.Native.Nat.{ℕ, ◌≤◌, ◌<◌}
use native.Mathlib.Omega.{arith}
use Rattle.definitions.specs.Basics.{Least}
use Rattle.definitions.specs.Limits.{commands}
use Rattle.definitions.specs.Tree.{Tree, Transition, Sound, parent}
use Rattle.definitions.specs.Step.{counting, passed, climb, Arrival}
use Rattle.definitions.specs.Costs.{ExitCost}
use Rattle.definitions.specs.Sheet.{Rows}
use Rattle.definitions.specs.Truth.{move, LeastInside, TrueMachine, TrueRows}
use Rattle.definitions.proofs.Options.{none_some, some_same, true_false, decided}
use Rattle.definitions.proofs.Path.{parent_below, enters, enters_state, counting_owned, climb_own, passed_found}
use Rattle.definitions.proofs.Reaching.{run_on, least_reaches}
use Rattle.definitions.proofs.Local.{Relaxed, Attained, LocalRows, exit_plain, move_parts}
use Rattle.definitions.proofs.Potential.{Frame, Potential, Comes, comes, raised_run}
use Rattle.definitions.proofs.Exits.{exit_parts, start_enters}
use Rattle.definitions.proofs.Alone.{only, is_only, FilledUnder, only_frame, only_potential}
use Rattle.definitions.proofs.Realize.{row_led, attained_walk, Had, had, had_at}

-- below a filled machine every machine is filled
pub filled_below : (t : Tree) (r : Rows) → ((m p : ℕ) → r.stale m ≡ true → parent t m ≡ some p → r.stale p ≡ true)
    → (m p : ℕ) → parent t m ≡ some p → r.stale p ≡ false → r.stale m ≡ false
filled_below t r up m p above full = ⊎_elim (λ stale. absurd (true_false (up m p stale above) full)) (λ e. e) (decided (r.stale m))

-- the moves of a machine stay in it
pub move_owned : {t : Tree} → Sound t → (r : Rows) (n x : ℕ) {m : ℕ} {b : Arrival} → t.owner n ≡ some m → move t r n x ≡ some b → t.owner b.node ≡ some m
move_owned {t} s r n x {m} own_n e =
    let parts = move_parts t r n x e in
    subst (λ (v : ℕ). t.owner v ≡ some m) parts.target (counting_owned s n x parts.transition parts.has own_n)

-- ---- the costs of nodes

-- the cost that stands there is the least
least_walk : {t : Tree} → Sound t → (r : Rows) {m f : ℕ} → t.start m ≡ some f → Relaxed t r m f → Attained t r m f → (n : ℕ) → t.owner n ≡ some m
    → LeastInside t r f n (r.cost n)
least_walk {t} s r {m} {f} st relaxed row =
    least_reaches (move t r) (λ u. t.owner u ≡ some m) r.cost r.before row.start_cost row.start_before (row_led t r row)
    (s.start_owned m f st) (λ n c x b own_n cost step. (move_owned s r n x own_n step, relaxed.moves n c x b own_n cost step))
    (λ n c own_n cost. let (k, short, way) = row.chain n c own_n cost in (k, way))

-- ---- the exit costs

-- a node without a transition for x, from what the climb found
free_passed : (t : Tree) (top n x l : ℕ) → climb t top n x ≡ passed l → (o : Option Transition) → counting t n x ≡ o → counting t n x ≡ none
free_passed t top n x l up none e = e
free_passed t top n x l up (some a) e = absurd (passed_found up (climb_own t top n x a e))

module _ (t : Tree) (s : Sound t) (r : Rows) (local : LocalRows t r) (m f : ℕ) (st : t.start m ≡ some f) (full : r.stale m ≡ false) where
  all_filled : (p q : ℕ) → parent t p ≡ some q → r.stale q ≡ false → r.stale p ≡ false
  all_filled = filled_below t r local.stale_above

  -- the machine opened, with the costs of its row
  under : FilledUnder t r m
  under n b own_n bel = all_filled b m (parent_below s own_n bel) full

  frame : Frame t r m (only m) r.cost
  frame = only_frame s r local.relaxed all_filled m under r.cost (local.relaxed m f st full).moves

  -- no exit is cheaper than the one that stands there
  exit_low : (x c : ℕ) → x < commands → Had t m x c → (d : ℕ) × (r.exit m x ≡ some d) × (d ≤ c)
  exit_low x c range (xs, e) =
      let parts = exit_parts t m x xs e in
      let own_f = s.start_owned m f st in
      let (g, en) = enters s own_f in
      let begins : g ≡ parts.state = some_same (start_enters s st en) parts.begins in
      let row = local.relaxed m f st full in
      let pot =
      subst (λ (n : ℕ). Potential t r (only m) r.cost n 0) begins
      (only_potential s r local.relaxed all_filled m under r.cost row.moves own_f row.start_cost en) in
      let plain_g : t.below parts.state ≡ none = subst (λ (n : ℕ). t.below n ≡ none) begins (enters_state s en own_f).2 in
      let (q, pot_q, plain_q, le) = raised_run t r m (only m) r.cost frame pot plain_g xs parts.at parts.runs in
      let come = comes t r m (only m) r.cost frame pot_q 0 x range (exit_plain t r parts.at.node x plain_q) in
      let left : Comes t r m (only m) r.cost frame q 0 x (passed parts.left) = subst (Comes t r m (only m) r.cost frame q 0 x) parts.climbs come in
      let (n, p, d, e', l', own_n, op, cost, exit, up, le') = left in
      let (k, out, small) = row.exits n d x e' (is_only t m own_n op) cost range (free_passed t m n x l' up (counting t n x) refl) exit in
      (k, out, omega (arith, parts.exact))

  -- so the exit cost that stands there is the least
  least_exit : (x : ℕ) → x < commands → (o : Option ℕ) → r.exit m x ≡ o → ExitCost t m x o
  least_exit x range none e = λ c exits. none_some e (exit_low x c range exits).1
  least_exit x range (some c) e = (
    had t s r local.attained all_filled x c st full range e,
    λ d exits. let (k, out, small) = exit_low x d range exits in omega (arith, some_same e out),
  )

  local_machine : TrueMachine t r m f
  local_machine =
      let row = local.attained m f st full in
      record {
        least = λ n own_n. least_walk s r st (local.relaxed m f st full) row n own_n;
        start_cost = row.start_cost;
        start_before = row.start_before;
        start_by = row.start_by;
        named = row.named;
        chain = row.chain;
        unreached = row.unreached;
        exit = λ x range. least_exit x range (r.exit m x) refl;
        ended = row.ended;
        no_exit = row.no_exit;
      }

-- rows that are so machine by machine are true
pub local_true : {t : Tree} → Sound t → (r : Rows) → LocalRows t r → TrueRows t r
local_true {t} s r local =
    record { blanks = local.blanks; stale_above = local.stale_above; filled = λ m f st full. local_machine t s r local m f st full }

-- ---- the other way

-- what is least is there, if anything is
least_there : (P : ℕ → Type 0) (o : Option ℕ) → Least P o → {c : ℕ} → P c → (d : ℕ) × (o ≡ some d) × (d ≤ c)
least_there P none least {c} p = absurd (least c p)
least_there P (some d) least {c} p = (d, refl, least.1 c p)

true_attained : {t : Tree} {r : Rows} {m f : ℕ} → TrueMachine t r m f → Attained t r m f
true_attained row =
    record {
      start_cost = row.start_cost;
      start_before = row.start_before;
      start_by = row.start_by;
      named = row.named;
      chain = row.chain;
      unreached = row.unreached;
      ended = row.ended;
      no_exit = row.no_exit;
    }

true_relaxed : {t : Tree} → Sound t → (r : Rows) → TrueRows t r → (m f : ℕ) → t.start m ≡ some f → r.stale m ≡ false → Relaxed t r m f
true_relaxed {t} s r rows m f st full =
    let row = rows.filled m f st full in
    record {
      start_cost = row.start_cost;
      moves =
          λ n c x b own_n cost step.
          let (xs, way) = attained_walk t r (true_attained row) n c own_n cost in
          least_there _ (r.cost b.node) (row.least b.node (move_owned s r n x own_n step))
          (xs ++ (x ∷ []), run_on (move t r) f x xs way step);
      exits =
          λ n c x e own_n cost range free exit.
          least_there _ (r.exit m x) (row.exit x range)
          (had_at t s r (λ p g sp fp. true_attained (rows.filled p g sp fp)) (filled_below t r rows.stale_above) x c e st full range own_n cost free exit);
    }

-- true rows are so machine by machine
pub true_local : {t : Tree} → Sound t → (r : Rows) → TrueRows t r → LocalRows t r
true_local s r rows =
    record {
      blanks = rows.blanks;
      stale_above = rows.stale_above;
      relaxed = λ m f st full. true_relaxed s r rows m f st full;
      attained = λ m f st full. true_attained (rows.filled m f st full);
    }
