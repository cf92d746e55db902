-- How many commands there are at most: a node's part passes no state twice, and there are at most 256 steps. Assumes nothing.
use mathlib.Core.Path.{◌≡◌, refl, ap}
use mathlib.Core.Bool.{false}
use mathlib.Core.Option.{Option, none, some}
use mathlib.Core.List.{[], List, ◌∷◌}
use Prim.Native.Nat.{ℕ, zero, suc, ◌*◌, ◌≤◌, ◌<◌}
use native.Mathlib.Omega.{arith}
use lib.ListN.{length, get_or, length-append}
use Rattle.definitions.specs.Limits.{nodes, commands, levels}
use Rattle.definitions.specs.Tree.{Tree, Sound}
use Rattle.definitions.specs.Book.{tree_of}
use Rattle.definitions.specs.Sheet.{Rows, rows_of}
use Rattle.definitions.specs.Truth.{TrueRows}
use Rattle.definitions.proofs.Path.{enters, enters_enter}
use Rattle.definitions.proofs.Local.{exit_refined}
use Rattle.definitions.proofs.LocalTruth.{true_local}
use Rattle.definitions.proofs.Simple.{enter_inside, inside_root, states_in_states, states_bound, simple_length}
use Rattle.plantheory.specs.Expand.{node_part, plan_part}
use Rattle.plantheory.proofs.Expanded.{part_plain, leave_node}
use Rattle.search.specs.Search.{name_of}
use Rattle.expanding.specs.Expanding.{Fresh, plan_of, leave_part, steps_part, Steps, Traced}
use Rattle.expanding.proofs.Tracing.{traced_all}
use Rattle.expanding.proofs.Traceable.{row_exit}
use Rattle.expanding.proofs.Opening.{part_none}

module _ {t : Tree} (s : Sound t) (r : Rows) (rows : TrueRows t r) (fresh : (m : ℕ) → r.stale m ≡ false) where
  -- the part of a refined node that has an exit
  part_exits : (n x : ℕ) {m u : ℕ} → t.below n ≡ some m → x < commands → r.last m x ≡ some u → length (node_part levels t r n x) < nodes
  part_exits n x {m} bel range last =
      let hold = s.below_held n m bel in
      let (f, used) = s.held_used m n hold in
      let (p, own) = s.holder_used m n hold in
      let (c, exit) = row_exit x (rows.filled m f used (fresh m)) range last in
      let (e, en) = enters s own in
      let inside = inside_root s own in
      let out =
      leave_node s r (λ q g st. (true_local s r rows).attained q g st (fresh q)) t.root x own inside range en
      (exit_refined t r n x bel exit) in
      let short = simple_length s (enter_inside s inside (enters_enter s en own)) (node_part levels t r n x) out.runs out.simple in
      omega (arith, short, states_in_states t t.root, states_bound t)

  -- the part of a node has fewer commands than there are nodes
  part_short : (n x : ℕ) → x < commands → length (node_part levels t r n x) < nodes
  part_short n x range = held (t.below n) refl
    where
      held : (o : Option ℕ) → t.below n ≡ o → length (node_part levels t r n x) < nodes
      held none bel = rw (part_plain levels t r n x bel) (omega arith)
      held (some m) bel = ends (r.last m x) refl
        where
          ends : (o : Option ℕ) → r.last m x ≡ o → length (node_part levels t r n x) < nodes
          ends none last = rw (part_none levels t r n x bel last) (omega arith)
          ends (some u) last = part_exits n x bel range last

  -- so have steps, for each of them
  steps_length : (left given : List ℕ) (k : ℕ) → ((i : ℕ) → i < k → get_or given i 0 < commands)
      → length (steps_part (node_part levels t r) left given k) ≤ k * nodes
  unfolding steps_part
  steps_length left given zero range = omega arith
  steps_length left given (suc k) range =
      let part : ℕ → ℕ → List ℕ = node_part levels t r in
      let n : ℕ = get_or left k 0 in
      let x : ℕ = get_or given k 0 in
      omega (
        arith,
        length-append (leave_part part n x) (steps_part part left given k),
        length-append (part n x) (x ∷ []),
        part_short n x (range k (omega arith)),
        steps_length left given k (λ i less. range i (omega arith)),
      )

  pub steps_short : {left given : List ℕ} {k : ℕ} → Steps left given k → length (steps_part (node_part levels t r) left given k) ≤ nodes * nodes
  steps_short {left} {given} {k} st = omega (arith, steps_length left given k st.command, st.small)

-- the noted steps are the plan's commands, and these can be counted in 32 bits
pub plan_steps : {book sheet : List ℕ} (before by : List ℕ) {b k : ℕ} {left given left' given' : List ℕ} → Fresh book sheet
    → Traced (name_of nodes before) (name_of nodes by) b 0 left given k left' given'
    → (steps_part (node_part levels (tree_of book) (rows_of sheet)) left' given' k
    ≡ plan_of book sheet before by b) × (length (plan_of book sheet before by b) ≤ nodes * nodes)
unfolding plan_part
plan_steps {book} {sheet} before by lent traced =
    let same = traced_all (node_part levels (tree_of book) (rows_of sheet)) traced in
    let short = steps_short lent.well_formed.sound (rows_of sheet) lent.true_sheet.rows lent.fresh traced.steps in
    (same, omega (arith, short, ap length same))
