-- What it costs at most to reach a node inside its machine, no more than a plan: of the lists of commands that lead there one passes no state twice. So the costs of
-- nodes fit their words, those that stand in a sheet and those that a search has found for it. And what leaving a node costs at most. Assumes nothing.
use mathlib.Core.Path.{◌≡◌, refl, subst}
use mathlib.Core.Bool.{Bool, false}
use mathlib.Core.Option.{Option, none, some}
use Prim.Native.Nat.{ℕ, ◌*◌, ◌≤◌, ◌<◌}
use native.Mathlib.Omega.{arith}
use Rattle.definitions.specs.Limits.{commands, largest_step_cost, largest_plan_cost}
use Rattle.definitions.specs.Tree.{Tree, Sound}
use Rattle.definitions.specs.Sheet.{Rows}
use Rattle.definitions.specs.Costs.{ExitCost}
use Rattle.definitions.specs.Truth.{node_exit, move, TrueRows}
use Rattle.definitions.proofs.Options.{some_same, true_false}
use Rattle.definitions.proofs.Path.{enters, enters_state}
use Rattle.definitions.proofs.Reaching.{Reaches}
use Rattle.definitions.proofs.Exits.{start_enters}
use Rattle.definitions.proofs.Local.{exit_plain, refined_exit}
use Rattle.definitions.proofs.Potential.{Potential, base, deeper, raised_run}
use Rattle.definitions.proofs.Alone.{only, FilledUnder, MovesRelaxed, only_frame, only_potential}
use Rattle.definitions.proofs.Realize.{attained_walk, leads}
use Rattle.definitions.proofs.LocalTruth.{filled_below, true_local}
use Rattle.definitions.proofs.Simple.{simple_run, states_in_states, states_bound, start_inside, simple_cost, exit_largest}

-- a node has one potential
potential_one : {t : Tree} {r : Rows} {opened : ℕ → Bool} {distance : ℕ → Option ℕ} {n p q : ℕ} → Potential t r opened distance n p
    → Potential t r opened distance n q → p ≡ q
potential_one (base own op shut far) (base own' op' shut' far') = some_same far far'
potential_one {opened = opened} (base own op shut far) (deeper own' not_open full hold cost pot) =
    absurd (true_false op (subst (λ (k : ℕ). opened k ≡ false) (some_same own' own) not_open))
potential_one {opened = opened} (deeper own not_open full hold cost pot) (base own' op shut far) =
    absurd (true_false op (subst (λ (k : ℕ). opened k ≡ false) (some_same own own') not_open))
potential_one {t} {r} {opened} {distance} (deeper {h = h} own not_open full hold cost pot) (deeper {p = p} own' not_open' full' hold' cost' pot') =
    let up = some_same hold' (subst (λ (k : ℕ). t.holder k ≡ some h) (some_same own own') hold) in
    omega (arith, some_same cost cost', potential_one pot (subst (λ (k : ℕ). Potential t r opened distance k p) up pot'))

module _ {t : Tree} (s : Sound t) (r : Rows) (rows : TrueRows t r) {m f : ℕ} (st : t.start m ≡ some f) (under : FilledUnder t r m) where
  -- by distances that account for every move, and the list of moves that gives one of them
  pub reached_bound : (distance : ℕ → Option ℕ) → distance f ≡ some 0 → MovesRelaxed t r m distance → {n c : ℕ} → t.owner n ≡ some m
      → distance n ≡ some c → Reaches (move t r) f n c → c ≤ largest_plan_cost
  reached_bound distance first moves {n} {c} own_n far reach =
      let local = true_local s r rows in
      let filled = filled_below t r rows.stale_above in
      let own_f = s.start_owned m f st in
      let (e, en) = enters s own_f in
      let way = leads t s r local.attained filled st under en reach in
      let (ys, b, runs, same, small, distinct) = simple_run t m e way.list _ way.runs in
      let frame = only_frame s r local.relaxed filled m under distance moves in
      let begin = only_potential s r local.relaxed filled m under distance moves own_f first en in
      let end = only_potential s r local.relaxed filled m under distance moves own_n far way.enters in
      let (q, pot, plain, low) = raised_run t r m (only m) distance frame begin (enters_state s en own_f).2 ys b runs in
      omega (
        arith,
        low,
        potential_one (subst (λ (k : ℕ). Potential t r (only m) distance k q) same pot) end,
        simple_cost s (start_inside s m (start_enters s st en)) ys runs distinct,
        states_in_states t m,
        states_bound t,
      )

  -- so it is of the costs of a filled row
  pub cost_bound : r.stale m ≡ false → {n c : ℕ} → t.owner n ≡ some m → r.cost n ≡ some c → c ≤ largest_plan_cost
  cost_bound full {n} {c} own_n cost =
      let local = true_local s r rows in
      let row = local.relaxed m f st full in
      reached_bound r.cost row.start_cost row.moves own_n cost (attained_walk t r (local.attained m f st full) n c own_n cost)

-- ---- exits

-- a node's own exit cost, where the machine below it is filled: at most 134,215,680 for that machine's, and leaving it
pub own_exit_bound : {t : Tree} → Sound t → (r : Rows) → TrueRows t r → (n : ℕ) → ((b : ℕ) → t.below n ≡ some b → r.stale b ≡ false)
    → (x e : ℕ) → x < commands → node_exit t r n x ≡ some e → e ≤ 257 * largest_step_cost
own_exit_bound {t} s r rows n full x e range exits = go (t.below n) refl
  where
    go : (o : Option ℕ) → t.below n ≡ o → e ≤ 257 * largest_step_cost
    go none bel = omega (arith, some_same (exit_plain t r n x bel) exits)
    go (some b) bel =
        let (d, exit, same) = refined_exit t r n x bel exits in
        let (f, used) = s.held_used b n (s.below_held n b bel) in
        let row = subst (ExitCost t b x) exit ((rows.filled b f used (full b bel)).exit x range) in
        omega (arith, s.leave_range b, exit_largest s b x d row)
