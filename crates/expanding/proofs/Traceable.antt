-- Names can be followed to where they begin: those of a machine's rows from its last node, and those of a search from every node that
-- it reaches. Assumes nothing.
use mathlib.Core.Path.{◌≡◌, refl, subst}
use mathlib.Core.Bool.{Bool, false}
use mathlib.Core.Option.{Option, none, some}
use Prim.Native.Nat.{ℕ, zero, suc, ◌≤◌, ◌<◌}
use native.Mathlib.Omega.{arith}
use Rattle.definitions.specs.Basics.{iterate}
use Rattle.definitions.specs.Limits.{nodes, commands, longest_chain}
use Rattle.definitions.specs.Tree.{Tree, Sound}
use Rattle.definitions.specs.Sheet.{Rows}
use Rattle.definitions.specs.Truth.{Ended, TrueMachine, TrueRows}
use Rattle.definitions.proofs.Options.{bind_some, none_some, some_same}
use Rattle.plantheory.specs.Search.{plan_move, PlanSearched}
use Rattle.plantheory.proofs.Landing.{Opening, Position, plan_range}
use Rattle.plantheory.proofs.Planned.{reached_position}
use Rattle.expanding.specs.Names.{Traceable}

-- ---- following names

module _ (before by : ℕ → Option ℕ) where
  -- a property that the names hand on holds of every node that they lead to
  onward : (P : ℕ → Type 0) → ((n u : ℕ) → P n → before n ≡ some u → P u) → (i n v : ℕ) → P n → iterate before i n ≡ some v → P v
  unfolding iterate
  onward P on zero n v here way = subst P (some_same refl way) here
  onward P on (suc i) n v here way =
      let (u, eu, rest) = bind_some (before n) (iterate before i) way in
      onward P on i u v (on n u here eu) rest

  -- names can be followed where every node with the property hands it on and names a command, and they begin
  traceable : (P : ℕ → Type 0) → ((n : ℕ) → P n → n < nodes)
      → ((n u : ℕ) → P n → before n ≡ some u → P u × ((x : ℕ) × (by n ≡ some x) × (x < commands)))
      → {n first k : ℕ} → P n → before first ≡ none → k ≤ longest_chain → iterate before k n ≡ some first → Traceable before by n
  traceable P range on {n} {first} {k} here ended short way =
      record {
        first = first;
        steps = k;
        short = short;
        way = way;
        ended = ended;
        here = range n here;
        named =
            λ i v u way_v e.
            let (holds, command) = on v u (onward P (λ w z p f. (on w z p f).0) i n v here way_v) e in
            (range u holds, command);
      }

  -- what a node names
  pub traceable_name : {n u : ℕ} → Traceable before by n → before n ≡ some u → (u < nodes) × ((x : ℕ) × (by n ≡ some x) × (x < commands))
  unfolding iterate
  traceable_name {n} {u} tr = tr.named 0 n u refl

  -- the node named next can be followed too, in a step less
  pub traceable_next : {n u : ℕ} (tr : Traceable before by n) → before n ≡ some u
      → (next : Traceable before by u) × (tr.steps ≡ suc next.steps)
  unfolding iterate
  traceable_next {n} {u} tr e = go tr.steps refl
    where
      go : (k : ℕ) → tr.steps ≡ k → (next : Traceable before by u) × (tr.steps ≡ suc next.steps)
      go zero same =
          let there : n ≡ tr.first = some_same refl (rw same at tr.way) in
          absurd (none_some tr.ended (subst (λ (v : ℕ). before v ≡ some u) there e))
      go (suc k) same =
          let (v, ev, rest) = bind_some (before n) (iterate before k) (rw same at tr.way) in (
            record {
              first = tr.first;
              steps = k;
              short = omega (arith, tr.short);
              way = subst (λ (w : ℕ). iterate before k w ≡ some tr.first) (some_same ev e) rest;
              ended = tr.ended;
              here = (traceable_name tr e).0;
              named = λ i w z way_w. tr.named (suc i) w z (rw e way_w);
            },
            same,
          )

-- ---- the names of rows

-- the last node of a machine for x is that of an exit
row_ended : {t : Tree} {r : Rows} {m f : ℕ} (x : ℕ) → TrueMachine t r m f → x < commands → {u : ℕ} → r.last m x ≡ some u
    → (c : ℕ) × (r.exit m x ≡ some c) × Ended t r m x c
row_ended {t} {r} {m} x row range {u} last = go (r.exit m x) refl
  where
    go : (o : Option ℕ) → r.exit m x ≡ o → (c : ℕ) × (r.exit m x ≡ some c) × Ended t r m x c
    go none exit = absurd (none_some (row.no_exit x range exit) last)
    go (some c) exit = (c, exit, row.ended x c range exit)

-- so a last node has an exit cost
pub row_exit : {t : Tree} {r : Rows} {m f : ℕ} (x : ℕ) → TrueMachine t r m f → x < commands → {u : ℕ} → r.last m x ≡ some u
    → (c : ℕ) × (r.exit m x ≡ some c)
row_exit x row range last = let (c, exit, end) = row_ended x row range last in (c, exit)

-- node n is a node of machine m that its row reaches
record InRow (t : Tree) (r : Rows) (m n : ℕ) : Type 0 where
  owned : t.owner n ≡ some m
  cost : ℕ
  reached : r.cost n ≡ some cost

-- the names of a machine's rows can be followed from its last node for x
pub row_traceable : {t : Tree} → Sound t → {r : Rows} → TrueRows t r → ((m : ℕ) → r.stale m ≡ false) → {m f x u : ℕ}
    → t.start m ≡ some f → x < commands → r.last m x ≡ some u → Traceable r.before r.by u
row_traceable {t} s {r} rows fresh {m} {f} {x} {u} used range last =
    let row = rows.filled m f used (fresh m) in
    let (c, exit, end) = row_ended x row range last in
    let same : end.node ≡ u = some_same end.last last in
    let there = subst (InRow t r m) same (record { owned = end.owned; cost = end.node_cost; reached = end.reached }) in
    let (k, short, way) = row.chain u there.cost there.owned there.reached in
    traceable r.before r.by (InRow t r m)
    (λ n in_row. s.node_range n m in_row.owned)
    (λ n v in_row e.
    let other : n ≡ f → ⊥ = λ at. none_some row.start_before (subst (λ (w : ℕ). r.before w ≡ some v) at e) in
    let name = row.named n in_row.cost in_row.owned other in_row.reached in (
      subst (InRow t r m) (some_same name.before e) (record { owned = name.owned; cost = name.node_cost; reached = name.reached }),
      (name.command, name.by, name.command_range),
    ))
    {k = k} there row.start_before short way

-- ---- the names of a search

-- the names of a search can be followed from the node that it is for
pub plan_traceable : {t : Tree} → Sound t → (r : Rows) → TrueRows t r → ((m : ℕ) → r.stale m ≡ false) → (opened : ℕ → Bool) → Opening t opened
    → {a b : ℕ} → Position t opened a → t.below a ≡ none → {distance before by : ℕ → Option ℕ}
    → PlanSearched (plan_move t r opened) a b distance before by → {c : ℕ} → distance b ≡ some c → Traceable before by b
plan_traceable {t} s r rows fresh opened opening {a} {b} at_a plain_a {distance} {before} {by} found {c} reach =
    let (k, short, way) = found.chain b c reach in
    traceable before by (λ n. (d : ℕ) × (distance n ≡ some d))
    (λ n reached.
    let at = reached_position s r rows fresh opened opening a b at_a plain_a distance before by found n reached.0 reached.1 in
    s.node_range n at.machine at.owned)
    (λ n v reached e.
    let other : n ≡ a → ⊥ = λ at. none_some found.start_before (subst (λ (w : ℕ). before w ≡ some v) at e) in
    let name = found.named n reached.0 other reached.1 in (
      (name.node_cost, subst (λ (w : ℕ). distance w ≡ some name.node_cost) (some_same name.names_node e) name.reached),
      (name.command, name.names_command, plan_range s r opened name.node name.command name.moves),
    ))
    (c, reach) found.start_before short way
