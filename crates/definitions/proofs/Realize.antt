-- It can be had: what stands in the rows is the cost of a list of commands. A node can be left by a command at its exit cost, a node is
-- reached at its cost by following the names, and an exit cost is that of a list. Assumes nothing.
use mathlib.Core.Path.{◌≡◌, refl, sym, ◌∙◌, ap, subst, subst₂}
use mathlib.Core.Bool.{false}
use mathlib.Core.Option.{none, some}
use mathlib.Core.List.{[], List, ◌∷◌, ◌++◌}
use Prim.Native.Nat.{ℕ, zero, suc, ◌+◌, ◌≤◌, ◌<◌}
use native.Mathlib.Omega.{arith}
use native.Mathlib.Nat.{zero-add}
use Rattle.definitions.specs.Limits.{commands, levels}
use Rattle.definitions.specs.Tree.{Tree, Sound, parent}
use Rattle.definitions.specs.Step.{enter, counting, Climb, found, passed, past, climb, Arrival, follow, step_in, run_by, run_in}
use Rattle.definitions.specs.Costs.{exit_by}
use Rattle.definitions.specs.Sheet.{Rows}
use Rattle.definitions.specs.Truth.{node_exit, move}
use Rattle.definitions.proofs.Options.{bind_some, none_some, some_same}
use Rattle.definitions.proofs.Path.{Deep, deep, deep_small, deep_below, parent_below, Enters, plain, down, enters, enters_enter, enter_enters, Inside, own, counting_range, counting_owned, climb_own, climb_top, climb_found}
use Rattle.definitions.proofs.Runs.{onto, run_first, run_cons, run_nil, run_join}
use Rattle.definitions.proofs.Reaching.{Reaches, Led, named_reaches}
use Rattle.definitions.proofs.Inside.{enters_inside, found_inside, climb_wider, beyond}
use Rattle.definitions.proofs.Exits.{ExitParts, exit_parts, parts_exit, start_enters}
use Rattle.definitions.proofs.Local.{Attained, exit_plain, refined_exit, move_parts}

-- a step with the transitions of b and below it is the same step seen from top, and stays inside b
pub record Wider (t : Tree) (top b n : ℕ) (xs : List ℕ) (a : Arrival) : Type 0 where
  pub same : run_in t top n xs ≡ some a
  pub stays : Inside t b a.node

follow_wider : {t : Tree} → Sound t → {top b h n : ℕ} (x : ℕ) {a : Arrival} → t.holder b ≡ some h → Inside t top h → Inside t b n
    → (k : Climb) → climb t b n x ≡ k → follow t k ≡ some a → (step_in t top n x ≡ some a) × Inside t b a.node
unfolding step_in
follow_wider s x {a} hold upper i (passed l) up e = absurd (none_some {a = a} refl e)
follow_wider {t} s {top} {b} {h} {n} x {a} hold upper i (found u v c) up e =
    let seen : climb t top n x ≡ found u v c = climb_wider s x hold upper i ∙ ap (beyond (t.leave b) (climb t top h x)) up in
    let (f, en, same) = bind_some (enter t v) (λ f. some (record { node = f; cost = c })) e in
    let way = enter_enters s (climb_found s b n x up).target_owner en in
    let arrived : record { node = f; cost = c } ≡ a = some_same refl same in
    (ap (follow t) seen ∙ e, subst (λ (z : Arrival). Inside t b z.node) arrived (enters_inside s (found_inside s x i up) way))

step_wider : {t : Tree} → Sound t → {top b h n : ℕ} (x : ℕ) {a : Arrival} → t.holder b ≡ some h → Inside t top h → Inside t b n
    → step_in t b n x ≡ some a → (step_in t top n x ≡ some a) × Inside t b a.node
unfolding step_in
step_wider {t} s {b = b} {n = n} x hold upper i e = follow_wider s x hold upper i (climb t b n x) refl e

-- a run in b is the same run in a machine above, and stays inside b
pub run_wider : {t : Tree} → Sound t → {top b h n : ℕ} (xs : List ℕ) {a : Arrival} → t.holder b ≡ some h → Inside t top h → Inside t b n
    → run_in t b n xs ≡ some a → Wider t top b n xs a
run_wider {t} s {top} {b} {n = n} [] {a} hold upper i e =
    let arrived : record { node = n; cost = 0 } ≡ a = some_same (run_nil (step_in t b) n) e in
    record { same = run_nil (step_in t top) n ∙ ap some arrived; stays = subst (λ (z : Arrival). Inside t b z.node) arrived i }
run_wider {t} s {top} {b} {n = n} (x ∷ xs) {a} hold upper i e =
    let first = run_first (step_in t b) n x xs e in
    let (e₁, i₁) = step_wider s x hold upper i first.step in
    let rest = run_wider s {n = first.mid.node} xs hold upper i₁ first.rest in
    record {
      same = run_cons (step_in t top) n x xs e₁ rest.same ∙ ap some first.joins;
      stays = subst (λ (z : Arrival). Inside t b z.node) first.joins rest.stays;
    }

-- ---- leaving a node

-- From state e, where node u is entered, a list leads to a state from which x climbs as from u, having left machines at cost l;
-- all that costs what u's exit cost says.
pub record Leaves (t : Tree) (top u x e cost : ℕ) : Type 0 where
  pub list : List ℕ
  pub at : Arrival
  pub left : ℕ
  pub runs : run_in t top e list ≡ some at
  pub climbs : climb t top at.node x ≡ past left (climb t top u x)
  pub exact : at.cost + left ≡ cost

pub past_zero : (k : Climb) → k ≡ past 0 k
past_zero (found u v c) = ap (λ (d : ℕ). found u v d) (omega arith)
past_zero (passed c) = ap (λ (d : ℕ). passed d) (omega arith)

-- some list leaves machine b by x at cost d
abbrev pub Had : Tree → ℕ → ℕ → ℕ → Type 0
Had t b x d = (xs : List ℕ) × (exit_by t b x xs ≡ some d)

-- a node can be left at its exit cost, if the machine below it can
leave_refined : {t : Tree} → Sound t → {top u b f e : ℕ} (x d : ℕ) → Inside t top u → t.below u ≡ some b → t.start b ≡ some f → Enters t f e
    → (xs : List ℕ) → ExitParts t b x xs d → Leaves t top u x e (d + t.leave b)
leave_refined {t} s {top} {u} {b} {f} {e} x d i bel st en xs p =
    let hold = s.below_held u b bel in
    let begins : p.state ≡ e = some_same p.begins (start_enters s st en) in
    let runs : run_in t b e xs ≡ some p.at = subst (λ (n : ℕ). run_in t b n xs ≡ some p.at) begins p.runs in
    let wide = run_wider s xs hold i (enters_inside s (own (s.start_owned b f st)) en) runs in
    record {
      list = xs;
      at = p.at;
      left = p.left + t.leave b;
      runs = wide.same;
      climbs = climb_wider s x hold i wide.stays ∙ ap (beyond (t.leave b) (climb t top u x)) p.climbs;
      exact = omega (arith, p.exact);
    }

pub leave : {t : Tree} → Sound t → (r : Rows) {top u e cost : ℕ} (x : ℕ) → Inside t top u → Enters t u e → node_exit t r u x ≡ some cost
    → ((b d : ℕ) → t.below u ≡ some b → r.exit b x ≡ some d → Had t b x d) → Leaves t top u x e cost
leave {t} s r {top} {u} {e} {cost} x i (plain bel) exit lower =
    record {
      list = [];
      at = record { node = u; cost = 0 };
      left = 0;
      runs = run_nil (step_in t top) u;
      climbs = past_zero (climb t top u x);
      exact = some_same (exit_plain t r u x bel) exit;
    }
leave {t} s r {top} {u} {e} {cost} x i (down {b = b} {f = f} bel st en) exit lower =
    let (d, below_exit, same) = refined_exit t r u x bel exit in
    let (xs, had) = lower b d bel below_exit in
    subst (Leaves t top u x e) same (leave_refined s x d i bel st en xs (exit_parts t b x xs had))

-- ---- following the names

-- the names of a row, under its moves
pub row_led : (t : Tree) (r : Rows) {m f : ℕ} → Attained t r m f → (n c : ℕ) → t.owner n ≡ some m → (n ≡ f → ⊥) → r.cost n ≡ some c
    → Led (move t r) (λ u. t.owner u ≡ some m) r.cost r.before n c
row_led t r row n c own_n other cost =
    let name = row.named n c own_n other cost in
    record {
      node = name.node;
      command = name.command;
      node_cost = name.node_cost;
      step_cost = name.step_cost;
      names = name.before;
      holds = name.owned;
      reached = name.reached;
      moves = name.moves;
      exact = name.exact;
    }

-- what a row's names lead to is a list of moves
pub attained_walk : (t : Tree) (r : Rows) {m f : ℕ} → Attained t r m f → (n c : ℕ) → t.owner n ≡ some m → r.cost n ≡ some c → Reaches (move t r) f n c
attained_walk t r {m} row n c own_n cost =
    let (k, short, way) = row.chain n c own_n cost in
    named_reaches (move t r) (λ u. t.owner u ≡ some m) r.cost r.before row.start_cost row.start_before (row_led t r row) k n c own_n cost way

-- From state e, where node s is entered, a list leads inside machine m to a state where node n is entered, at cost c.
pub record Leads (t : Tree) (top e n c : ℕ) : Type 0 where
  pub list : List ℕ
  pub state : ℕ
  pub runs : run_in t top e list ≡ some (record { node = state; cost = c })
  pub enters : Enters t n state

-- a list that leads to node u goes on by x to the target of what x finds from u
pub leads_on : {t : Tree} → Sound t → (r : Rows) {top e u w v c cost d : ℕ} (x : ℕ) → Inside t top u → Leads t top e u c → node_exit t r u x ≡ some cost
    → climb t top u x ≡ found w v d → ((b k : ℕ) → t.below u ≡ some b → r.exit b x ≡ some k → Had t b x k) → Leads t top e v (c + (cost + d))
unfolding step_in
leads_on {t} s r {top} {e} {u} {w} {v} {c} {cost} {d} x i way exit up lower =
    let out = leave s r x i way.enters exit lower in
    let there = (climb_found s top u x up).target_owner in
    let (f, en) = enters s there in
    let step : step_in t top out.at.node x ≡ some (record { node = f; cost = out.left + d }) =
    ap (follow t) (out.climbs ∙ ap (past out.left) up) ∙ rw (enters_enter s en there) in
    let last = run_cons (step_in t top) out.at.node x [] step (run_nil (step_in t top) f) in
    let whole = run_join (step_in t top) e way.list (out.list ++ (x ∷ [])) way.runs (run_join (step_in t top) way.state out.list (x ∷ []) out.runs last) in
    record {
      list = way.list ++ (out.list ++ (x ∷ []));
      state = f;
      runs = whole ∙ ap (λ (k : ℕ). some (record { node = f; cost = k })) (omega (arith, out.exact));
      enters = en;
    }

-- ---- every cost and exit cost of the rows

module _ (t : Tree) (s : Sound t) (r : Rows)
    (attained : (m f : ℕ) → t.start m ≡ some f → r.stale m ≡ false → Attained t r m f)
    (filled_below : (m p : ℕ) → parent t m ≡ some p → r.stale p ≡ false → r.stale m ≡ false) where
  -- exits of the machines just below a machine can be had
  abbrev Lower : ℕ → Type 0
  Lower m = (u b x d : ℕ) → t.owner u ≡ some m → t.below u ≡ some b → x < commands → r.exit b x ≡ some d → Had t b x d

  -- a list that leads to a node of a machine goes on by a list of moves inside the machine
  leads_along : {m e u c : ℕ} → Lower m → t.owner u ≡ some m → Leads t m e u c → (xs : List ℕ) {a : Arrival} → run_by (move t r) u xs ≡ some a
      → Leads t m e a.node (c + a.cost)
  leads_along {m} {e} {u} {c} lower own_u way [] {a} runs =
      subst (λ (b : Arrival). Leads t m e b.node (c + b.cost)) (some_same (run_nil (move t r) u) runs) (subst (Leads t m e u) (omega arith) way)
  leads_along {m} {e} {u} {c} lower own_u way (x ∷ xs) {a} runs =
      let first = run_first (move t r) u x xs runs in
      let parts = move_parts t r u x first.step in
      let range = counting_range s u x parts.transition parts.has in
      let on =
      leads_on s r x (own own_u) way parts.exit (climb_own t m u x parts.transition parts.has) (λ b d bel. lower u b x d own_u bel range) in
      let there : Leads t m e first.mid.node (c + first.mid.cost) = subst₂ (Leads t m e) parts.target (omega (arith, parts.exact)) on in
      let own_v : t.owner first.mid.node ≡ some m =
      subst (λ (v : ℕ). t.owner v ≡ some m) parts.target (counting_owned s u x parts.transition parts.has own_u) in
      let end = leads_along {u = first.mid.node} {c = c + first.mid.cost} lower own_v there xs first.rest in
      subst (λ (b : Arrival). Leads t m e b.node (c + b.cost)) first.joins (subst (Leads t m e first.end.node) (omega arith) end)

  -- so a node that a list of moves inside a machine reaches from its start is led to
  leads_moves : {m f e n c : ℕ} → t.start m ≡ some f → Lower m → Enters t f e → Reaches (move t r) f n c → Leads t m e n c
  leads_moves {m} {f} {e} {n} {c} st lower en (xs, way) =
      subst (Leads t m e n) (zero-add c)
      (leads_along lower (s.start_owned m f st) (record { list = []; state = e; runs = run_nil (step_in t m) e; enters = en }) xs way)

  -- each reached node of a machine can be reached
  leads_in : {m f e n : ℕ} (c : ℕ) → t.start m ≡ some f → r.stale m ≡ false → Lower m → Enters t f e → t.owner n ≡ some m → r.cost n ≡ some c
      → Leads t m e n c
  leads_in {m} {f} {e} {n} c st full lower en own_n cost = leads_moves st lower en (attained_walk t r (attained m f st full) n c own_n cost)

  -- a reached node that has no transition that counts for x can be left by x, at its cost and its own exit cost
  had_from : {m f n : ℕ} (x c e : ℕ) → t.start m ≡ some f → r.stale m ≡ false → Lower m → x < commands → t.owner n ≡ some m → r.cost n ≡ some c
      → counting t n x ≡ none → node_exit t r n x ≡ some e → Had t m x (c + e)
  had_from {m} {f} {n} x c e st full lower range own_n cost free exit =
      let (g, en) = enters s (s.start_owned m f st) in
      let way = leads_in c st full lower en own_n cost in
      let out = leave s r x (own own_n) way.enters exit (λ b d bel. lower n b x d own_n bel range) in (
        way.list ++ out.list,
        parts_exit t m x (way.list ++ out.list)
            (record {
              state = g;
              at = onto (record { node = way.state; cost = c }) out.at;
              left = out.left + 0;
              begins = start_enters s st en;
              runs = run_join (step_in t m) g way.list out.list way.runs out.runs;
              climbs = out.climbs ∙ ap (past out.left) (climb_top t m n x own_n free);
              exact = omega (arith, out.exact);
            }),
      )

  -- each exit cost of a machine can be had, if those of the machines just below can
  had_in : {m f : ℕ} (x c : ℕ) → t.start m ≡ some f → r.stale m ≡ false → Lower m → x < commands → r.exit m x ≡ some c → Had t m x c
  had_in {m} {f} x c st full lower range exit =
      let last = (attained m f st full).ended x c range exit in
      subst (Had t m x) (sym last.exact)
      (had_from x last.node_cost last.node_exit_cost st full lower range last.owned last.reached last.free last.exits)

  -- from the lowest level up
  had_deep : (i : ℕ) {m f k : ℕ} (x c : ℕ) → t.start m ≡ some f → r.stale m ≡ false → Deep t m k → levels ≤ k + i → x < commands → r.exit m x ≡ some c
      → Had t m x c
  had_deep zero x c st full d room range exit = absurd (omega (arith, deep_small s st d))
  had_deep (suc i) {m} {f} {k} x c st full d room range exit =
      had_in x c st full
      (λ u b y z own_u bel range_y exit_b.
      let (g, st_b) = s.held_used b u (s.below_held u b bel) in
      had_deep i y z st_b (filled_below b m (parent_below s own_u bel) full) (deep_below s own_u bel d) (omega arith) range_y exit_b)
      range exit

  -- every exit cost of a filled row can be had
  pub had : {m f : ℕ} (x c : ℕ) → t.start m ≡ some f → r.stale m ≡ false → x < commands → r.exit m x ≡ some c → Had t m x c
  had {m} {f} x c st full range exit =
      let (k, small, way) = deep s st in
      had_deep levels x c st full way (omega arith) range exit

  -- so can those just below a machine where they are filled, and its nodes be reached by lists of moves
  lower : {m : ℕ} → ((u b : ℕ) → t.owner u ≡ some m → t.below u ≡ some b → r.stale b ≡ false) → Lower m
  lower below u b x d own_u bel range exit =
      let (g, st) = s.held_used b u (s.below_held u b bel) in
      had x d st (below u b own_u bel) range exit

  pub leads : {m f e n c : ℕ} → t.start m ≡ some f → ((u b : ℕ) → t.owner u ≡ some m → t.below u ≡ some b → r.stale b ≡ false) → Enters t f e
      → Reaches (move t r) f n c → Leads t m e n c
  leads st below en reach = leads_moves st (lower below) en reach

  -- every reached node of a filled row that has no transition that counts for x can be left by x, at its cost and its own exit cost
  pub had_at : {m f n : ℕ} (x c e : ℕ) → t.start m ≡ some f → r.stale m ≡ false → x < commands → t.owner n ≡ some m → r.cost n ≡ some c
      → counting t n x ≡ none → node_exit t r n x ≡ some e → Had t m x (c + e)
  had_at {m} x c e st full range own_n cost free exit =
      had_from x c e st full (lower (λ u b own_u bel. filled_below b m (parent_below s own_u bel) full)) range own_n cost free exit
