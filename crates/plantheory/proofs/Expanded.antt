-- What nodes and machines open into: in true rows the part of a node for x leads from where the node is entered to a state from which x
-- climbs as from the node, at the node's exit cost; the path of a machine is its exit. Neither passes a state twice. Assumes nothing.
use mathlib.Core.Path.{◌≡◌, refl, sym, ◌∙◌, ap, subst, subst₂}
use mathlib.Core.Option.{none, some}
use mathlib.Core.List.{[], List, ◌++◌}
use Prim.Native.Nat.{ℕ, zero, suc, ◌+◌, ◌≤◌, ◌<◌}
use native.Mathlib.Omega.{arith}
use Rattle.definitions.specs.Basics.{iterate, All, Distinct}
use Rattle.definitions.specs.Limits.{nodes, commands, levels}
use Rattle.definitions.specs.Tree.{Tree, Sound}
use Rattle.definitions.specs.Step.{counting, past, climb, Arrival, step_in, run_in}
use Rattle.definitions.specs.Costs.{exit_by}
use Rattle.definitions.specs.Sheet.{Rows}
use Rattle.definitions.specs.Truth.{node_exit, Named}
use Rattle.definitions.proofs.Options.{some_same}
use Rattle.definitions.proofs.Path.{Deep, deep, deep_small, deep_below, Enters, plain, down, enters, Inside, own, climb_own, climb_top, climb_on}
use Rattle.definitions.proofs.Inside.{inside_apart, inside_wider, past_past}
use Rattle.definitions.proofs.Runs.{onto, run_nil, run_join}
use Rattle.definitions.proofs.Exits.{parts_exit, start_enters}
use Rattle.definitions.proofs.Local.{Attained, exit_plain, refined_exit, move_parts}
use Rattle.definitions.proofs.Realize.{past_zero}
use Rattle.definitions.proofs.Simple.{trail, trail_nil}
use Rattle.plantheory.specs.Expand.{chain_part, path_by, node_part, path_part}
use Rattle.plantheory.proofs.Under.{Under, itself, under_held, machine_apart}
use Rattle.plantheory.proofs.Visits.{all_map, all_append, visits, trail_append}
use Rattle.plantheory.proofs.Chain.{Leaving, crosses, Earlier, Chained, Linked, chain_simple, chained}

-- ---- the clauses of the expansion

-- a machine's path goes by the names to its last node, which is left then
pub path_last : (r : Rows) (part : ℕ → ℕ → List ℕ) (m x : ℕ) {u : ℕ} → r.last m x ≡ some u
    → path_by r part m x ≡ chain_part nodes r.before r.by part u ++ part u x
unfolding path_by
path_last r part m x e = rw e

-- a plain node has no part
pub part_plain : (k : ℕ) (t : Tree) (r : Rows) (n x : ℕ) → t.below n ≡ none → node_part k t r n x ≡ []
unfolding node_part
part_plain zero t r n x e = refl
part_plain (suc k) t r n x e = rw e

-- the part of a refined node is the path of the machine below
pub part_refined : (k : ℕ) (t : Tree) (r : Rows) (n x : ℕ) {m : ℕ} → t.below n ≡ some m → node_part (suc k) t r n x ≡ path_part k t r m x
unfolding node_part
part_refined k t r n x e = rw e

-- ---- the path of a machine

-- node d is below a node of machine m
abbrev pub Held : Tree → ℕ → ℕ → Type 0
Held t m d = (v : ℕ) × (t.owner v ≡ some m) × Under t v d

-- From state e the list leads to a state from which x climbs as from a node of machine m that has no transition that counts for x, having
-- left machines at cost `left`; all that costs `cost`. It passes states below nodes of m, none of them twice.
pub record Ending (t : Tree) (top m x e cost : ℕ) (list : List ℕ) : Type 0 where
  pub node : ℕ
  pub owned : t.owner node ≡ some m
  pub free : counting t node x ≡ none
  pub at : Arrival
  pub left : ℕ
  pub runs : run_in t top e list ≡ some at
  pub climbs : climb t top at.node x ≡ past left (climb t top node x)
  pub exact : at.cost + left ≡ cost
  pub held : All (Held t m) (trail t top e list)
  pub simple : Distinct (trail t top e list)

-- an end in m itself is an exit of m
pub ending_exit : {t : Tree} → Sound t → {m f x e cost : ℕ} {list : List ℕ} → t.start m ≡ some f → Enters t f e → Ending t m m x e cost list
    → exit_by t m x list ≡ some cost
ending_exit {t} s {m} {x = x} {e = e} {list = list} st en end =
    parts_exit t m x list
    (record {
      state = e;
      at = end.at;
      left = end.left + 0;
      begins = start_enters s st en;
      runs = end.runs;
      climbs = end.climbs ∙ ap (past end.left) (climb_top t m end.node x end.owned end.free);
      exact = omega (arith, end.exact);
    })

module _ {t : Tree} (s : Sound t) (r : Rows) (attained : (m f : ℕ) → t.start m ≡ some f → Attained t r m f) (top : ℕ) where
  -- the nodes of machine m can be left, each by its part
  abbrev Lower : ℕ → (ℕ → ℕ → List ℕ) → Type 0
  Lower m part = (u e cost x : ℕ) → t.owner u ≡ some m → x < commands → Enters t u e → node_exit t r u x ≡ some cost
      → Leaving t top u x e cost (part u x)

  -- node n of machine m is reached at cost c
  abbrev Reached : ℕ → ℕ → ℕ → Type 0
  Reached m n c = (t.owner n ≡ some m) × (r.cost n ≡ some c)

  -- the names of a row link its nodes
  row_linked : {m n c : ℕ} (part : ℕ → ℕ → List ℕ) → Lower m part → Named t r m n c → Linked t top r.before r.by part (Reached m) n c
  row_linked {m} {n} {c} part lower name =
      let parts = move_parts t r name.node name.command name.moves in
      record {
        node = name.node;
        command = name.command;
        node_cost = name.node_cost;
        step_cost = parts.exit_cost + parts.transition.cost;
        names_node = name.before;
        names_command = name.by;
        reached = (name.owned, name.reached);
        crossed =
            λ e en.
            crosses s (lower name.node e parts.exit_cost name.command name.owned name.command_range en parts.exit)
            (climb_own t top name.node name.command parts.transition parts.has)
            (λ f there. subst (λ (v : ℕ). Enters t v f) parts.target there);
        exact = omega (arith, parts.exact, name.exact);
      }

  -- every reached node of a machine is reached by its chain
  row_chained : {m f e n c : ℕ} (part : ℕ → ℕ → List ℕ) → Lower m part → t.start m ≡ some f → Enters t f e
      → t.owner n ≡ some m → r.cost n ≡ some c → (j : ℕ) × (iterate r.before j n ≡ some f)
      × Chained t top r.before f e (λ v. t.owner v ≡ some m) n c j (chain_part nodes r.before r.by part n)
  row_chained {m} {f} {e} {n} {c} part lower st en own_n cost =
      let row = attained m f st in
      let (j, short, way) = row.chain n c own_n cost in (
        j,
        way,
        chained t top r.before f e row.start_before (λ v. t.owner v ≡ some m) (machine_apart s m) r.by part (Reached m)
            (λ v d reach. reach.0)
            (λ d reach. some_same reach.1 row.start_cost)
            (λ v d other reach. row_linked part lower (row.named v d reach.0 other reach.1))
            en j nodes n c (omega arith) way (own_n, cost),
      )

  -- the path of a machine ends in it, at its exit cost
  path_ending : {m f e : ℕ} (x c : ℕ) (part : ℕ → ℕ → List ℕ) → Lower m part → t.start m ≡ some f → Enters t f e
      → x < commands → r.exit m x ≡ some c → Ending t top m x e c (path_by r part m x)
  path_ending {m} {f} {e} x c part lower st en range exit =
      let row = attained m f st in
      let last = row.ended x c range exit in
      let u : ℕ = last.node in
      let (j, names, way) = row_chained part lower st en last.owned last.reached in
      let out = lower u way.state last.node_exit_cost x last.owned range way.enters last.exits in
      let chain : List ℕ = chain_part nodes r.before r.by part u in
      let states : trail t top e (chain ++ part u x) ≡ visits t top e chain ++ trail t top way.state (part u x) =
      trail_append t top e chain (part u x) way.runs in
      subst (Ending t top m x e c) (sym (path_last r part m x last.last))
      (record {
        node = u;
        owned = last.owned;
        free = last.free;
        at = onto (record { node = way.state; cost = last.node_cost }) out.at;
        left = out.left;
        runs = run_join (step_in t top) e chain (part u x) way.runs out.runs;
        climbs = out.climbs;
        exact = omega (arith, out.exact, last.exact);
        held =
            rw states
            (all_append (Held t m) (visits t top e chain) (trail t top way.state (part u x))
            (all_map (Earlier t r.before f (λ v. t.owner v ≡ some m) j) (Held t m)
            (λ d early. let (v, i, less, names_v, own_v, below_v) = early in (v, own_v, below_v)) (visits t top e chain) way.earlier)
            (all_map (Under t u) (Held t m) (λ d below_u. (u, last.owned, below_u)) (trail t top way.state (part u x)) out.under));
        simple =
            rw states
            (chain_simple t top r.before f e row.start_before (λ v. t.owner v ≡ some m) (machine_apart s m) j last.owned names
            (visits t top e chain) (trail t top way.state (part u x)) way.earlier way.simple out.under out.simple);
      })

  -- ---- the part of a node

  -- a plain node is where it is entered
  leave_plain : {u : ℕ} (x : ℕ) → Leaving t top u x u 0 []
  leave_plain {u} x =
      record {
        at = record { node = u; cost = 0 };
        left = 0;
        runs = run_nil (step_in t top) u;
        climbs = past_zero (climb t top u x);
        exact = refl;
        under = rw (trail_nil t top u) (itself refl, tt);
        simple = rw (trail_nil t top u) (tt, tt);
      }

  -- a refined node is left by the path of the machine below it
  leave_refined : {u b x e d : ℕ} {list : List ℕ} → Inside t top u → t.holder b ≡ some u → Ending t top b x e d list
      → Leaving t top u x e (d + t.leave b) list
  leave_refined {u} {b} {x} {e} {d} {list} i hold end =
      let on = climb_on s top x end.owned (inside_apart s hold i (own end.owned) end.owned) hold end.free in
      record {
        at = end.at;
        left = end.left + t.leave b;
        runs = end.runs;
        climbs = end.climbs ∙ ap (past end.left) on ∙ past_past end.left (t.leave b) (climb t top u x);
        exact = omega (arith, end.exact);
        under =
            all_map (Held t b) (Under t u) (λ k inner. let (v, own_v, below_v) = inner in under_held hold own_v below_v)
            (trail t top e list) end.held;
        simple = end.simple;
      }

  -- by its part a node is left at its exit cost, if the fuel is enough for the levels below it
  pub leave_part_lem : (k : ℕ) {u m d e cost : ℕ} (x : ℕ) → t.owner u ≡ some m → Deep t m d → levels ≤ d + k → Inside t top u → x < commands
      → Enters t u e → node_exit t r u x ≡ some cost → Leaving t top u x e cost (node_part k t r u x)
  leave_part_lem zero {u} {m} x own_u depth room i range en exit = absurd (omega (arith, deep_small s (s.owner_used u m own_u).1 depth))
  leave_part_lem (suc k) {u} x own_u depth room i range (plain bel) exit =
      subst₂ (λ (c : ℕ) (list : List ℕ). Leaving t top u x u c list) (some_same (exit_plain t r u x bel) exit)
      (sym (part_plain (suc k) t r u x bel)) (leave_plain x)
  leave_part_lem (suc k) {u} {m} {d} {e} {cost} x own_u depth room i range (down {b = b} {f = f} bel st en) exit =
      let hold = s.below_held u b bel in
      let (c, below_exit, same) = refined_exit t r u x bel exit in
      let lower : Lower b (node_part k t r) =
      λ v g a y own_v range_y en_v. leave_part_lem k y own_v (deep_below s own_u bel depth) (omega arith)
      (inside_wider s hold i (own own_v)) range_y en_v in
      subst₂ (λ (c : ℕ) (list : List ℕ). Leaving t top u x e c list) same (sym (part_refined k t r u x bel))
      (leave_refined i hold (path_ending x c (node_part k t r) lower st en range below_exit))

  -- with fuel for all levels every node of the tree inside top can be left so
  pub leave_node : {u m e cost : ℕ} (x : ℕ) → t.owner u ≡ some m → Inside t top u → x < commands → Enters t u e → node_exit t r u x ≡ some cost
      → Leaving t top u x e cost (node_part levels t r u x)
  leave_node {u} {m} x own_u =
      let (f, used) = s.owner_used u m own_u in
      let (d, small, depth) = deep s used in
      leave_part_lem levels x own_u depth (omega arith)

-- the path of a machine is its exit, at its exit cost, if the fuel is enough for the levels below
pub path_exit : {t : Tree} → Sound t → (r : Rows) → ((m f : ℕ) → t.start m ≡ some f → Attained t r m f) → (k : ℕ) {m f d : ℕ} (x c : ℕ)
    → t.start m ≡ some f → Deep t m d → levels ≤ d + k → x < commands → r.exit m x ≡ some c → exit_by t m x (path_part k t r m x) ≡ some c
path_exit {t} s r attained k {m} {f} x c st depth room range exit =
    let (e, en) = enters s (s.start_owned m f st) in
    ending_exit s st en
    (path_ending s r attained m x c (node_part k t r)
    (λ u g cost y own_u range_y en_u. leave_part_lem s r attained m k y own_u depth room (own own_u) range_y en_u) st en range exit)
