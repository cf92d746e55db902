-- The plan: by the names of the search, expanded, the station moves from a to b at the distance of b, passes no state twice, and no list
-- costs less; and where b is not reached there is no way. Assumes nothing.
use mathlib.Core.Path.{◌≡◌, refl, sym, ◌∙◌, ap, subst}
use mathlib.Core.Bool.{Bool, false}
use mathlib.Core.Option.{Option, none, some}
use mathlib.Core.List.{[], List, ◌∷◌, ◌++◌, append-nil}
use Prim.Native.Nat.{ℕ, ◌+◌, ◌≤◌}
use native.Mathlib.Omega.{arith}
use Rattle.definitions.specs.Basics.{iterate, Distinct}
use Rattle.definitions.specs.Limits.{nodes, levels}
use Rattle.definitions.specs.Tree.{Tree, Sound}
use Rattle.definitions.specs.Step.{Moves, passes}
use Rattle.definitions.specs.Costs.{LeastCost}
use Rattle.definitions.specs.Sheet.{Rows}
use Rattle.definitions.specs.Truth.{TrueRows}
use Rattle.definitions.specs.Calls.{Plan}
use Rattle.definitions.specs.Demand.{PlanBounds}
use Rattle.definitions.proofs.Options.{none_some, some_same}
use Rattle.definitions.proofs.Path.{Enters, plain, down}
use Rattle.definitions.proofs.Local.{LocalRows}
use Rattle.definitions.proofs.LocalTruth.{true_local}
use Rattle.definitions.proofs.Reaching.{along_names}
use Rattle.definitions.proofs.Simple.{trail, trail_nil, passes_trail, inside_root, moves_length, plan_largest}
use Rattle.plantheory.specs.Search.{opened_for, plan_move, PlanNamed, PlanSearched}
use Rattle.plantheory.specs.Expand.{node_part, plan_part}
use Rattle.plantheory.proofs.Landing.{Opening, opening_for, opened_first, opened_second, Position, plain_position}
use Rattle.plantheory.proofs.Landing.{plan_parts, move_landed, plan_range}
use Rattle.plantheory.proofs.Cheapest.{none_cheaper}
use Rattle.plantheory.proofs.Under.{itself, position_apart}
use Rattle.plantheory.proofs.Visits.{visits, trail_append}
use Rattle.plantheory.proofs.Chain.{crosses, Chained, Linked, chain_simple, chained}
use Rattle.plantheory.proofs.Expanded.{leave_node}

-- a plain node is entered where it is
plain_enters : {t : Tree} {n e : ℕ} → t.below n ≡ none → Enters t n e → e ≡ n
plain_enters bel (plain also) = refl
plain_enters bel (down held st en) = absurd (none_some bel held)

-- what the search finds from state a, in true rows with none stale
module _ {t : Tree} (s : Sound t) (r : Rows) (rows : TrueRows t r) (fresh : (m : ℕ) → r.stale m ≡ false) (opened : ℕ → Bool)
    (opening : Opening t opened) (a b : ℕ) (at_a : Position t opened a) (plain_a : t.below a ≡ none) (distance before by : ℕ → Option ℕ)
    (search : PlanSearched (plan_move t r opened) a b distance before by) where
  abbrev local : LocalRows t r
  local = true_local s r rows

  -- a reached node with a node before it is not a, and so has its names
  names : {n c u : ℕ} → before n ≡ some u → distance n ≡ some c → PlanNamed (plan_move t r opened) distance before by n c
  names {n} {c} {u} e reach =
      search.named n c (λ same. none_some search.start_before (subst (λ (v : ℕ). before v ≡ some u) same e)) reach

  -- every reached node is a position
  pub reached_position : (n c : ℕ) → distance n ≡ some c → Position t opened n
  reached_position n c reach =
      let (k, short, way) = search.chain n c reach in
      along_names before (λ v. (d : ℕ) → distance v ≡ some d → Position t opened v)
      (λ d at. at_a)
      (λ v u e at_u d reach_v.
      let name = names e reach_v in
      let at =
      subst (λ (w : ℕ). (k : ℕ) → distance w ≡ some k → Position t opened w) (some_same e name.names_node) at_u
      name.node_cost name.reached in
      (move_landed s r opening at.owned at.machine_opened (plan_parts t r opened name.node name.command name.moves)).position)
      k n way c reach

  -- the names of the search link its positions
  search_linked : (n c : ℕ) → (n ≡ a → ⊥) → distance n ≡ some c
      → Linked t t.root before by (node_part levels t r) (λ v d. distance v ≡ some d) n c
  search_linked n c other reach =
      let name = search.named n c other reach in
      let parts = plan_parts t r opened name.node name.command name.moves in
      let at = reached_position name.node name.node_cost name.reached in
      let range = plan_range s r opened name.node name.command name.moves in
      let landed = move_landed s r opening at.owned at.machine_opened parts in
      record {
        node = name.node;
        command = name.command;
        node_cost = name.node_cost;
        step_cost = parts.exit_cost + parts.cost;
        names_node = name.names_node;
        names_command = name.names_command;
        reached = name.reached;
        crossed =
            λ e en.
            crosses s
            (leave_node s r (λ m f st. local.attained m f st (fresh m)) t.root name.command at.owned
            (inside_root s at.owned) range en parts.exit)
            parts.finds landed.enters;
        exact = omega (arith, parts.exact, name.exact);
      }

  -- the plan leads along the names to b
  plan_chained : (c : ℕ) → distance b ≡ some c
      → (j : ℕ) × (iterate before j b ≡ some a) × Chained t t.root before a a (Position t opened) b c j (plan_part t r before by b)
  unfolding plan_part
  plan_chained c reach =
      let (j, short, way) = search.chain b c reach in (
        j,
        way,
        chained t t.root before a a search.start_before (Position t opened) (position_apart s opening) by (node_part levels t r)
            (λ v d. distance v ≡ some d) reached_position (λ d at. some_same at search.start_distance) search_linked (plain plain_a)
            j nodes b c (omega arith) way reach,
      )

  -- so it moves the station to b at its distance, and passes no state twice
  pub plan_moves : (c : ℕ) → t.below b ≡ none → distance b ≡ some c
      → Moves t a b (plan_part t r before by b) c × Distinct (passes t a (plan_part t r before by b))
  plan_moves c plain_b reach =
      let (j, back, way) = plan_chained c reach in
      let list : List ℕ = plan_part t r before by b in
      let same : way.state ≡ b = plain_enters plain_b way.enters in
      let passed : passes t a list ≡ visits t t.root a list ++ (way.state ∷ []) =
      passes_trail t a list
      ∙ ap (trail t t.root a) (sym (append-nil list))
      ∙ trail_append t t.root a list [] way.runs
      ∙ ap (λ (l : List ℕ). visits t t.root a list ++ l) (trail_nil t t.root way.state) in (
        way.runs ∙ ap (λ (n : ℕ). some (record { node = n; cost = c })) same,
        subst Distinct (sym passed)
            (chain_simple t t.root before a a search.start_before (Position t opened) (position_apart s opening) j
            (reached_position b c reach) back (visits t t.root a list) (way.state ∷ []) way.earlier way.simple
            (itself (sym same), tt) (tt, tt)),
      )

  -- a list to b costs at least its distance
  pub plan_least : Position t opened b → (xs : List ℕ) (c : ℕ) → Moves t a b xs c → (d : ℕ) × (distance b ≡ some d) × (d ≤ c)
  plan_least at_b xs c moves =
      let (d, bound, le) =
      none_cheaper s r local fresh opened opening search.bound search.accounted at_a.owned at_a.machine_opened plain_a
      at_b.owned at_b.machine_opened search.start_bound xs c moves in
      (d, sym search.end_bound ∙ bound, le)

-- what a plan of this list from a to b, at the distance of b, has to be: a cheapest list; and no way where b has no distance
abbrev pub Planned : Tree → ℕ → ℕ → List ℕ → Option ℕ → Type 0
Planned t a b list none = LeastCost t a b none
Planned t a b list (some cost) = Plan t a b cost list

-- so it is, whichever machines the search opens
pub planned_in : {t : Tree} → Sound t → (r : Rows) → TrueRows t r → ((m : ℕ) → r.stale m ≡ false) → (opened : ℕ → Bool) → Opening t opened
    → {a b : ℕ} → Position t opened a → t.below a ≡ none → Position t opened b → t.below b ≡ none → {distance before by : ℕ → Option ℕ}
    → PlanSearched (plan_move t r opened) a b distance before by → (o : Option ℕ) → distance b ≡ o → Planned t a b (plan_part t r before by b) o
planned_in s r rows fresh opened opening {a} {b} at_a plain_a at_b plain_b {distance} {before} {by} search none far =
    λ c moved.
    let (xs, moves) = moved in
    none_some far (plan_least s r rows fresh opened opening a b at_a plain_a distance before by search at_b xs c moves).1
planned_in {t} s r rows fresh opened opening {a} {b} at_a plain_a at_b plain_b {distance} {before} {by} search (some c) reach =
    let (moves, simple) = plan_moves s r rows fresh opened opening a b at_a plain_a distance before by search c plain_b reach in
    record {
      moves = moves;
      simple = simple;
      least = (
        (plan_part t r before by b, moves),
        λ d moved.
            let (xs, other) = moved in
            let (k, dist, le) = plan_least s r rows fresh opened opening a b at_a plain_a distance before by search at_b xs d other in
            omega (arith, some_same reach dist),
      );
    }

-- What the planner writes for two states is right: in true rows with none stale, from what the search over the machines above a and b
-- finds, the expanded list is a cheapest list at the distance of b, and there is no way exactly where b is not reached.
pub plan_good : {t : Tree} → Sound t → (r : Rows) → TrueRows t r → ((m : ℕ) → r.stale m ≡ false) → {a b m p : ℕ}
    → t.owner a ≡ some m → t.below a ≡ none → t.owner b ≡ some p → t.below b ≡ none → {distance before by : ℕ → Option ℕ}
    → PlanSearched (plan_move t r (opened_for t a b)) a b distance before by → Planned t a b (plan_part t r before by b) (distance b)
plan_good {t} s r rows fresh {a} {b} own_a plain_a own_b plain_b {distance} search =
    planned_in s r rows fresh (opened_for t a b) (opening_for s own_a own_b) (plain_position own_a (opened_first t b own_a) plain_a) plain_a
    (plain_position own_b (opened_second t a own_b) plain_b) plain_b search (distance b) refl

-- a plan has at most as many commands as there are states less 1, and it costs at most 255 × 65,535
pub plan_bounds : PlanBounds
plan_bounds t s a b cost list at plan =
    (omega (arith, moves_length s a b list cost at plan.moves plan.simple), plan_largest s a b cost at plan.least)
