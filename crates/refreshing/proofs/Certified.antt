-- A search over the nodes of one machine, at their places, fills its row. Assumes nothing.
use mathlib.Core.Path.{◌≡◌, refl, sym, ◌∙◌, ap, subst, subst₂}
use mathlib.Core.Option.{Option, none, some}
use mathlib.Core.List.{[], ◌∷◌, ◌++◌}
use Prim.Native.Nat.{ℕ, zero, suc, ◌+◌, ◌≤◌, ◌<◌}
use native.Mathlib.Omega.{arith}
use Rattle.definitions.specs.Basics.{◌>>=◌, iterate}
use Rattle.definitions.specs.Limits.{commands}
use Rattle.definitions.specs.Tree.{Tree, Sound}
use Rattle.definitions.specs.Step.{counting, Arrival}
use Rattle.definitions.specs.Sheet.{Rows}
use Rattle.definitions.specs.Truth.{node_exit, move, Named, Ended}
use Rattle.definitions.proofs.Options.{bind_some, none_some, some_same}
use Rattle.definitions.proofs.Path.{counting_range}
use Rattle.definitions.proofs.Runs.{run_nil}
use Rattle.definitions.proofs.Reaching.{along_names, run_on, Reaches}
use Rattle.definitions.proofs.Local.{Relaxed, Attained, move_parts}
use Rattle.definitions.proofs.Alone.{MovesRelaxed}
use Rattle.definitions.proofs.LocalTruth.{move_owned}
use Rattle.search.specs.Search.{Certificate, largest_move, unreached}
use Rattle.search.proofs.Reading.{reached_is, reached_some, reached_none, number_is, number_none}
use Rattle.refreshing.specs.Parts.{Members, placed, NodesFilled, Way, ExitFilled}

module _ {t : Tree} (sound : Sound t) (q : Rows) {m s : ℕ} (used : t.start m ≡ some s) {k : ℕ} {members places : ℕ → ℕ}
    (g : Members t m k members places) {step : ℕ → ℕ → Option Arrival} {distance before by : ℕ → Option ℕ}
    (table : (i x : ℕ) → i < k → x < commands → step i x ≡ placed places (move t q (members i) x))
    (cert : Certificate k (places s) k step distance before by) where
  first : t.owner s ≡ some m
  first = sound.start_owned m s used

  -- a move of the machine is one of the table
  step_at : {n x : ℕ} {b : Arrival} → t.owner n ≡ some m → move t q n x ≡ some b
      → step (places n) x ≡ some (record { node = places b.node; cost = b.cost })
  step_at {n} {x} {b} own e =
      let (small, there) = g.found n own in
      let range = counting_range sound n x _ (move_parts t q n x e).has in
      table (places n) x small range ∙ rw (there, e)

  -- a move of the table is one of the machine
  move_at : {i n x c : ℕ} → i < k → t.owner n ≡ some m → x < commands → step i x ≡ some (record { node = places n; cost = c })
      → move t q (members i) x ≡ some (record { node = n; cost = c })
  move_at {i} {n} {x} {c} small own range e =
      let (b, has, same) =
      bind_some (move t q (members i) x) (λ b. some (record { node = places b.node; cost = b.cost }))
      (sym (table i x small range) ∙ e) in
      let at : ◌≡◌ {A = Arrival} (record { node = places b.node; cost = b.cost }) (record { node = places n; cost = c }) =
      some_same refl same in
      let place : places b.node ≡ places n = ap (λ (a : Arrival). a.node) at in
      let node : b.node ≡ n =
      sym (g.found b.node (move_owned sound q (members i) x (g.owned i small) has)).1 ∙ ap members place ∙ (g.found n own).1 in
      let cost : b.cost ≡ c = ap (λ (a : Arrival). a.cost) at in
      has ∙ ap {B = Option Arrival} some (λ j. record { node = node j; cost = cost j })

  -- the source is the start's place
  at_source : {n : ℕ} → t.owner n ≡ some m → places n ≡ places s → n ≡ s
  at_source {n} own same = sym (g.found n own).1 ∙ ap members same ∙ (g.found s first).1

  -- no place names the source's
  name_at : {i c : ℕ} → distance i ≡ some c → {j : ℕ} → before i ≡ some j → i ≡ places s → ⊥
  name_at {i} {c} cost {j} name same = none_some (ap before same ∙ cert.start_before) name

  -- the distance of a node, by its place
  abbrev pub far : ℕ → Option ℕ
  far n = distance (places n)

  -- every move of the machine is accounted for
  pub far_relaxed : MovesRelaxed t q m far
  far_relaxed n c x b own cost e = cert.relaxed (places n) c x _ cost (λ g at. omega (arith, cert.inside k g at)) (step_at own e)

  -- a place is reached by moves of the machine at its distance
  place_reached : (j i c : ℕ) → i < k → distance i ≡ some c → iterate before j i ≡ some (places s) → Reaches (move t q) s (members i) c
  place_reached j i c small cost way =
      along_names before (λ v. v < k → (d : ℕ) → distance v ≡ some d → Reaches (move t q) s (members v) d)
      (λ low d at. subst₂ (Reaches (move t q) s) (sym (g.found s first).1) (some_same cert.start_distance at) ([], run_nil (move t q) s))
      (λ v u name reach low d at.
      let led = cert.named v d (name_at at name) at in
      let same : u ≡ led.node = some_same name led.names_node in
      let (xs, there) =
      subst (λ (w : ℕ). (w < k → (d : ℕ) → distance w ≡ some d → Reaches (move t q) s (members w) d)) same reach led.node_range led.node_cost
      led.reached in
      let here : step led.node led.command ≡ some (record { node = places (members v); cost = led.step_cost }) =
      subst (λ (w : ℕ). step led.node led.command ≡ some (record { node = w; cost = led.step_cost })) (sym (g.back v low)) led.moves in
      subst (Reaches (move t q) s (members v)) (sym led.exact) (
        xs ++ (led.command ∷ []),
        run_on (move t q) s led.command xs there (move_at led.node_range (g.owned v low) led.command_range here),
      ))
      j i way small c cost

  -- so is every node that has a distance
  pub far_reached : (n c : ℕ) → t.owner n ≡ some m → far n ≡ some c → Reaches (move t q) s n c
  far_reached n c own cost =
      let (small, there) = g.found n own in
      let (j, short, way) = cert.chain (places n) c cost in
      subst (λ (v : ℕ). Reaches (move t q) s v c) there (place_reached j (places n) c small cost way)

  -- ---- the rows that are filled with it

  module _ (filled : NodesFilled k members distance before by q) where
    -- a node's cost, names, by its place
    cost_at : {n : ℕ} → t.owner n ≡ some m → q.cost n ≡ distance (places n)
    cost_at {n} own =
        let (small, there) = g.found n own in
        ap q.cost (sym there) ∙ filled.cost (places n) small

    before_at : {n : ℕ} → t.owner n ≡ some m → q.before n ≡ (before (places n) >>= λ j. some (members j))
    before_at {n} own =
        let (small, there) = g.found n own in
        ap q.before (sym there) ∙ filled.before (places n) small

    by_at : {n : ℕ} → t.owner n ≡ some m → q.by n ≡ by (places n)
    by_at {n} own =
        let (small, there) = g.found n own in
        ap q.by (sym there) ∙ filled.by (places n) small

    -- a name of the search is a name of the row
    named_at : (n c : ℕ) → t.owner n ≡ some m → (n ≡ s → ⊥) → q.cost n ≡ some c → Named t q m n c
    named_at n c own other cost =
        let name = cert.named (places n) c (λ same. other (at_source own same)) (sym (cost_at own) ∙ cost) in
        record {
          node = members name.node;
          command = name.command;
          node_cost = name.node_cost;
          step_cost = name.step_cost;
          before = before_at own ∙ rw name.names_node;
          by = by_at own ∙ name.names_command;
          command_range = name.command_range;
          owned = g.owned name.node name.node_range;
          reached = filled.cost name.node name.node_range ∙ name.reached;
          moves = move_at name.node_range own name.command_range name.moves;
          exact = name.exact;
        }

    -- the names of the search lead to the start's place, so those of the row to the start
    chain_at : (j i c : ℕ) → i < k → distance i ≡ some c → iterate before j i ≡ some (places s) → iterate q.before j (members i) ≡ some s
    unfolding iterate
    chain_at zero i c small cost e =
        ap {B = Option ℕ} some (ap members (some_same refl e) ∙ (g.found s first).1)
    chain_at (suc j) i c small cost e =
        let (v, name, rest) = bind_some (before i) (iterate before j) e in
        let led = cert.named i c (name_at cost name) cost in
        let same : v ≡ led.node = some_same name led.names_node in
        let on : iterate before j led.node ≡ some (places s) = rw same at rest in
        let here : q.before (members i) ≡ some (members led.node) =
        filled.before i small ∙ ap (λ (o : Option ℕ). o >>= λ v. some (members v)) led.names_node in
        rw here (chain_at j led.node led.node_cost led.node_range led.reached on)

    -- ---- the exits

    module _ (exits : (x : ℕ) → x < commands → ExitFilled t q members distance k x (q.exit m x) (q.last m x))
        (bound : (i x e : ℕ) → i < k → x < commands → node_exit t q (members i) x ≡ some e → e ≤ largest_move) where
      -- a way out costs less than the word for none
      way_small : (i x : ℕ) {d : ℕ} → i < k → x < commands → Way t q (members i) (distance i) x d → d < unreached
      way_small i x small range way =
          omega (
            arith,
            cert.bound i way.node_cost way.reached,
            bound i x way.node_exit_cost small range way.exits,
            g.small,
            way.exact,
          )

      exit_relaxed : (n c x e : ℕ) → t.owner n ≡ some m → q.cost n ≡ some c → x < commands → counting t n x ≡ none → node_exit t q n x ≡ some e
          → (d : ℕ) × (q.exit m x ≡ some d) × (d ≤ c + e)
      exit_relaxed n c x e own cost range free leaves =
          let (small, there) = g.found n own in
          let fill = exits x range in
          let way : Way t q (members (places n)) (distance (places n)) x (c + e) =
          record {
            node_cost = c;
            node_exit_cost = e;
            reached = sym (cost_at own) ∙ cost;
            free = rw there free;
            exits = rw there leaves;
            exact = refl;
          } in
          let low = fill.cheapest.least (places n) (c + e) small way in
          (fill.least, fill.says_exit ∙ reached_is fill.least (omega (arith, way_small (places n) x small range way)), low)

      exit_ended : (x c : ℕ) → x < commands → q.exit m x ≡ some c → Ended t q m x c
      exit_ended x c range e =
          let fill = exits x range in
          let (is, there) = reached_some fill.least (sym fill.says_exit ∙ e) in
          let (i, small, node, way) = fill.cheapest.attained (omega (arith, fill.cheapest.top)) in
          record {
            node = members i;
            node_cost = way.node_cost;
            node_exit_cost = way.node_exit_cost;
            last =
                fill.says_last
                ∙ number_is fill.node (omega (arith, sound.node_range (members i) m (g.owned i small)))
                ∙ ap {B = Option ℕ} some node;
            owned = g.owned i small;
            free = way.free;
            reached = filled.cost i small ∙ way.reached;
            exits = way.exits;
            exact = sym is ∙ way.exact;
          }

      exit_none : (x : ℕ) → x < commands → q.exit m x ≡ none → q.last m x ≡ none
      exit_none x range e =
          let fill = exits x range in
          let none_there : fill.least ≡ unreached = reached_none fill.least (sym fill.says_exit ∙ e) in
          fill.says_last ∙ number_none fill.node (fill.cheapest.never none_there)

      -- ---- the row

      pub certified_relaxed : Relaxed t q m s
      certified_relaxed =
          record {
            start_cost = cost_at first ∙ cert.start_distance;
            moves = λ n c x b own cost e.
                let (d, there, low) = far_relaxed n c x b own (sym (cost_at own) ∙ cost) e in
                (d, cost_at (move_owned sound q n x own e) ∙ there, low);
            exits = exit_relaxed;
          }

      pub certified_attained : Attained t q m s
      certified_attained =
          record {
            start_cost = cost_at first ∙ cert.start_distance;
            start_before = before_at first ∙ rw cert.start_before;
            start_by = by_at first ∙ cert.start_by;
            named = named_at;
            chain = λ n c own cost.
                let (small, there) = g.found n own in
                let at : distance (places n) ≡ some c = sym (cost_at own) ∙ cost in
                let (j, short, way) = cert.chain (places n) c at in
                (j, omega (arith, g.small), rw there at (chain_at j (places n) c small at way));
            unreached = λ n own cost.
                let blank = cert.unreached (places n) (sym (cost_at own) ∙ cost) in
                record { cost = cost; before = before_at own ∙ rw blank.0; by = by_at own ∙ blank.1 };
            ended = exit_ended;
            no_exit = exit_none;
          }
