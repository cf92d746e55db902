-- What a search over the tables finds is what the search of a plan has to find: every reached node belongs to an opened machine, since only
-- such nodes have moves and their moves lead to such nodes. Assumes nothing.
use mathlib.Core.Path.{◌≡◌, refl, sym, ◌∙◌, subst}
use mathlib.Core.Logic.{⊎_elim}
use mathlib.Core.Bool.{Bool, true, false}
use mathlib.Core.Option.{Option, none, some}
use mathlib.Core.List.{List}
use Prim.Native.Nat.{ℕ, ◌<◌}
use native.Mathlib.Omega.{arith}
use Rattle.definitions.specs.Limits.{nodes, commands}
use Rattle.definitions.specs.Tree.{Tree, Sound}
use Rattle.definitions.specs.Step.{Arrival}
use Rattle.definitions.specs.Book.{tree_of}
use Rattle.definitions.specs.Sheet.{Rows, rows_of}
use Rattle.definitions.specs.Truth.{TrueRows}
use Rattle.definitions.proofs.Options.{none_some, some_same, decided, equal_or_not}
use Rattle.definitions.proofs.Runs.{Bounded}
use Rattle.plantheory.specs.Search.{opened_for, plan_move, Accounted, PlanSearched}
use Rattle.plantheory.proofs.Landing.{Opening, opening_for, opened_first, plan_parts, move_landed}
use Rattle.plantheory.proofs.Bounds.{plan_move_cost}
use Rattle.search.specs.Search.{Nearer, Certificate, Tables, Searched, move_of}
use Rattle.search.specs.Tables.{TableRoom, FoundRoom, Tabled}
use Rattle.search.proofs.Reading.{move_some, move_row, row_words}
use Rattle.search.proofs.Cut.{cut, cut_at_lem, cut_start, cut_bounded}
use Rattle.stepping.proofs.Laws.{used_range}
use Rattle.crossing.specs.Crossing.{Crossable, Crossed}
use Rattle.crossing.specs.Parts.{in_opened, open_move}
use Rattle.crossing.proofs.Tabling.{in_used, used_in_lem, open_move_lem, shut_move}

module _ {t : Tree} (sound : Sound t) (r : Rows) {opened : ℕ → Bool} (opening : Opening t opened) {target price : List ℕ}
    (table : Tabled (open_move t r opened) nodes target price) where
  -- a move of the tables is a move of the search from a node in an opened machine, and leads to one
  pub record TableMove (n x : ℕ) (b : Arrival) : Type 0 where
    pub range : x < commands
    pub plan : plan_move t r opened n x ≡ some b
    pub lands : in_opened t opened b.node ≡ true
    pub small : b.node < nodes

  table_move : (n x : ℕ) {b : Arrival} → move_of nodes target price n x ≡ some b → TableMove n x b
  table_move n x {b} e =
      let (node, there) = move_some target price n x nodes e in
      let range = (row_words target price n x there).0 in
      let moves : open_move t r opened n x ≡ some b = sym (table.moves n x node range) ∙ there in
      ⊎_elim
      (λ (on : in_opened t opened n ≡ true).
      let plan : plan_move t r opened n x ≡ some b = sym (open_move_lem t r opened n x on) ∙ moves in
      let (m, own, here) = in_used t opened n on in
      let at = (move_landed sound r opening own here (plan_parts t r opened n x plan)).position in
      record {
        range = range;
        plan = plan;
        lands = used_in_lem t opened b.node at.owned at.machine_opened;
        small = sound.node_range b.node at.machine at.owned;
      })
      (λ (off : in_opened t opened n ≡ false). absurd (none_some (shut_move t r opened n x off) moves)) (decided (in_opened t opened n))

  -- the tables are what the search asks
  pub tables_ready : TrueRows t r → ((m : ℕ) → r.stale m ≡ false) → TableRoom target price → {a : ℕ} → a < nodes → Tables nodes a target price
  tables_ready rows fresh room source =
      record {
        has_source = source;
        small = omega arith;
        targets = omega (arith, room.target_room);
        prices = omega (arith, room.price_room);
        inside = λ n x b e. (table_move n x e).small;
        cheap = λ n x b e. omega (arith, plan_move_cost sound r rows fresh opened n x (table_move n x e).plan);
      }

  module _ {a b : ℕ} (first : in_opened t opened a ≡ true) {distance before by : ℕ → Option ℕ}
      (cert : Certificate nodes a b (move_of nodes target price) distance before by) where
    -- a reached node belongs to an opened machine
    reached_opened : (n c : ℕ) → distance n ≡ some c → in_opened t opened n ≡ true
    reached_opened n c near =
        ⊎_elim (λ (same : n ≡ a). subst (λ (u : ℕ). in_opened t opened u ≡ true) (sym same) first)
        (λ (other : n ≡ a → ⊥). let led = cert.named n c other near in (table_move led.node led.command led.moves).lands)
        (equal_or_not n a)

    -- a move of the search from a node nearer than b is accounted for
    accounted_near : (q d x : ℕ) (m : Arrival) → distance q ≡ some d → Nearer distance b d → x < commands → plan_move t r opened q x ≡ some m
        → Bounded distance d m
    accounted_near q d x m near nearer range plan =
        let node = cert.inside q d near in
        cert.relaxed q d x m near nearer
        (move_row target price q x nodes node ∙ table.moves q x node range ∙ open_move_lem t r opened q x (reached_opened q d near) ∙ plan)

    -- the bounds that no move makes less: the distances, cut off at that of b
    pub record Bounds : Type 0 where
      pub bound : ℕ → Option ℕ
      pub start_bound : bound a ≡ some 0
      pub end_bound : bound b ≡ distance b
      pub accounted : Accounted (plan_move t r opened) bound

    bounds : Bounds
    bounds = go (distance b) refl
      where
        go : (o : Option ℕ) → distance b ≡ o → Bounds
        go none far =
            record {
              bound = distance;
              start_bound = cert.start_distance;
              end_bound = refl;
              accounted = λ q d x m near range plan. accounted_near q d x m near (λ g e. absurd (none_some far e)) range plan;
            }
        go (some g) near =
            record {
              bound = cut g distance;
              start_bound = cut_start distance g cert.start_distance;
              end_bound = cut_at_lem distance g near ∙ sym near;
              accounted = λ q d x m value range plan.
                  cut_bounded distance g m
                  (λ c at less. accounted_near q c x m at (λ h e. omega (arith, some_same near e)) range plan) value;
            }

    pub certified_plan : PlanSearched (plan_move t r opened) a b distance before by
    certified_plan =
        record {
          start_distance = cert.start_distance;
          start_before = cert.start_before;
          bound = bounds.bound;
          start_bound = bounds.start_bound;
          end_bound = bounds.end_bound;
          accounted = bounds.accounted;
          named = λ n c other near.
              let led = cert.named n c other near in
              record {
                node = led.node;
                command = led.command;
                node_cost = led.node_cost;
                step_cost = led.step_cost;
                names_node = led.names_node;
                names_command = led.names_command;
                reached = led.reached;
                moves = (table_move led.node led.command led.moves).plan;
                exact = led.exact;
              };
          chain = λ n c near. let (j, short, way) = cert.chain n c near in (j, omega arith, way);
        }

-- ---- the whole search

module _ {book sheet : List ℕ} {a b : ℕ} (able : Crossable book sheet a b) {target price : List ℕ}
    (table : Tabled (open_move (tree_of book) (rows_of sheet) (opened_for (tree_of book) a b)) nodes target price) where
  opening : Opening (tree_of book) (opened_for (tree_of book) a b)
  opening = opening_for able.well_formed.sound able.from_used.1 able.to_used.1

  -- the search can begin
  pub cross_ready : TableRoom target price → Tables nodes a target price
  cross_ready room =
      tables_ready able.well_formed.sound (rows_of sheet) opening table able.true_sheet.rows able.fresh room
      (used_range book able.well_formed a able.from_used)

  -- and leaves what is to be found
  pub cross_done : {dist before by dist' before' by' : List ℕ} → FoundRoom dist' before' by'
      → Searched nodes a b target price dist before by dist' before' by' → Crossed (tree_of book) (rows_of sheet) a b dist' before' by'
  cross_done room done =
      record {
        room = room;
        searched =
            certified_plan able.well_formed.sound (rows_of sheet) opening table
            (used_in_lem (tree_of book) (opened_for (tree_of book) a b) a able.from_used.1
            (opened_first (tree_of book) b able.from_used.1))
            done.certificate;
      }
