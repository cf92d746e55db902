-- The row of a stale machine, below which nothing is stale, filled from a search over its nodes: the rows stay true. Assumes nothing.
use mathlib.Core.Path.{◌≡◌, refl, sym, ◌∙◌, ap, subst}
use mathlib.Core.Bool.{true, false}
use mathlib.Core.Option.{Option, some}
use mathlib.Core.List.{List}
use Prim.Native.Nat.{ℕ, ◌*◌, ◌≤◌, ◌<◌}
use native.Mathlib.Omega.{arith}
use lib.ListN.{length}
use Rattle.definitions.specs.Limits.{commands}
use Rattle.definitions.specs.Tree.{Tree, Sound}
use Rattle.definitions.specs.Step.{Arrival}
use Rattle.definitions.specs.Sheet.{Rows}
use Rattle.definitions.specs.Truth.{node_exit, move, TrueRows}
use Rattle.definitions.proofs.Options.{bind_some, some_same}
use Rattle.definitions.proofs.LocalTruth.{move_owned}
use Rattle.rows.proofs.Locality.{SameMoves, same_exit, same_move}
use Rattle.search.specs.Search.{Certificate, largest_move, Tables, move_of}
use Rattle.search.proofs.Reading.{move_some, move_row, row_words}
use Rattle.search.specs.Tables.{Tabled}
use Rattle.refreshing.specs.Parts.{Fills, Members, placed, NodesFilled, Way, Cheapest, ExitFilled, ExitsKept, member_move}
use Rattle.definitions.proofs.Reached.{own_exit_bound}
use Rattle.refreshing.proofs.Bounds.{below_other, move_bound}
use Rattle.refreshing.proofs.Filling.{fill_true}
use Rattle.refreshing.proofs.Certified.{certified_relaxed, certified_attained}

-- ---- what machine m reads is the same where the exit costs of the others are

module _ {t : Tree} (sound : Sound t) {m : ℕ} {r q : Rows} (kept : ExitsKept m r q) where
  -- its moves
  kept_moves : SameMoves t t r q m
  kept_moves =
      record {
        machine = record {
          start = refl;
          owned = λ n own. own;
          owner = λ n own. own;
          below = λ n own. refl;
          counting = λ n x own range. refl;
          leave = λ n b own down. refl;
        };
        below = λ n b x own down range. kept.same b x (below_other sound own down);
      }

  -- its nodes' own exits
  pub kept_exit : (n x : ℕ) → t.owner n ≡ some m → x < commands → node_exit t q n x ≡ node_exit t r n x
  kept_exit n x own range = same_exit kept_moves n x own range

  pub kept_move : (n x : ℕ) → t.owner n ≡ some m → x < commands → move t q n x ≡ move t r n x
  kept_move n x own range = same_move kept_moves n x own range

-- a way out is one wherever the distance and the node's own exit are the same
way_kept : {t : Tree} {r q : Rows} {n x d : ℕ} {o p : Option ℕ} → p ≡ o → node_exit t q n x ≡ node_exit t r n x → Way t r n o x d
    → Way t q n p x d
way_kept far same way =
    record {
      node_cost = way.node_cost;
      node_exit_cost = way.node_exit_cost;
      reached = far ∙ way.reached;
      free = way.free;
      exits = same ∙ way.exits;
      exact = way.exact;
    }

-- so the cheapest way out is the same
pub cheapest_kept : {t : Tree} {r q : Rows} {members : ℕ → ℕ} {distance far : ℕ → Option ℕ} {x j cost node : ℕ}
    → ((i : ℕ) → i < j → far i ≡ distance i) → ((i : ℕ) → i < j → node_exit t q (members i) x ≡ node_exit t r (members i) x)
    → Cheapest t r members distance x j cost node → Cheapest t q members far x j cost node
cheapest_kept far same best =
    record {
      least = λ i d small way. best.least i d small (way_kept (sym (far i small)) (sym (same i small)) way);
      attained = λ there.
          let (i, small, node, way) = best.attained there in
          (i, small, node, way_kept (far i small) (same i small) way);
      top = best.top;
      never = best.never;
    }

-- ---- the tables and the row

module _ {t : Tree} (sound : Sound t) {r : Rows} (rows : TrueRows t r) {m s : ℕ} (used : t.start m ≡ some s) (stale : r.stale m ≡ true)
    (below : (n b : ℕ) → t.owner n ≡ some m → t.below n ≡ some b → r.stale b ≡ false) {k : ℕ} {members places : ℕ → ℕ}
    (g : Members t m k members places) where
  -- the own exits of the machine's nodes are bounded
  pub exits_bound : (i x e : ℕ) → i < k → x < commands → node_exit t r (members i) x ≡ some e → e ≤ largest_move
  exits_bound i x e small range exits =
      omega (arith, own_exit_bound sound r rows (members i) (λ b bel. below (members i) b (g.owned i small) bel) x e range exits)

  module _ {target price : List ℕ} (table : Tabled (member_move t r members places) k target price) where
    -- the tables are what the search asks
    pub moves_tables : commands * k ≤ length target → commands * k ≤ length price → Tables k (places s) target price
    moves_tables targets prices =
        record {
          has_source = (g.found s (sound.start_owned m s used)).0;
          small = g.small;
          targets = targets;
          prices = prices;
          inside = λ i x b e.
              let (small, there) = move_some target price i x k e in
              let range = (row_words target price i x there).0 in
              let (a, has, same) =
              bind_some (move t r (members i) x) (λ a. some (record { node = places a.node; cost = a.cost }))
              (sym (table.moves i x small range) ∙ there) in
              let at : ◌≡◌ {A = Arrival} (record { node = places a.node; cost = a.cost }) b = some_same refl same in
              subst (λ (v : ℕ). v < k) (ap (λ (c : Arrival). c.node) at)
              (g.found a.node (move_owned sound r (members i) x (g.owned i small) has)).0;
          cheap = λ i x b e.
              let (small, there) = move_some target price i x k e in
              let range = (row_words target price i x there).0 in
              let (a, has, same) =
              bind_some (move t r (members i) x) (λ a. some (record { node = places a.node; cost = a.cost }))
              (sym (table.moves i x small range) ∙ there) in
              let at : ◌≡◌ {A = Arrival} (record { node = places a.node; cost = a.cost }) b = some_same refl same in
              omega (
                arith,
                ap (λ (c : Arrival). c.cost) at,
                move_bound sound r rows (members i) (λ c bel. below (members i) c (g.owned i small) bel) x has,
              );
        }

    -- the rows with what the search found are true
    pub searched_true : {q : Rows} {distance place command : ℕ → Option ℕ}
        → Certificate k (places s) k (move_of k target price) distance place command → Fills t m r q
        → NodesFilled k members distance place command q
        → ((x : ℕ) → x < commands → ExitFilled t r members distance k x (q.exit m x) (q.last m x)) → TrueRows t q
    searched_true {q} {distance} cert fills filled exits =
        let kept : ExitsKept m r q = record { same = fills.exit } in
        let steps : (i x : ℕ) → i < k → x < commands → move_of k target price i x ≡ placed places (move t q (members i) x) =
        λ i x small range.
        move_row target price i x k small
        ∙ table.moves i x small range
        ∙ ap (placed places) (sym (kept_move sound kept (members i) x (g.owned i small) range)) in
        let filled_exits : (x : ℕ) → x < commands → ExitFilled t q members distance k x (q.exit m x) (q.last m x) =
        λ x range.
        let e = exits x range in
        record {
          least = e.least;
          node = e.node;
          cheapest = cheapest_kept (λ i small. refl) (λ i small. kept_exit sound kept (members i) x (g.owned i small) range) e.cheapest;
          says_exit = e.says_exit;
          says_last = e.says_last;
        } in
        let bound : (i x e : ℕ) → i < k → x < commands → node_exit t q (members i) x ≡ some e → e ≤ largest_move =
        λ i x e small range leaves.
        exits_bound i x e small range (sym (kept_exit sound kept (members i) x (g.owned i small) range) ∙ leaves) in
        fill_true sound rows used stale below fills
        (certified_relaxed sound q used g steps cert filled filled_exits bound)
        (certified_attained sound q used g steps cert filled filled_exits bound)
