-- What a search over the tables of all steps finds: the least costs of lists of commands. Assumes nothing.
use mathlib.Core.Path.{◌≡◌, refl, sym, ◌∙◌, ap}
use mathlib.Core.Logic.{◌⊎◌}
use mathlib.Core.Bool.{true, false}
use mathlib.Core.Option.{Option, none, some}
use mathlib.Core.List.{[], List, ◌∷◌}
use Prim.Native.Nat.{ℕ, ◌<◌}
use native.Mathlib.Omega.{arith}
use Rattle.definitions.specs.Basics.{Least}
use Rattle.definitions.specs.Limits.{nodes}
use Rattle.definitions.specs.Tree.{Tree, is_state, Sound}
use Rattle.definitions.specs.Step.{Arrival, run_by, step}
use Rattle.definitions.specs.Costs.{LeastCost}
use Rattle.definitions.proofs.Options.{none_some}
use Rattle.definitions.proofs.Runs.{run_first, run_cons, run_nil}
use Rattle.definitions.proofs.Simple.{state_test, step_state, step_range, step_cost}
use Rattle.definitions.proofs.Reaching.{Reaches}
use Rattle.search.specs.Search.{Certificate, Tables, move_of}
use Rattle.search.specs.Tables.{TableRoom, Tabled}
use Rattle.search.proofs.Reading.{move_some, move_row, row_words}
use Rattle.search.proofs.Least.{least}
use Rattle.flattening.specs.Flattening.{flat_move}
use Rattle.flattening.proofs.Laws.{state_move, no_move}

-- a step leads to a state
state_after : {t : Tree} → Sound t → (s x : ℕ) {a : Arrival} → step t s x ≡ some a → is_state t a.node ≡ true
state_after {t} sound s x e = let (m, own, plain) = step_state sound t.root s x e in state_test t own plain

module _ {t : Tree} (sound : Sound t) {target price : List ℕ} (table : Tabled (flat_move t) nodes target price) where
  -- a move of the tables is the step of a state
  table_move : (n x : ℕ) {b : Arrival} → move_of nodes target price n x ≡ some b → step t n x ≡ some b
  table_move n x {b} e =
      let (node, there) = move_some target price n x nodes e in
      let moves : flat_move t n x ≡ some b = sym (table.moves n x node (row_words target price n x there).0) ∙ there in
      go (is_state t n) refl moves
    where
      go : (c : _) → is_state t n ≡ c → flat_move t n x ≡ some b → step t n x ≡ some b
      go true on moves = sym (state_move t n x on) ∙ moves
      go false off moves = absurd (none_some (no_move t n x off) moves)

  -- and a step of a state is a move
  move_table : (n x : ℕ) {b : Arrival} → n < nodes → is_state t n ≡ true → step t n x ≡ some b → move_of nodes target price n x ≡ some b
  move_table n x small on e =
      move_row target price n x nodes small ∙ table.moves n x small (step_range sound t.root n x e).0 ∙ state_move t n x on ∙ e

  -- the tables are what the search asks
  pub spread_ready : TableRoom target price → {a : ℕ} → a < nodes → Tables nodes a target price
  spread_ready room source =
      record {
        has_source = source;
        small = omega arith;
        targets = omega (arith, room.target_room);
        prices = omega (arith, room.price_room);
        inside = λ n x b e. (step_range sound t.root n x (table_move n x e)).1;
        cheap = λ n x b e. omega (arith, step_cost sound t.root n x (table_move n x e));
      }

  -- lists of moves are lists of commands, from a state
  moves_run : (xs : List ℕ) (s : ℕ) {b : Arrival} → run_by (move_of nodes target price) s xs ≡ some b → run_by (step t) s xs ≡ some b
  moves_run [] s e = run_nil (step t) s ∙ sym (run_nil (move_of nodes target price) s) ∙ e
  moves_run (x ∷ xs) s e =
      let first = run_first (move_of nodes target price) s x xs e in
      run_cons (step t) s x xs (table_move s x first.step) (moves_run xs first.mid.node first.rest) ∙ ap some first.joins

  run_moves : (xs : List ℕ) (s : ℕ) {b : Arrival} → s < nodes → is_state t s ≡ true → run_by (step t) s xs ≡ some b
      → run_by (move_of nodes target price) s xs ≡ some b
  run_moves [] s small on e = run_nil (move_of nodes target price) s ∙ sym (run_nil (step t) s) ∙ e
  run_moves (x ∷ xs) s small on e =
      let first = run_first (step t) s x xs e in
      run_cons (move_of nodes target price) s x xs (move_table s x small on first.step)
      (run_moves xs first.mid.node (step_range sound t.root s x first.step).1 (state_after sound s x first.step) first.rest)
      ∙ ap some first.joins

  -- so what the search finds is the least cost
  pub spread_least : {a b : ℕ} → a < nodes → is_state t a ≡ true → {distance before by : ℕ → Option ℕ}
      → Certificate nodes a b (move_of nodes target price) distance before by → (v : ℕ) → (v ≡ b) ⊎ (distance b ≡ none) → LeastCost t a v (distance v)
  spread_least {a} small on {distance} cert v which = go (distance v) (least cert v which)
    where
      go : (o : Option ℕ) → Least (Reaches (move_of nodes target price) a v) o → LeastCost t a v o
      go none never = λ c (xs, moves). never c (xs, run_moves xs a small on moves)
      go (some c) ((xs, runs), cheapest) = ((xs, moves_run xs a runs), λ d (ys, moves). cheapest d (ys, run_moves ys a small on moves))
