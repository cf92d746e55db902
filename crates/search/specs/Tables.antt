-- Tables for the moves of up to 256 nodes, and what filling an entry, a row, the rows of the first k nodes leaves. The moves are any function's.
use Rattle.std.specs.Prelude.{◌≡◌, List, ℕ, ◌*◌, ◌<◌, length}
use Rattle.std.proofs.Math.Option.{Option, none}
use Rattle.definitions.specs.Limits.{nodes, commands}
use Rattle.definitions.specs.Step.{Arrival}
use Rattle.search.specs.Search.{row_move}

-- the tables have room for every node's moves
pub record TableRoom (target price : List ℕ) : Type 0 where
  pub target_room : length target ≡ commands * nodes
  pub price_room : length price ≡ commands * nodes

-- the lists for what is found have room for every node
pub record FoundRoom (dist before by : List ℕ) : Type 0 where
  pub dist_room : length dist ≡ nodes
  pub before_room : length before ≡ nodes
  pub by_room : length by ≡ nodes

-- the row of node n has no move
abbrev pub BlankRow : ℕ → List ℕ → List ℕ → Type 0
BlankRow n target price = (x : ℕ) → x < commands → row_move target price n x ≡ none

-- the entry of node n for x has the move o, and the other entries are as they were
pub record EntryFilled (o : Option Arrival) (n x : ℕ) (target price target' price' : List ℕ) : Type 0 where
  pub here : row_move target' price' n x ≡ o
  pub others : (u y : ℕ) → y < commands → (u ≡ n → y ≡ x → ⊥) → row_move target' price' u y ≡ row_move target price u y

-- the row of node n has these moves, and the other rows are as they were
pub record RowFilled (move : ℕ → Option Arrival) (n : ℕ) (target price target' price' : List ℕ) : Type 0 where
  pub here : (x : ℕ) → x < commands → row_move target' price' n x ≡ move x
  pub others : (u x : ℕ) → x < commands → (u ≡ n → ⊥) → row_move target' price' u x ≡ row_move target price u x

-- the tables hold the moves of the first k nodes
pub record Tabled (move : ℕ → ℕ → Option Arrival) (k : ℕ) (target price : List ℕ) : Type 0 where
  pub moves : (n x : ℕ) → n < k → x < commands → row_move target price n x ≡ move n x
