-- Tables of moves while they are filled, by single entries, by rows or straight through. Assumes nothing.
use mathlib.Core.Path.{◌≡◌, refl, sym, ◌∙◌, subst}
use mathlib.Core.Logic.{⊎_elim}
use mathlib.Core.Option.{Option, none, some}
use mathlib.Core.List.{List}
use Prim.Native.Nat.{ℕ, ◌+◌, ◌*◌, ◌/◌, ◌%◌, ◌≤◌, ◌<◌}
use native.Mathlib.Omega.{arith}
use lib.ListN.{length, get_or, set, length-set, replicate, get_or-replicate}
use lib.Seq.{get_or-set_same, get_or-set_other}
use Rattle.definitions.specs.Limits.{nodes, commands, absent}
use Rattle.definitions.specs.Step.{Arrival}
use Rattle.definitions.proofs.Options.{equal_or_not}
use Rattle.definitions.proofs.Words.{under_in}
use Rattle.search.specs.Search.{entry_move, row_move}
use Rattle.search.specs.Tables.{TableRoom, BlankRow, EntryFilled, RowFilled, Tabled}
use Rattle.search.proofs.Reading.{number_is, number_none, row_none}

-- ---- one entry

-- the word for absent says that there is no move
pub entry_none : (v c : ℕ) → v ≡ absent → entry_move v c ≡ none
unfolding entry_move
entry_none v c e = rw (number_none v e)

-- any other says a move
pub entry_some : (v c : ℕ) → (v ≡ absent → ⊥) → entry_move v c ≡ some (record { node = v; cost = c })
unfolding entry_move
entry_some v c other = rw (number_is v other)

module _ {target price : List ℕ} (room : TableRoom target price) {n x : ℕ} (node : n < nodes) (range : x < commands) where
  -- its place is inside the tables
  pub place_target : commands * n + x < length target
  place_target = omega (arith, room.target_room)

  pub place_price : commands * n + x < length price
  place_price = omega (arith, room.price_room)

  -- an entry that is stored
  pub entry_stored : {i : ℕ} → i ≡ commands * n + x → (v c : ℕ) {o : Option Arrival} → entry_move v c ≡ o
      → EntryFilled o n x target price (set target i v) (set price i c)
  unfolding row_move
  entry_stored {i} place v c is =
      let here_v : get_or (set target i v) i 0 ≡ v = get_or-set_same target i v 0 (omega (arith, place_target)) in
      let here_c : get_or (set price i c) i 0 ≡ c = get_or-set_same price i c 0 (omega (arith, place_price)) in
      record {
        here = under_in commands x _ range ∙ rw (← place, here_v, here_c) is;
        others = λ u y less apart.
            let other : commands * u + y ≡ i → ⊥ = λ e. apart (omega arith) (omega arith) in
            rw (get_or-set_other target i (commands * u + y) v 0 other, get_or-set_other price i (commands * u + y) c 0 other);
      }

-- a store leaves the room
room_stored : {target price : List ℕ} → TableRoom target price → (i v c : ℕ) → TableRoom (set target i v) (set price i c)
room_stored {target} {price} room i v c =
    record { target_room = length-set target i v ∙ room.target_room; price_room = length-set price i c ∙ room.price_room }

-- ---- straight through

-- the first j entries have their moves
pub record EntriesTo (move : ℕ → ℕ → Option Arrival) (j : ℕ) (target price : List ℕ) : Type 0 where
  pub room : TableRoom target price
  pub each : (n x : ℕ) → x < commands → commands * n + x < j → row_move target price n x ≡ move n x

module _ {move : ℕ → ℕ → Option Arrival} {target price : List ℕ} where
  module _ {j : ℕ} (to : EntriesTo move j target price) where
    -- one entry more
    pub entries_more : (v c : ℕ) → j < commands * nodes → entry_move v c ≡ move (j / commands) (j % commands)
        → EntriesTo move (j + 1) (set target j v) (set price j c)
    entries_more v c small is =
        let stored = entry_stored to.room {n = j / commands} {x = j % commands} (omega arith) (omega arith) {i = j} (omega arith) v c is in
        record {
          room = room_stored to.room j v c;
          each = λ n x range less.
              ⊎_elim
              (λ (same : commands * n + x ≡ j).
              let node : n ≡ j / commands = omega arith in
              let command : x ≡ j % commands = omega arith in
              rw (node, command) stored.here)
              (λ (apart : commands * n + x ≡ j → ⊥).
              stored.others n x range (λ p q. apart (omega arith)) ∙ to.each n x range (omega arith))
              (equal_or_not (commands * n + x) j);
        }

-- ---- one row

-- the first j entries of row n have their moves, and the other rows are as they were
pub record RowTo (move : ℕ → Option Arrival) (n j : ℕ) (target price target' price' : List ℕ) : Type 0 where
  pub room : TableRoom target' price'
  pub here : (x : ℕ) → x < j → row_move target' price' n x ≡ move x
  pub others : (u x : ℕ) → x < commands → (u ≡ n → ⊥) → row_move target' price' u x ≡ row_move target price u x

-- ---- all rows

-- the first k rows have their moves, and the others none
pub record TabledTo (move : ℕ → ℕ → Option Arrival) (k : ℕ) (target price : List ℕ) : Type 0 where
  pub room : TableRoom target price
  pub here : Tabled move k target price
  pub rest : (n : ℕ) → k ≤ n → n < nodes → BlankRow n target price

-- tables filled with the word for no node have no move
pub blank_tables : (k : ℕ) (price : List ℕ) → commands * nodes ≤ k → (n : ℕ) → n < nodes → BlankRow n (replicate k absent) price
blank_tables k price room n small x range =
    row_none (replicate k absent) price n x (get_or-replicate k (commands * n + x) absent 0 (omega arith))
