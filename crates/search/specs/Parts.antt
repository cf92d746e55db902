-- What the parts of the search do to the three lists of words and to the list of the reached nodes, each seen as a function from places to words.
use Rattle.std.specs.Prelude.{◌≡◌, Bool, cond, List, ℕ, ◌+◌, ◌*◌, ◌≤◌, ◌<◌, length, get_or, set}
use Rattle.std.proofs.Math.Option.{Option, some}
use Rattle.definitions.specs.Limits.{nodes, commands, absent}
use Rattle.definitions.specs.Step.{Arrival}
use Rattle.search.specs.Search.{largest_move, unreached, row_move}

-- the words of a list, by their place
abbrev pub at : List ℕ → ℕ → ℕ
at words v = get_or words v 0

-- the three words of each node: its distance, the node before it and the command
pub record Labels : Type 0 where
  pub dist : ℕ → ℕ
  pub before : ℕ → ℕ
  pub by : ℕ → ℕ

abbrev pub labels : List ℕ → List ℕ → List ℕ → Labels
labels dist before by = record { dist = at dist; before = at before; by = at by }

-- the words of node v are the same
pub record Alike (old new : Labels) (v : ℕ) : Type 0 where
  pub dist : new.dist v ≡ old.dist v
  pub before : new.before v ≡ old.before v
  pub by : new.by v ≡ old.by v

-- words with w stored at place v where the test holds
abbrev pub stored_if : Bool → List ℕ → ℕ → ℕ → List ℕ
stored_if t words v w = cond t (set words v w) words

-- the words of the k nodes are blank but for the source's distance of 0
pub record Blank (k source : ℕ) (st : Labels) : Type 0 where
  pub start : st.dist source ≡ 0
  pub dist : (v : ℕ) → v < k → (v ≡ source → ⊥) → st.dist v ≡ unreached
  pub before : (v : ℕ) → v < k → st.before v ≡ absent
  pub by : (v : ℕ) → v < k → st.by v ≡ absent

-- the words of the k nodes are made blank, and the rest is as it was
pub record BlankedTo (k source : ℕ) (old new : Labels) : Type 0 where
  pub blank : Blank k source new
  pub rest : (v : ℕ) → k ≤ v → Alike old new v

-- the first count places of the list hold reached nodes, each once
pub record Listing (dist order : ℕ → ℕ) (count : ℕ) : Type 0 where
  pub range : (i : ℕ) → i < count → order i < nodes
  pub reached : (i : ℕ) → i < count → dist (order i) < unreached
  pub once : (i j : ℕ) → i < count → j < count → order i ≡ order j → i ≡ j

-- the list goes on with the nodes that came to be reached, and with no others
pub record Grown (dist dist' order order' : ℕ → ℕ) (count count' : ℕ) : Type 0 where
  pub more : count ≤ count'
  pub kept : (i : ℕ) → i < count → order' i ≡ order i
  pub fresh : (i : ℕ) → count ≤ i → i < count' → unreached ≤ dist (order' i)
  pub all : (v : ℕ) → unreached ≤ dist v → dist' v < unreached → (i : ℕ) × (i < count') × (order' i ≡ v)

-- what picking asks: there are places n to count − 1, and the nodes listed have a distance
pub record Places (n count : ℕ) (order dist : List ℕ) : Type 0 where
  pub some_wait : n < count
  pub few : count ≤ length order
  pub inside : (i : ℕ) → i < count → get_or order i 0 < length dist

-- no node at places n to count − 1 is nearer than the one at place r
pub record Nearest (dist order : ℕ → ℕ) (n count r : ℕ) : Type 0 where
  pub from : n ≤ r
  pub below : r < count
  pub least : (i : ℕ) → n ≤ i → i < count → dist (order r) ≤ dist (order i)

-- places a and b are exchanged
pub record Swapped (order order' : ℕ → ℕ) (a b : ℕ) : Type 0 where
  pub first : order' a ≡ order b
  pub second : order' b ≡ order a
  pub other : (i : ℕ) → (i ≡ a → ⊥) → (i ≡ b → ⊥) → order' i ≡ order i

-- r, a nearest node of places n to count − 1, has changed places with the node at place n
pub record Brought (dist order order' : ℕ → ℕ) (n count r : ℕ) : Type 0 where
  pub place : ℕ
  pub nearest : Nearest dist order n count place
  pub node : r ≡ order place
  pub swapped : Swapped order order' n place

-- What relaxing does to the words of node v: nothing, or a move of u leads to v at less than before, which the words now say.
pub data Change (row : ℕ → Option Arrival) (u : ℕ) (old new : Labels) (v : ℕ) : Type 0 where
  stays : Alike old new v → Change row u old new v
  better : (x w : ℕ) → row x ≡ some (record { node = v; cost = w }) → new.dist v ≡ old.dist u + w → new.dist v < old.dist v → new.before v ≡ u
      → new.by v ≡ x → Change row u old new v

-- the first n moves of u are relaxed
pub record Relaxed (row : ℕ → Option Arrival) (u n : ℕ) (old new : Labels) : Type 0 where
  pub here : new.dist u ≡ old.dist u
  pub met : (x : ℕ) (b : Arrival) → x < n → row x ≡ some b → new.dist b.node ≤ old.dist u + b.cost
  pub each : (v : ℕ) → Change row u old new v

-- what relaxing asks: row u of the tables is there, u has places in the lists and is near, and the moves of u lead to one of the 256 nodes, with
-- places in the lists, and cost no more than the largest
pub record Row (u : ℕ) (target price dist before by : List ℕ) : Type 0 where
  pub small : u < nodes
  pub room : (u < length dist) × (u < length before) × (u < length by)
  pub near : get_or dist u 0 ≤ nodes * largest_move
  pub targets : commands * u + commands ≤ length target
  pub prices : commands * u + commands ≤ length price
  pub range : (x : ℕ) (b : Arrival) → row_move target price u x ≡ some b → b.node < nodes
  pub inside : (x : ℕ) (b : Arrival) → row_move target price u x ≡ some b → (b.node < length dist) × (b.node < length before) × (b.node < length by)
  pub cheap : (x : ℕ) (b : Arrival) → row_move target price u x ≡ some b → b.cost ≤ largest_move
