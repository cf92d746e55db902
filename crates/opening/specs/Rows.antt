-- A tree filled from a table's rows one by one: of several that claim the same thing the last counts. It is the tree that comes of the table
-- (document 02, W-208) where one does: `rows_claimed`, `comes_rows`.
use Rattle.std.specs.Prelude.{Bool, not, cond, ◌&&◌, List, ℕ, zero, suc, eqb}
use Rattle.std.proofs.Math.Option.{Option, none, some}
use Rattle.definitions.specs.Basics.{◌>>=◌, is_some, is_at}
use Rattle.definitions.specs.Limits.{machines, absent}
use Rattle.definitions.specs.Tree.{Tree, Transition, used_machine}
use Rattle.definitions.specs.Book.{word, number, under}
use Rattle.definitions.specs.Open.{row_count, cell}

-- the greatest number under k that passes the test
unfoldable pub last_under : ℕ → (ℕ → Bool) → Option ℕ
last_under zero p = none
last_under (suc k) p = cond (p k) (some k) (last_under k p)

-- what row n says: its node's owner, the machine below, and whether the node is a start
unfoldable pub row_owner : List ℕ → ℕ → Option ℕ
row_owner rows n = number (cell rows n 0)

unfoldable pub row_below : List ℕ → ℕ → Option ℕ
row_below rows n = number (cell rows n 1)

unfoldable pub row_start : List ℕ → ℕ → Bool
row_start rows n = eqb (cell rows n 2) 1

-- the next lower node of node n's machine
unfoldable pub next_lower : List ℕ → ℕ → Option ℕ
next_lower rows n = row_owner rows n >>= λ m. last_under n (λ j. is_at (row_owner rows j) m)

-- the transition to a neighbour that may be absent: it costs 1
unfoldable pub neighbour : Option ℕ → Option Transition
neighbour o = o >>= λ v. some (record { target = v; cost = 1 })

-- the transitions of node n in the first k rows: command 0 goes to its next lower node, and command 1 to the node whose next lower
-- node it is
unfoldable pub linked : List ℕ → ℕ → ℕ → ℕ → Option Transition
linked rows k n zero = neighbour (under k n (next_lower rows n))
linked rows k n (suc zero) = neighbour (last_under k (λ v. is_at (next_lower rows v) n))
linked rows k n (suc (suc x)) = none

-- the first k rows as a tree with root r: owner and machine below are the row's, the start of a machine is its node whose row says so, and
-- its holder the node that it is below (of several, the last)
unfoldable pub grown : List ℕ → ℕ → ℕ → Tree
grown rows k r =
    record {
      root = r;
      owner = λ n. under k n (row_owner rows n);
      below = λ n. under k n (row_below rows n);
      start = λ m. under machines m (last_under k (λ n. row_start rows n && is_at (row_owner rows n) m));
      holder = λ m. under machines m (last_under k (λ n. is_at (row_below rows n) m));
      transition = λ n x. linked rows k n x;
      hold = λ n. 0;
      leave = λ m. 0;
    }

-- whether a machine in use is held by no node
unfoldable pub free : Tree → ℕ → Bool
free t m = used_machine t m && not (is_some (t.holder m))

-- the root that a tree without one asks for: its machine that no node holds (of several, the last)
unfoldable pub root_of : Tree → ℕ
root_of t = word (last_under machines (free t))

-- the tree that a table says: that of all its rows
unfoldable pub row_tree : List ℕ → Tree
row_tree rows = grown rows (row_count rows) (root_of (grown rows (row_count rows) absent))
