-- Document 01, "Opening": the trees of Open fresh and Open ladder, and the sheet of an opening; document 02, W-208: ladders of other sizes, and the
-- tree that comes of a table of rows. No node is held, and leaving costs nothing (W-205, W-207).
use Rattle.std.specs.Prelude.{◌≡◌, Bool, cond, ◌&&◌, List, ℕ, zero, suc, ◌+◌, ◌*◌, ◌-◌, ◌/◌, ◌%◌, ◌≤◌, ◌<◌, ltb, length, get_or}
use Rattle.std.proofs.Math.Option.{Option, none, some}
use Rattle.definitions.specs.Limits.{absent}
use Rattle.definitions.specs.Tree.{Tree, Transition, Sound, UsedNode, used_machine}
use Rattle.definitions.specs.Book.{number, under}
use Rattle.definitions.specs.Sheet.{Rows}
use Rattle.definitions.specs.Edit.{single, is_start}

-- Open fresh: root 0 with start node 0
unfoldable pub fresh_tree : Tree
fresh_tree = single 0 0

-- the value where the test holds
abbrev pub given : {A : Type 0} → Bool → A → Option A
given b a = cond b (some a) none

-- The ladder of c machines, by document 01's rule for 63: node n is the k-th, k = n % 3, of machine m = n / 3; k = 0 holds machine 2m + 1 and
-- k = 2 holds 2m + 2 where these are under c; k = 1 is the start; commands 0 and 1 go to the neighbours k - 1 and k + 1 at cost 1
unfoldable pub ladder_below : ℕ → ℕ → Option ℕ
ladder_below c n = held (n % 3) (n / 3)
  where
    held : ℕ → ℕ → Option ℕ
    held zero m = given (ltb (2 * m + 1) c) (2 * m + 1)
    held (suc zero) m = none
    held (suc (suc k)) m = given (ltb (2 * m + 2) c) (2 * m + 2)

-- machine 2m + 1 is held by node 3m, and machine 2m + 2 by node 3m + 2
unfoldable pub ladder_holder : ℕ → ℕ → Option ℕ
ladder_holder c zero = none
ladder_holder c (suc p) = given (ltb (suc p) c) (3 * (p / 2) + 2 * (p % 2))

unfoldable pub ladder_transition : ℕ → ℕ → ℕ → Option Transition
ladder_transition c n zero = given (ltb 0 (n % 3) && ltb n (3 * c)) (record { target = n - 1; cost = 1 })
ladder_transition c n (suc zero) = given (ltb (n % 3) 2 && ltb n (3 * c)) (record { target = n + 1; cost = 1 })
ladder_transition c n (suc (suc x)) = none

unfoldable pub ladder_of : ℕ → Tree
ladder_of c =
    record {
      root = 0;
      owner = λ n. given (ltb n (3 * c)) (n / 3);
      below = ladder_below c;
      start = λ m. given (ltb m c) (3 * m + 1);
      holder = ladder_holder c;
      transition = ladder_transition c;
      hold = λ n. 0;
      leave = λ m. 0;
    }

-- Open ladder: the ladder of 63 machines
abbrev pub ladder_machines : ℕ
ladder_machines = 63

abbrev pub ladder_tree : Tree
ladder_tree = ladder_of ladder_machines

-- ---- Open from a table (document 02, W-208). Row n has three numbers for node n: owner, machine below (document 01: part below), and 1 where the
-- node is its machine's start, else 0; 65,535 is "none".

-- how many numbers a row has, and how many rows a table has
abbrev pub row_length : ℕ
row_length = 3

abbrev pub row_count : List ℕ → ℕ
row_count rows = length rows / row_length

-- the number at place k of row n
unfoldable pub cell : List ℕ → ℕ → ℕ → ℕ
cell rows n k = get_or rows (n * row_length + k) absent

-- a table has whole rows, at most 189 of them
abbrev pub TableLength : List ℕ → Type 0
TableLength rows = (length rows % row_length ≡ 0) × (row_count rows ≤ 189)

-- node v is the next lower node of node n's machine, and n the next higher one of v's
pub record NextLower (t : Tree) (n v : ℕ) : Type 0 where
  pub lower : v < n
  pub in_use : UsedNode t n
  pub same : t.owner v ≡ t.owner n
  pub between : (j : ℕ) → v < j → j < n → t.owner j ≡ t.owner n → ⊥

-- where a command leads from node n: 0 to the next lower node of its machine, 1 to the next higher one, and no other command anywhere
abbrev pub Neighbour : Tree → (n x v : ℕ) → Type 0
Neighbour t n zero v = NextLower t n v
Neighbour t n (suc zero) v = NextLower t v n
Neighbour t n (suc (suc x)) v = ⊥

-- What the rows claim of a tree: the owner and the machine below of each node that has a row, and which are starts; no other node is in use; the
-- transitions, each at cost 1; no node is held, and leaving costs nothing (W-205, W-207).
pub record Claimed (rows : List ℕ) (t : Tree) : Type 0 where
  pub owner : (n : ℕ) → t.owner n ≡ under (row_count rows) n (number (cell rows n 0))
  pub below : (n : ℕ) → t.below n ≡ under (row_count rows) n (number (cell rows n 1))
  pub start : (n : ℕ) → n < row_count rows → cell rows n 2 ≡ cond (is_start t n) 1 0
  pub leads : (n x : ℕ) (a : Transition) → t.transition n x ≡ some a → Neighbour t n x a.target × (a.cost ≡ 1)
  pub reaches : (n x v : ℕ) → Neighbour t n x v → t.transition n x ≡ some (record { target = v; cost = 1 })
  pub hold : (n : ℕ) → t.hold n ≡ 0
  pub leave : (m : ℕ) → t.leave m ≡ 0

-- ---- the sheet of an opening, and the openings

-- the sheet's rows after an opening: every machine in use is marked, and all is blank
unfoldable pub open_rows : Tree → Rows
open_rows t =
    record { stale = used_machine t; exit = λ m x. none; last = λ m x. none; cost = λ n. none; before = λ n. none; by = λ n. none }

-- the openings; the third is from a table (document 02, W-208)
pub data Opening : Type 0 where
  fresh : Opening
  ladder : Opening
  table : (rows : List ℕ) → Opening

-- The tree that comes of an opening: of a table the well-formed one that has all that the rows claim. Its holders and its root follow from them: holder
-- and held name each other, and every machine in use climbs to the root, which no node holds (Sound).
abbrev pub ComesOf : Opening → Tree → Type 0
ComesOf fresh t = t ≡ fresh_tree
ComesOf ladder t = t ≡ ladder_tree
ComesOf (table rows) t = Claimed rows t × Sound t

-- of an opening comes one tree at most
abbrev pub ComesOne : Type 0
ComesOne = (o : Opening) (t u : Tree) → ComesOf o t → ComesOf o u → t ≡ u
