-- What a refresh does, machine by machine and level by level, and what it promises.
use Rattle.std.specs.Prelude.{◌≡◌, true, false, List, ℕ, ◌<◌, length, get_or}
use Rattle.std.proofs.Math.Option.{some}
use Rattle.definitions.specs.Basics.{option}
use Rattle.definitions.specs.Limits.{machines}
use Rattle.definitions.specs.Tree.{Tree, UsedMachine, level}
use Rattle.definitions.specs.Sheet.{Rows, rows_of, encode_rows}
use Rattle.definitions.specs.Truth.{TrueSheet}
use Rattle.definitions.specs.Edit.{Refreshed}
use Rattle.refreshing.specs.Parts.{Fills}

-- the level of a machine, 1 for the root, 0 for one that is not in use
abbrev pub machine_level : Tree → ℕ → ℕ
machine_level t m = option 0 (level t) (t.start m)

-- a list with room for every machine that holds the levels of the first k
pub record MachineLevels (t : Tree) (k : ℕ) (list : List ℕ) : Type 0 where
  pub length : length list ≡ machines
  pub at : (m : ℕ) → m < k → get_or list m 0 ≡ machine_level t m

-- machine m can be filled: it is stale, and nothing just below it is
pub record Fillable (t : Tree) (m : ℕ) (r : Rows) : Type 0 where
  pub used : UsedMachine t m
  pub stale : r.stale m ≡ true
  pub below : (n b : ℕ) → t.owner n ≡ some m → t.below n ≡ some b → r.stale b ≡ false

-- machine m is filled
pub record Filled (t : Tree) (m : ℕ) (sheet after : List ℕ) : Type 0 where
  pub holds : TrueSheet t after
  pub fills : Fills t m (rows_of sheet) (rows_of after)

-- no row that is not stale is touched, and it is not stale after
pub record Kept (t : Tree) (r q : Rows) : Type 0 where
  pub fresh : (m : ℕ) → r.stale m ≡ false → q.stale m ≡ false
  pub exit : (m x : ℕ) → r.stale m ≡ false → q.exit m x ≡ r.exit m x
  pub last : (m x : ℕ) → r.stale m ≡ false → q.last m x ≡ r.last m x
  pub cost : (n m : ℕ) → t.owner n ≡ some m → r.stale m ≡ false → q.cost n ≡ r.cost n
  pub before : (n m : ℕ) → t.owner n ≡ some m → r.stale m ≡ false → q.before n ≡ r.before n
  pub by : (n m : ℕ) → t.owner n ≡ some m → r.stale m ≡ false → q.by n ≡ r.by n

-- no machine below level l is stale
pub record FreshBelow (t : Tree) (l : ℕ) (r : Rows) : Type 0 where
  pub fresh : (m : ℕ) → l < machine_level t m → r.stale m ≡ false

-- machine m is filled if it is stale and of level l, and nothing that was not stale is touched
pub record StepFilled (t : Tree) (l m : ℕ) (sheet after : List ℕ) : Type 0 where
  pub holds : TrueSheet t after
  pub kept : Kept t (rows_of sheet) (rows_of after)
  pub here : machine_level t m ≡ l → (rows_of after).stale m ≡ false

-- the machines of level l under m are filled, and nothing that was not stale is touched
pub record LevelFilled (t : Tree) (l m : ℕ) (sheet after : List ℕ) : Type 0 where
  pub holds : TrueSheet t after
  pub kept : Kept t (rows_of sheet) (rows_of after)
  pub here : (p : ℕ) → p < m → machine_level t p ≡ l → (rows_of after).stale p ≡ false

-- all below level l is filled, and nothing that was not stale is touched
pub record FilledBelow (t : Tree) (l : ℕ) (sheet after : List ℕ) : Type 0 where
  pub holds : TrueSheet t after
  pub kept : Kept t (rows_of sheet) (rows_of after)
  pub below : FreshBelow t l (rows_of after)

-- a refresh: every stale row is filled and stale no more, no other row is touched, and the words are those of the rows left
pub record Refreshes (t : Tree) (sheet after : List ℕ) : Type 0 where
  pub rows : Refreshed t (rows_of sheet) (rows_of after)
  pub words : after ≡ encode_rows (rows_of after)
