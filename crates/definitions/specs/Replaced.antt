-- Document 02, W-210: what is below one node may be replaced unseen.
use Rattle.std.specs.Prelude.{◌≡◌, Bool, true, false, not, ◌&&◌, List, ℕ, ◌+◌, ◌<◌, eqb}
use Rattle.std.proofs.Math.Option.{Option, none, some}
use Rattle.definitions.specs.Basics.{◌>>=◌}
use Rattle.definitions.specs.Limits.{commands}
use Rattle.definitions.specs.Tree.{Tree, with_below, Sound, is_state, within}
use Rattle.definitions.specs.Edit.{held_within, emptied}
use Rattle.definitions.specs.Costs.{LeastCost, ExitCost}
use Rattle.definitions.specs.Book.{tree_of, WellFormed}
use Rattle.definitions.specs.Sheet.{rows_of}
use Rattle.definitions.specs.Truth.{TrueSheet}

-- whether node d is below node n
abbrev pub beneath : Tree → ℕ → ℕ → Bool
beneath t n d = within t n d && not (eqb n d)

-- the tree without all that is below node n, which is left plain
unfoldable pub pruned : Tree → ℕ → Tree
pruned t n = with_below (emptied t (beneath t n) (held_within t n)) n none

-- t and u are alike but for what is below node n, which is refined in both: machine m is below it in t, machine k in u
pub record AlikeBut (t u : Tree) (n m k : ℕ) : Type 0 where
  pub alike : pruned t n ≡ pruned u n
  pub refined : t.below n ≡ some m
  pub refined_too : u.below n ≡ some k

-- an exit cost plus what leaving its machine costs; none where there is no exit
abbrev pub and_leaving : Tree → ℕ → Option ℕ → Option ℕ
and_leaving t m o = o >>= λ c. some (c + t.leave m)

-- equal exit costs plus leaving for all 16 commands, each having an exit where the other has
abbrev pub SameExits : Tree → Tree → ℕ → ℕ → Type 0
SameExits t u m k =
    (x : ℕ) → x < commands → (o p : Option ℕ) → ExitCost t m x o → ExitCost u k x p → and_leaving t m o ≡ and_leaving u k p

-- a state that is neither node n nor below it
abbrev pub Outside : Tree → ℕ → ℕ → Type 0
Outside t n a = (is_state t a ≡ true) × (within t n a ≡ false)

-- the states outside node n are the same in both trees, and every least cost between two of them is the same, "no way" included
pub record Unseen (t u : Tree) (n : ℕ) : Type 0 where
  pub states : (a : ℕ) → (Outside t n a → Outside u n a) × (Outside u n a → Outside t n a)
  pub costs : (a b : ℕ) → Outside t n a → Outside t n b
      → (o : Option ℕ) → (LeastCost t a b o → LeastCost u a b o) × (LeastCost u a b o → LeastCost t a b o)

-- W-210's claim
abbrev pub ReplacedUnseen : Type 0
ReplacedUnseen = (t u : Tree) (n m k : ℕ) → Sound t → Sound u → AlikeBut t u n m k → SameExits t u m k → Unseen t u n

-- the same of the words of two well-formed books
abbrev pub BooksUnseen : Type 0
BooksUnseen =
    (first second : List ℕ) (n m k : ℕ) → WellFormed first → WellFormed second
    → let t = tree_of first in
    let u = tree_of second in
    AlikeBut t u n m k → SameExits t u m k → Unseen t u n

-- and of two true sheets in which both machines are unmarked: for each command both words blank, or neither and word plus leaving cost equal, is enough
abbrev pub SheetsUnseen : Type 0
SheetsUnseen =
    (first second sheet sheet_too : List ℕ) (n m k : ℕ) → WellFormed first → WellFormed second
    → let t = tree_of first in
    let u = tree_of second in
    AlikeBut t u n m k → TrueSheet t sheet → TrueSheet u sheet_too → (rows_of sheet).stale m ≡ false → (rows_of sheet_too).stale k ≡ false
    → ((x : ℕ) → x < commands → and_leaving t m ((rows_of sheet).exit m x) ≡ and_leaving u k ((rows_of sheet_too).exit k x)) → Unseen t u n
