-- Rows with some machines marked, with some nodes blank, and with all machines over a node marked and blank: what a sheet's words are
-- left with.
use Rattle.std.specs.Prelude.{◌≡◌, Bool, false, not, ◌&&◌, ◌||◌, List, ℕ}
use Rattle.definitions.specs.Basics.{option, unless}
use Rattle.definitions.specs.Tree.{Tree, over}
use Rattle.definitions.specs.Sheet.{Rows, rows_of}
use Rattle.definitions.specs.Edit.{with_stale}
use Rattle.book.specs.Chosen.{chosen}
use Rattle.sheet.specs.Fields.{Leaves, with_blank_nodes}

-- the rows where the machines that pass the test are stale and their own rows blank
abbrev pub with_marked : Rows → (ℕ → Bool) → Rows
with_marked r test =
    record {
      stale = λ m. test m || r.stale m;
      exit = λ m x. unless (test m) (r.exit m x);
      last = λ m x. unless (test m) (r.last m x);
      cost = r.cost;
      before = r.before;
      by = r.by;
    }

-- whether node k belongs to a machine that passes the test
abbrev pub owned_by : Tree → (ℕ → Bool) → ℕ → Bool
owned_by t test k = option false test (t.owner k)

-- whether machine p is over node n and not stale yet
abbrev pub fresh_over : Tree → ℕ → Rows → ℕ → Bool
fresh_over t n r p = over t p n && not (r.stale p)

-- a sheet's words are left with the nodes that pass the test blank
abbrev pub LeavesBlank : List ℕ → List ℕ → (ℕ → Bool) → Type 0
LeavesBlank before after gone = Leaves before after (with_blank_nodes (rows_of before) gone)

-- with the machines over node n that were not stale yet marked and their own rows blank, and the list has 1 at these machines
pub record MarkedOver (t : Tree) (n : ℕ) (before after list : List ℕ) : Type 0 where
  pub listed : (p : ℕ) → chosen list p ≡ fresh_over t n (rows_of before) p
  pub left : Leaves before after (with_marked (rows_of before) (chosen list))

-- with the machine of node n and all above it marked and blanked
abbrev pub LeavesStaleOver : Tree → ℕ → List ℕ → List ℕ → Type 0
LeavesStaleOver t n before after = Leaves before after (with_stale t (λ p. over t p n) (rows_of before))
