-- Document 01, "Writing, choosing, the session": the session's input a turn at a time. A turn does commands up to a plan, a refused command
-- or the end of the input, and gives the line that is printed there.
use Rattle.std.specs.Prelude.{◌≡◌, List, [], ◌∷◌, ℕ, ◌+◌, length, drop}
use Rattle.definitions.specs.Tree.{Tree}
use Rattle.definitions.specs.Sheet.{Rows}
use Rattle.definitions.specs.Stream.{Command, ended, taken, refused}
use Rattle.definitions.specs.Edit.{tree_after, RowsAfter}
use Rattle.definitions.specs.Session.{stream, plan, request, plan_size, stop_line, PlanPrints}

-- commands of the input that are taken from one offset to another, with the tree and the rows before and after
pub data Takes (input : List ℕ) : Tree → Rows → ℕ → Tree → Rows → ℕ → Type 0 where
  here : {t : Tree} {r : Rows} {at : ℕ} → Takes input t r at t r at
  on : {t : Tree} {r : Rows} {at : ℕ} {u : Tree} {q : Rows} {to : ℕ} (c : Command) (size : ℕ) (mid : Rows)
      → request t (drop at input) ≡ stream (taken c size) → RowsAfter t c r mid → Takes input (tree_after t c) mid (at + size) u q to
      → Takes input t r at u q to

-- what a turn gives: a line and the offset to go on from, or that the session is at its end
pub data Given : Type 0 where
  line : (bytes : List ℕ) (next : ℕ) → Given
  end : Given

-- what is given at an offset where no command is taken: at the input's end, nothing; at a refused command its line, and nothing of the
-- input is left; at a plan its line, and the input goes on behind it
pub data Gives (input : List ℕ) (t : Tree) (r : Rows) (at : ℕ) : Given → Type 0 where
  finishes : request t (drop at input) ≡ stream ended → Gives input t r at end
  stops : (k : ℕ) → request t (drop at input) ≡ stream (refused k) → Gives input t r at (line (stop_line k at) (length input))
  plans : (a b : ℕ) (bytes : List ℕ) → request t (drop at input) ≡ plan a b → PlanPrints t r a b bytes
      → Gives input t r at (line bytes (at + plan_size))

-- a turn from an offset on: commands, then what is given where they end
pub record Turns (input : List ℕ) (t : Tree) (r : Rows) (at : ℕ) (given : Given) (u : Tree) (q : Rows) : Type 0 where
  pub to : ℕ
  pub takes : Takes input t r at u q to
  pub gives : Gives input u q to given

-- turns repeated from an offset to the end: their lines, and the tree and the rows after the last
pub data Repeats (input : List ℕ) : Tree → Rows → ℕ → List (List ℕ) → Tree → Rows → Type 0 where
  over : {t : Tree} {r : Rows} {at : ℕ} {u : Tree} {q : Rows} → Turns input t r at end u q → Repeats input t r at [] u q
  again : {t : Tree} {r : Rows} {at : ℕ} {u : Tree} {q : Rows} {next : ℕ} {bytes : List ℕ} {lines : List (List ℕ)} {v : Tree} {p : Rows}
      → Turns input t r at (line bytes next) u q → Repeats input u q next lines v p → Repeats input t r at (bytes ∷ lines) v p
