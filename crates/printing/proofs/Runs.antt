-- What holds before each turn of a session. Assumes nothing.
use mathlib.Core.Path.{◌≡◌, ◌∙◌}
use mathlib.Core.List.{List}
use Prim.Native.Nat.{ℕ, ◌+◌, ◌≤◌}
use native.Mathlib.Omega.{arith}
use lib.ListN.{length, take}
use lib.Seq.{take_all}
use Rattle.definitions.specs.Limits.{longest_input}
use Rattle.definitions.specs.Tree.{Tree}
use Rattle.definitions.specs.Book.{tree_of, WellFormed}
use Rattle.definitions.specs.Sheet.{Rows, rows_of}
use Rattle.definitions.specs.Truth.{TrueSheet}
use Rattle.definitions.specs.Open.{fresh_tree, open_rows}
use Rattle.lines.specs.Turn.{Repeats, over, again}
use Rattle.lines.specs.Meaning.{TurnSays}
use Rattle.lines.specs.declared.Line.{Line}
use Rattle.std.proofs.Common.{Some, None}
use Rattle.lines.proofs.Session.{session_prints}
use Rattle.printing.specs.Meaning.{OpenedFresh, LinesMade, SessionMade}

-- turns from a tree and rows have come to an offset of the input, on a well-formed book and a true sheet, with so many lines: what the
-- turns that are left give of these is, behind those lines, what all of them give of those
pub record Running (input : List ℕ) (t : Tree) (r : Rows) (count at : ℕ) (book sheet : List ℕ) : Type 0 where
  pub formed : WellFormed book
  pub filled : TrueSheet (tree_of book) sheet
  pub within : at ≤ length input
  pub few : count ≤ at
  pub rest : {lines : List (List ℕ)} {v : Tree} {p : Rows} → Repeats input (tree_of book) (rows_of sheet) at lines v p
      → (all : List (List ℕ)) × Repeats input t r 0 all v p × (length all ≡ count + length lines)

module _ {input : List ℕ} {t : Tree} {r : Rows} {count at : ℕ} {book sheet : List ℕ} (run : Running input t r count at book sheet) {list book' sheet' list' : List ℕ} where
  -- after a turn that gives a line
  pub run_on : {l : Line} → TurnSays input book sheet at list (Some l) book' sheet' list'
      → Running input t r (count + 1) l.next book' sheet'
  run_on says =
      record {
        formed = says.formed;
        filled = says.filled;
        within = says.fits.1;
        few = omega (arith, run.few, says.fits.0);
        rest = λ {lines} more.
            let (all, turns, counted) = run.rest (again says.turns more) in
            (all, turns, counted ∙ omega arith);
      }

  -- after the turn at the end all are made
  pub run_over : TurnSays input book sheet at list None book' sheet' list' → LinesMade input t r count book' sheet'
  run_over says =
      let (all, turns, counted) = run.rest (over says.turns) in
      record {
        lines = all;
        repeats = turns;
        counted = omega (arith, counted);
        formed = says.formed;
        filled = says.filled;
      }

-- a session on the fresh opening prints what document 01 has it print
pub session_made : {input : List ℕ} {count : ℕ} {book' sheet' : List ℕ}
    → LinesMade (take longest_input input) fresh_tree (open_rows fresh_tree) count book' sheet' → SessionMade input count book' sheet'
session_made {input} made = record { made = made; prints = session_prints input made.repeats }

-- an input that is no longer than what a session reads
pub session_whole : {input : List ℕ} {count : ℕ} {book' sheet' : List ℕ} → length input ≤ longest_input
    → LinesMade input fresh_tree (open_rows fresh_tree) count book' sheet' → SessionMade input count book' sheet'
session_whole {input} {count} {book'} {sheet'} short made =
    session_made {input = input} (rw (take_all longest_input input short) made)
