-- The column of operand lengths: one test over it, and one law that turns the test into the length at each opcode. Assumes nothing.
use mathlib.Core.Path.{◌≡◌, sym, ◌∙◌}
use mathlib.Core.Logic.{⊎_elim}
use mathlib.Core.Bool.{Bool, true, ◌&&◌}
use mathlib.Core.Option.{Option, none, some}
use mathlib.Core.List.{List}
use Prim.Native.Nat.{ℕ, ◌-◌, ◌≤◌, ◌<◌}
use native.Mathlib.Omega.{arith}
use lib.Dec.{leb}
use lib.ListN.{length, get_or}
use borrow.Author.Tests.{leb-true, le-leb, lt-leb, lt-ltb, le-ltb}
use Rattle.definitions.specs.Basics.{◌>>=◌, option, is_at}
use Rattle.definitions.specs.Stream.{operand_length}
use Rattle.definitions.proofs.Options.{and_true, less_or_not, is_at_true}
use Rattle.definitions.proofs.Tests.{all_below, all_below_lem, is_none, is_none_true}
use Rattle.reading.specs.Column.{place, number_at, entry}
use Rattle.reading.proofs.Laws.{unknown}

-- the opcodes from 0x10 on have a place, but for 0x19; those below have none
pub place_from : (op : ℕ) → 0x10 ≤ op → op < 0x19 → place op ≡ some (op - 0x10)
unfolding place
place_from op from until = rw (lt-ltb op 0x19 until, le-leb 0x10 op from)

pub place_on : (op : ℕ) → 0x19 < op → place op ≡ some (op - 0x11)
unfolding place
place_on op on = rw (le-ltb op 0x19 (omega arith), lt-ltb 0x19 op on)

pub place_below : (op : ℕ) → op < 0x10 → place op ≡ none
unfolding place
place_below op below = rw (lt-ltb op 0x19 (omega arith), lt-leb 0x10 op below)

pub place_gap : (op : ℕ) → op ≡ 0x19 → place op ≡ none
unfolding place
place_gap op same = rw same

-- the entry of an opcode: in the column, behind its end, without a place
module _ (column : List ℕ) (op : ℕ) {i : ℕ} (here : place op ≡ some i) where
  pub entry_in : i < length column → entry column op ≡ some (get_or column i 0)
  unfolding entry
  entry_in inside = rw (here, lt-ltb i (length column) inside)

  pub entry_behind : length column ≤ i → entry column op ≡ none
  unfolding entry
  entry_behind behind = rw (here, le-ltb i (length column) behind)

pub no_entry : (column : List ℕ) (op : ℕ) → place op ≡ none → entry column op ≡ none
unfolding entry
no_entry column op nowhere = rw nowhere

-- whether two values are one, or both absent
abbrev same : Option ℕ → Option ℕ → Bool
same o p = option (is_none p) (is_at p) o

same_is : (o p : Option ℕ) → same o p ≡ true → o ≡ p
same_is none p e = sym (is_none_true p e)
same_is (some n) p e = sym (is_at_true p n e)

-- whether a column says the operand length of an opcode
abbrev says : List ℕ → ℕ → Bool
says column op = same (place op >>= number_at column) (operand_length op)

-- whether it says that of every opcode under 0x20, and ends before the place of 0x20
unfoldable pub column_right : List ℕ → Bool
column_right column = leb (length column) 0x0F && all_below 0x20 (says column)

-- A column that passes the test says the operand length of every opcode.
pub column_right_lem : (column : List ℕ) → column_right column ≡ true → (op : ℕ) → entry column op ≡ operand_length op
unfolding column_right entry
column_right_lem column e op =
    let (short, all) = and_true (leb (length column) 0x0F) (all_below 0x20 (says column)) e in
    ⊎_elim (λ small. same_is (place op >>= number_at column) (operand_length op) (all_below_lem 0x20 (says column) all op small))
    (λ far.
    entry_behind column op (place_on op (omega arith)) (omega (arith, leb-true (length column) 0x0F short))
    ∙ sym
    (unknown op (λ e. omega arith) (λ e. omega arith) (λ e. omega arith) (λ e. omega arith) (λ e. omega arith) (λ e. omega arith)
    (λ e. omega arith) (λ e. omega arith) (λ e. omega arith) (λ e. omega arith) (λ e. omega arith)))
    (less_or_not op 0x20)
