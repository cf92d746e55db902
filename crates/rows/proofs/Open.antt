-- The rows of an opening, all marked and all blank, are true of every sound tree, and their words a true sheet. Assumes nothing.
use mathlib.Core.Path.{◌≡◌, refl, ap, ◌∙◌}
use mathlib.Core.Bool.{true, false}
use mathlib.Core.Option.{none, some}
use Prim.Native.Nat.{ℕ}
use Rattle.definitions.specs.Tree.{Tree, Sound, parent}
use Rattle.definitions.specs.Sheet.{Rows, encode_rows, rows_of}
use Rattle.definitions.specs.Truth.{BlankMachine, BlankNode, TrueRows, TrueSheet}
use Rattle.definitions.specs.Open.{open_rows}
use Rattle.definitions.proofs.Options.{bind_some, none_some, true_false, is_some_true}
use Rattle.definitions.proofs.Words.{start_range, InRange, rows_of_encode_rows}
use Rattle.definitions.proofs.Tests.{rows_sheet}

-- every row is blank
open_machine : (t : Tree) (m : ℕ) → BlankMachine (open_rows t) m
unfolding open_rows
open_machine t m = record { exit = λ x range. refl; last = λ x range. refl }

open_node : (t : Tree) (n : ℕ) → BlankNode (open_rows t) n
unfolding open_rows
open_node t n = record { cost = refl; before = refl; by = refl }

-- every machine in use is marked
open_marked : (t : Tree) {m s : ℕ} → t.start m ≡ some s → (open_rows t).stale m ≡ true
unfolding open_rows
open_marked t used = rw used

-- no other is
open_unused : (t : Tree) {m : ℕ} → t.start m ≡ none → (open_rows t).stale m ≡ false
unfolding open_rows
open_unused t unused = rw unused

-- the rows of an opening are true
pub open_true : {t : Tree} → Sound t → TrueRows t (open_rows t)
unfolding parent
open_true {t} s =
    record {
      blanks = record {
        unused_stale = λ m unused. open_unused t unused;
        unused_machine_lem = λ m unused. open_machine t m;
        unused_node_lem = λ n unused. open_node t n;
        stale_machine = λ m mark. open_machine t m;
        stale_node = λ n m own mark. open_node t n;
      };
      stale_above = λ m p mark above.
          let (h, held, own) = bind_some (t.holder m) t.owner above in
          open_marked t (s.owner_used h p own).1;
      filled = λ m f used mark. absurd (true_false (open_marked t used) mark);
    }

module _ {t : Tree} (s : Sound t) where
  -- they mark machines, and say nothing else
  pub open_range : InRange (open_rows t)
  unfolding open_rows
  open_range =
      record {
        stale = λ m mark. let (k, used) = is_some_true (t.start m) mark in (start_range t s m k used).0;
        exit = λ m x c e. absurd (none_some refl e);
        last = λ m x n e. absurd (none_some refl e);
        cost = λ n c e. absurd (none_some refl e);
        before = λ n k e. absurd (none_some refl e);
        by = λ n x e. absurd (none_some refl e);
      }

  -- so their words are a true sheet, on which every machine in use is marked
  pub open_sheet : TrueSheet t (encode_rows (open_rows t))
  open_sheet = rows_sheet t (open_rows t) open_range (open_true s)

  pub open_stale : (m : ℕ) {f : ℕ} → t.start m ≡ some f → (rows_of (encode_rows (open_rows t))).stale m ≡ true
  open_stale m used = ap (λ (r : Rows). r.stale m) (rows_of_encode_rows (open_rows t) open_range) ∙ open_marked t used
