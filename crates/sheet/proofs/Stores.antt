-- What the words of a sheet say, and what its rows are after one word of it is written. Assumes nothing.
use mathlib.Core.Path.{◌≡◌, refl, ap, ap₂, sym, ◌∙◌}
use mathlib.Core.Logic.{◌⊎◌, inl, inr, ⊎_elim}
use mathlib.Core.Bool.{Bool, false, ◌||◌}
use mathlib.Core.Option.{Option, none}
use mathlib.Core.List.{List}
use Prim.Native.Nat.{ℕ, zero, suc, ◌+◌, ◌*◌, ◌≤◌, ◌<◌}
use native.Mathlib.Omega.{arith}
use lib.Dec.{eqb}
use lib.ListN.{length, get_or, set, length-set}
use lib.Seq.{get_or-set_other}
use borrow.Author.Tests.{lt-ltb}
use Rattle.definitions.specs.Basics.{put}
use Rattle.definitions.specs.Limits.{machines, nodes, commands, sheet_length}
use Rattle.definitions.specs.Book.{word, number, under}
use Rattle.definitions.specs.Sheet.{Rows, machine_row_length, node_row_length, node_row_base, machine_row, machine_row_word, node_row_word}
use Rattle.definitions.specs.Sheet.{cost_word, cost_of, rows_of}
use Rattle.definitions.proofs.Words.{same_rows, under_in, word_number, word_cost, rows_of_machine}
use Rattle.definitions.proofs.Options.{equal_or_not}
use Rattle.book.proofs.Places.{kept, kept_grid, Apart, place_same, stored, unstored, field_put, field_kept, grid_put, grid_kept}
use Rattle.book.proofs.Places.{cleared_to, cleared_more, cleared_all, grid_past}
use Rattle.book.proofs.Chosen.{unless_both}
use Rattle.sheet.specs.Fields.{IsMark, Marks, Mark, Leaves, with_mark, with_exits, with_exit, with_last, with_node_row, with_blank_machine, with_blank_nodes}

-- ---- what words say

-- the mark of a machine
pub mark_word : (ws : List ℕ) (m w : ℕ) → m < machines → w ≡ machine_row_word ws m 0 → Mark ws m w
unfolding rows_of machine_row
mark_word ws m w hm e =
    record {
      word = e;
      says = rw (lt-ltb m machines hm) (ap (λ v. eqb v 1) (sym e));
      bit = λ marks. e ∙ sym (rows_of_machine ws m 0 hm (omega arith) (marks m hm));
    }

-- an exit cost of a machine
pub exit_word : (ws : List ℕ) (m x : ℕ) → m < machines → x < commands → machine_row_word ws m (1 + x) ≡ cost_word ((rows_of ws).exit m x)
unfolding rows_of
exit_word ws m x hm hx = simp (under_in, word_cost)

-- a last node of a machine
pub last_word : (ws : List ℕ) (m x : ℕ) → m < machines → x < commands → machine_row_word ws m (17 + x) ≡ word ((rows_of ws).last m x)
unfolding rows_of
last_word ws m x hm hx = simp (under_in, word_number)

-- ---- where words stand

-- where word k of a machine's row stands, and that each has a place of its own; the same of a node's
abbrev machine_place : ℕ → ℕ → ℕ
machine_place m k = m * machine_row_length + k

machine_apart : Apart machine_place machine_row_length
machine_apart = place_same machine_row_length

abbrev node_place : ℕ → ℕ → ℕ
node_place n k = node_row_base + n * node_row_length + k

node_apart : Apart node_place node_row_length
node_apart n k i j hk hj e = place_same node_row_length n k i j hk hj (omega arith)

-- a store among the machines' rows leaves what is read of the nodes' rows
node_far : {A : Type 0} (ws : List ℕ) (p v : ℕ) → p < node_row_base → (f : ℕ → A) (n k : ℕ)
    → f (node_row_word (set ws p v) n k) ≡ f (node_row_word ws n k)
unfolding node_row_word
node_far ws p v h f n k = ap f (get_or-set_other ws p (node_place n k) v 0 (omega arith))

-- a store among the nodes' rows leaves the words of the machines' rows
machine_far : (ws : List ℕ) (p v : ℕ) → node_row_base ≤ p → (m k : ℕ) → m < machines → k < machine_row_length
    → machine_row_word (set ws p v) m k ≡ machine_row_word ws m k
unfolding machine_row_word
machine_far ws p v h m k hm hk = get_or-set_other ws p (machine_place m k) v 0 (omega arith)

-- ---- marks stay marks

-- a store outside the marks
marks_kept : (ws : List ℕ) (p v : ℕ) → ((m : ℕ) → m < machines → machine_place m 0 ≡ p → ⊥) → Marks ws → Marks (set ws p v)
unfolding machine_row_word
marks_kept ws p v other marks m hm = rw (get_or-set_other ws p (machine_place m 0) v 0 (other m hm)) (marks m hm)

-- a store of a mark
bit : (v : ℕ) → v < 2 → (v ≡ 0) ⊎ (v ≡ 1)
bit zero h = inl refl
bit (suc zero) h = inr refl
bit (suc (suc v)) h = absurd (omega arith)

pub mark_put : (ws : List ℕ) (m v : ℕ) → length ws ≡ sheet_length → m < machines → v < 2 → (i : ℕ) → ((i ≡ m → ⊥) → IsMark ws i)
    → IsMark (set ws (machine_place m 0) v) i
unfolding machine_row_word
mark_put ws m v l hm hv i other =
    ⊎_elim
    (λ e.
    let here : get_or (set ws (machine_place m 0) v) (machine_place i 0) 0 ≡ v =
    ap (λ a. get_or (set ws (machine_place m 0) v) (machine_place a 0) 0) e
    ∙ stored machine_place machine_row_length machine_apart ws m 0 v (omega arith) (omega arith) in
    rw here (bit v hv))
    (λ ne.
    rw (unstored machine_place machine_row_length machine_apart ws m 0 v (omega arith) (omega arith) i 0 (omega arith) (λ p q. ne p))
    (other ne))
    (equal_or_not i m)

-- ---- a word of a machine's row is written

-- all but marks, exit costs and last nodes are left
same_nodes : (ws : List ℕ) (p v : ℕ) → p < node_row_base → {stale : ℕ → Bool} {exit last : ℕ → ℕ → Option ℕ}
    → ((m : ℕ) → (rows_of (set ws p v)).stale m ≡ stale m) → ((m x : ℕ) → (rows_of (set ws p v)).exit m x ≡ exit m x)
    → ((m x : ℕ) → (rows_of (set ws p v)).last m x ≡ last m x)
    → rows_of (set ws p v)
    ≡ record {
      stale = stale;
      exit = exit;
      last = last;
      cost = (rows_of ws).cost;
      before = (rows_of ws).before;
      by = (rows_of ws).by;
    }
unfolding rows_of
same_nodes ws p v h stale exit last =
    same_rows (rows_of (set ws p v)) _ stale exit last
    (λ n. node_far ws p v h (λ w. under nodes n (cost_of w)) n 0)
    (λ n. node_far ws p v h (λ w. under nodes n (number w)) n 1)
    (λ n. node_far ws p v h (λ w. under nodes n (number w)) n 2)

module _ (ws : List ℕ) (m k v : ℕ) (l : length ws ≡ sheet_length) (hm : m < machines) (hk : k < machine_row_length) where
  -- a store outside the marks, the exit costs, the last nodes leaves these
  stale_kept : (0 ≡ k → ⊥) → (i : ℕ) → (rows_of (set ws (machine_place m k) v)).stale i ≡ (rows_of ws).stale i
  unfolding rows_of machine_row_word
  stale_kept other =
      field_kept machine_place machine_row_length machine_apart ws m k v hk (omega arith) machines 0 (λ w. eqb w 1) false (omega arith) other

  exit_kept : ((x : ℕ) → x < commands → 1 + x ≡ k → ⊥) → (i x : ℕ) → (rows_of (set ws (machine_place m k) v)).exit i x ≡ (rows_of ws).exit i x
  unfolding rows_of machine_row_word
  exit_kept other =
      grid_kept machine_place machine_row_length machine_apart ws m k v hk (omega arith) machines commands 1 cost_of (omega arith) other

  last_kept : ((x : ℕ) → x < commands → 17 + x ≡ k → ⊥) → (i x : ℕ) → (rows_of (set ws (machine_place m k) v)).last i x ≡ (rows_of ws).last i x
  unfolding rows_of machine_row_word
  last_kept other =
      grid_kept machine_place machine_row_length machine_apart ws m k v hk (omega arith) machines commands 17 number (omega arith) other

-- the mark of machine m is written
pub mark_store : (ws : List ℕ) (m v : ℕ) → length ws ≡ sheet_length → m < machines → v < 2
    → Leaves ws (set ws (m * machine_row_length + 0) v) (with_mark (rows_of ws) m (eqb v 1))
unfolding rows_of machine_row_word
mark_store ws m v l hm hv =
    record {
      length = length-set ws (machine_place m 0) v ∙ l;
      marks = λ marks i hi. mark_put ws m v l hm hv i (λ _. marks i hi);
      rows =
          same_nodes ws (machine_place m 0) v (omega arith)
          (field_put machine_place machine_row_length machine_apart ws m 0 v (omega arith) (omega arith) machines (λ w. eqb w 1) false hm)
          (exit_kept ws m 0 v l hm (omega arith) (omega arith)) (last_kept ws m 0 v l hm (omega arith) (omega arith));
    }

-- an exit cost of machine m is written
pub exit_store : (ws : List ℕ) (m x v : ℕ) → length ws ≡ sheet_length → m < machines → x < commands
    → Leaves ws (set ws (m * machine_row_length + (1 + x)) v) (with_exit (rows_of ws) m x (cost_of v))
unfolding rows_of machine_row_word
exit_store ws m x v l hm hx =
    record {
      length = length-set ws (machine_place m (1 + x)) v ∙ l;
      marks = marks_kept ws (machine_place m (1 + x)) v (omega arith);
      rows =
          same_nodes ws (machine_place m (1 + x)) v (omega arith) (stale_kept ws m (1 + x) v l hm (omega arith) (omega arith))
          (grid_put machine_place machine_row_length machine_apart ws m (1 + x) v (omega arith) (omega arith) machines commands 1 x cost_of hm hx
          (omega arith) refl)
          (last_kept ws m (1 + x) v l hm (omega arith) (omega arith));
    }

-- a last node of machine m is written
pub last_store : (ws : List ℕ) (m x v : ℕ) → length ws ≡ sheet_length → m < machines → x < commands
    → Leaves ws (set ws (m * machine_row_length + (17 + x)) v) (with_last (rows_of ws) m x (number v))
unfolding rows_of machine_row_word
last_store ws m x v l hm hx =
    record {
      length = length-set ws (machine_place m (17 + x)) v ∙ l;
      marks = marks_kept ws (machine_place m (17 + x)) v (omega arith);
      rows =
          same_nodes ws (machine_place m (17 + x)) v (omega arith) (stale_kept ws m (17 + x) v l hm (omega arith) (omega arith))
          (exit_kept ws m (17 + x) v l hm (omega arith) (omega arith))
          (grid_put machine_place machine_row_length machine_apart ws m (17 + x) v (omega arith) (omega arith) machines commands 17 x number hm
          hx (omega arith) refl);
    }

-- ---- a word of a node's row is written

-- all but costs and names are left
same_machines : (ws : List ℕ) (p v : ℕ) → node_row_base ≤ p → {cost before by : ℕ → Option ℕ}
    → ((n : ℕ) → (rows_of (set ws p v)).cost n ≡ cost n) → ((n : ℕ) → (rows_of (set ws p v)).before n ≡ before n)
    → ((n : ℕ) → (rows_of (set ws p v)).by n ≡ by n)
    → rows_of (set ws p v)
    ≡ record {
      stale = (rows_of ws).stale;
      exit = (rows_of ws).exit;
      last = (rows_of ws).last;
      cost = cost;
      before = before;
      by = by;
    }
unfolding rows_of under
same_machines ws p v h cost before by =
    same_rows (rows_of (set ws p v)) _ (λ m. kept machines m (λ w. eqb w 1) false (λ hm. machine_far ws p v h m 0 hm (omega arith)))
    (λ m x. kept_grid machines commands m x cost_of (λ hm hx. machine_far ws p v h m (1 + x) hm (omega arith)))
    (λ m x. kept_grid machines commands m x number (λ hm hx. machine_far ws p v h m (17 + x) hm (omega arith)))
    cost before by

-- what is read at place j of the nodes' rows after a store at another place k, and after one there
node_kept : {A : Type 0} (ws : List ℕ) (n k v : ℕ) → length ws ≡ sheet_length → n < nodes → k < node_row_length → (j : ℕ) (f : ℕ → Option A)
    → j < node_row_length → (j ≡ k → ⊥)
    → (i : ℕ) → under nodes i (f (node_row_word (set ws (node_place n k) v) i j)) ≡ under nodes i (f (node_row_word ws i j))
unfolding node_row_word under
node_kept ws n k v l hn hk j f =
    field_kept node_place node_row_length node_apart ws n k v hk (omega arith) nodes j f none

node_put : {A : Type 0} (ws : List ℕ) (n k v : ℕ) → length ws ≡ sheet_length → n < nodes → k < node_row_length → (f : ℕ → Option A)
    → (i : ℕ) → under nodes i (f (node_row_word (set ws (node_place n k) v) i k)) ≡ put (λ a. under nodes a (f (node_row_word ws a k))) n (f v) i
unfolding node_row_word under
node_put ws n k v l hn hk f = field_put node_place node_row_length node_apart ws n k v hk (omega arith) nodes f none hn

-- so one field is put
node_field_lem : (ws : List ℕ) (n k v : ℕ) → length ws ≡ sheet_length → n < nodes → k < node_row_length
    → rows_of (set ws (node_place n k) v) ≡ with_node_row (rows_of ws) n k v
unfolding rows_of
node_field_lem ws n zero v l hn hk =
    same_machines ws (node_place n 0) v (omega arith) (node_put ws n 0 v l hn hk cost_of)
    (node_kept ws n 0 v l hn hk 1 number (omega arith) (omega arith)) (node_kept ws n 0 v l hn hk 2 number (omega arith) (omega arith))
node_field_lem ws n (suc zero) v l hn hk =
    same_machines ws (node_place n 1) v (omega arith) (node_kept ws n 1 v l hn hk 0 cost_of (omega arith) (omega arith))
    (node_put ws n 1 v l hn hk number) (node_kept ws n 1 v l hn hk 2 number (omega arith) (omega arith))
node_field_lem ws n (suc (suc zero)) v l hn hk =
    same_machines ws (node_place n 2) v (omega arith) (node_kept ws n 2 v l hn hk 0 cost_of (omega arith) (omega arith))
    (node_kept ws n 2 v l hn hk 1 number (omega arith) (omega arith)) (node_put ws n 2 v l hn hk number)
node_field_lem ws n (suc (suc (suc k))) v l hn hk = absurd (omega arith)

-- a word of node n's row is written
pub node_store : (ws : List ℕ) (n k v : ℕ) → length ws ≡ sheet_length → n < nodes → k < node_row_length
    → Leaves ws (set ws (node_row_base + n * node_row_length + k) v) (with_node_row (rows_of ws) n k v)
node_store ws n k v l hn hk =
    record {
      length = length-set ws (node_place n k) v ∙ l;
      marks = marks_kept ws (node_place n k) v (omega arith);
      rows = node_field_lem ws n k v l hn hk;
    }

-- ---- one store after the other

-- a store into a sheet that was left with rows r changes r
pub leaves_then : {a b c : List ℕ} {r : Rows} (f : Rows → Rows) → Leaves a b r → Leaves b c (f (rows_of b)) → Leaves a c (f r)
leaves_then f first second =
    record {
      length = second.length;
      marks = λ marks. second.marks (first.marks marks);
      rows = second.rows ∙ ap f first.rows;
    }

-- a sheet that was left as it is
pub untouched : (ws : List ℕ) → length ws ≡ sheet_length → Leaves ws ws (rows_of ws)
untouched ws l = record { length = l; marks = λ marks. marks; rows = refl }

-- left with rows r, which are rows q
pub leaves_same : {a b : List ℕ} {r q : Rows} → Leaves a b r → r ≡ q → Leaves a b q
leaves_same left e = record { length = left.length; marks = left.marks; rows = left.rows ∙ e }

-- a sheet's rows with machine m's row blank below command x
abbrev pub blanked_to : List ℕ → ℕ → ℕ → Rows
blanked_to ws m x = with_exits (rows_of ws) (cleared_to (rows_of ws).exit m x) (cleared_to (rows_of ws).last m x)

pub blanking_more : (ws : List ℕ) (m x : ℕ) {a b c : List ℕ} → Leaves ws a (blanked_to ws m x) → Leaves a b (with_exit (rows_of a) m x none)
    → Leaves b c (with_last (rows_of b) m x none) → Leaves ws c (blanked_to ws m (x + 1))
blanking_more ws m x first second third =
    let then = leaves_then (λ r. with_last r m x none) (leaves_then (λ r. with_exit r m x none) first second) third in
    record {
      length = then.length;
      marks = then.marks;
      rows = then.rows ∙ ap₂ (with_exits (rows_of ws)) (cleared_more (rows_of ws).exit m x) (cleared_more (rows_of ws).last m x);
    }

pub blanking_all : (ws : List ℕ) (m x : ℕ) {a : List ℕ} → x ≡ commands → Leaves ws a (blanked_to ws m x)
    → Leaves ws a (with_blank_machine (rows_of ws) m)
unfolding rows_of
blanking_all ws m x e left =
    record {
      length = left.length;
      marks = left.marks;
      rows =
          left.rows ∙ ap (blanked_to ws m) e
          ∙ ap₂ (with_exits (rows_of ws))
          (cleared_all (rows_of ws).exit m commands
          (λ y past. grid_past machines commands m y (cost_of (machine_row_word ws m (1 + y))) past))
          (cleared_all (rows_of ws).last m commands
          (λ y past. grid_past machines commands m y (number (machine_row_word ws m (17 + y))) past));
    }
