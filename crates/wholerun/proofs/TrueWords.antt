-- True rows are written as a true sheet: what they say for the commands that there are fits its words. Assumes nothing.
use mathlib.Core.Path.{◌≡◌, refl, sym, ◌∙◌, ap, subst}
use mathlib.Core.Logic.{◌⊎◌, inl, inr, ⊎_elim}
use mathlib.Core.Bool.{Bool, true, false, cond}
use mathlib.Core.Option.{none, some}
use Prim.Native.Nat.{ℕ, zero, suc, ◌-◌, ◌≤◌, ◌<◌}
use native.Mathlib.Omega.{arith}
use lib.Dec.{ltb}
use borrow.Author.Tests.{ltb-true, ltb-false}
use Rattle.definitions.specs.Limits.{commands, nodes, absent, blank}
use Rattle.definitions.specs.Tree.{Tree, Sound}
use Rattle.definitions.specs.Costs.{ExitCost}
use Rattle.definitions.specs.Book.{word, under}
use Rattle.definitions.specs.Sheet.{Rows, cost_word, machine_row_length, machine_row, node_row, rows_of, encode_rows}
use Rattle.definitions.specs.Truth.{BlankMachine, BlankNode, TrueRows, TrueSheet}
use Rattle.definitions.proofs.Options.{none_some, some_same, true_false, decided, present, equal_or_not}
use Rattle.definitions.proofs.Path.{parent_below}
use Rattle.definitions.proofs.Simple.{exit_largest}
use Rattle.definitions.proofs.LocalTruth.{filled_below, true_local, local_true}
use Rattle.definitions.proofs.Reached.{cost_bound}
use Rattle.definitions.proofs.Words.{under_some, encode_rows_length, encode_rows_is, machine_row_word_lem, node_row_word_lem, under_in, InRange, rows_of_encode_rows}
use Rattle.definitions.proofs.Tests.{rows_sheet}
use Rattle.rows.proofs.Locality.{same_machine_lem, SameRow, same_row}

-- rows as far as they speak of the commands that there are
abbrev commanded : Rows → Rows
commanded r =
    record {
      stale = r.stale;
      exit = λ m x. under commands x (r.exit m x);
      last = λ m x. under commands x (r.last m x);
      cost = r.cost;
      before = r.before;
      by = r.by;
    }

-- they have the same words
commanded_machine : (r : Rows) (m k : ℕ) → k < machine_row_length → machine_row r m k ≡ machine_row (commanded r) m k
unfolding machine_row
commanded_machine r m zero hk = refl
commanded_machine r m (suc i) hk = go (ltb i commands) refl
  where
    go : (b : Bool) → ltb i commands ≡ b
        → cond b (cost_word (r.exit m i)) (word (r.last m (i - commands)))
        ≡ cond b (cost_word (under commands i (r.exit m i))) (word (under commands (i - commands) (r.last m (i - commands))))
    go true small = ap cost_word (sym (under_in commands i (r.exit m i) (ltb-true i commands small)))
    go false large =
        let past : commands ≤ i = ltb-false i commands large in
        ap word (sym (under_in commands (i - commands) (r.last m (i - commands)) (omega arith)))

commanded_node : (r : Rows) (n k : ℕ) → node_row r n k ≡ node_row (commanded r) n k
unfolding node_row
commanded_node r n zero = refl
commanded_node r n (suc zero) = refl
commanded_node r n (suc (suc k)) = refl

commanded_words : (r : Rows) → encode_rows r ≡ encode_rows (commanded r)
commanded_words r =
    encode_rows_is (encode_rows r) (commanded r) (encode_rows_length r)
    (λ m k hm hk. machine_row_word_lem r m k hm hk ∙ commanded_machine r m k hk)
    (λ n k hn hk. node_row_word_lem r n k hn hk ∙ commanded_node r n k)

-- the row of a node is blank, or the node belongs to a machine in use whose row is filled
data NodeRow (t : Tree) (r : Rows) (n : ℕ) : Type 0 where
  blank_row : BlankNode r n → NodeRow t r n
  filled_row : {m f : ℕ} → t.owner n ≡ some m → t.start m ≡ some f → r.stale m ≡ false → NodeRow t r n

-- a node names nothing before it, or a node of its machine and a command
data NodeNames (t : Tree) (r : Rows) (n : ℕ) : Type 0 where
  names_nothing : r.before n ≡ none → r.by n ≡ none → NodeNames t r n
  names_move : {m v x : ℕ} → t.owner n ≡ some m → t.owner v ≡ some m → x < commands → r.before n ≡ some v → r.by n ≡ some x
      → NodeNames t r n

module _ {t : Tree} (s : Sound t) {r : Rows} (rows : TrueRows t r) where
  -- ---- and are true of the same tree

  commanded_row : (m : ℕ) → SameRow t t r (commanded r) m
  commanded_row m =
      record {
        moves = record {
          machine = same_machine_lem t m;
          below = λ n b x own down range. under_in commands x (r.exit b x) range;
        };
        exit = λ x range. under_in commands x (r.exit m x) range;
        last = λ x range. under_in commands x (r.last m x) range;
        cost = λ n own. refl;
        before = λ n own. refl;
        by = λ n own. refl;
      }

  -- a blank row is one still
  commanded_blank : (m : ℕ) → BlankMachine r m → BlankMachine (commanded r) m
  commanded_blank m empty =
      record {
        exit = λ x range. under_in commands x (r.exit m x) range ∙ empty.exit x range;
        last = λ x range. under_in commands x (r.last m x) range ∙ empty.last x range;
      }

  commanded_true : TrueRows t (commanded r)
  commanded_true =
      let local = true_local s r rows in
      local_true s (commanded r) (record {
        blanks = record {
          unused_stale = rows.blanks.unused_stale;
          unused_machine_lem = λ m unused. commanded_blank m (rows.blanks.unused_machine_lem m unused);
          unused_node_lem = λ n unused. node n (rows.blanks.unused_node_lem n unused);
          stale_machine = λ m stale. commanded_blank m (rows.blanks.stale_machine m stale);
          stale_node = λ n m own stale. node n (rows.blanks.stale_node n m own stale);
        };
        stale_above = rows.stale_above;
        relaxed = λ m f used full. (same_row (commanded_row m) (s.start_owned m f used) s).0 (local.relaxed m f used full);
        attained = λ m f used full. (same_row (commanded_row m) (s.start_owned m f used) s).1 (local.attained m f used full);
      })
    where
      node : (n : ℕ) → BlankNode r n → BlankNode (commanded r) n
      node n empty = record { cost = empty.cost; before = empty.before; by = empty.by }

  -- ---- what they say is in range

  -- the row of a machine is blank, or the machine is in use and its row is filled and true
  machine_row_lem : (m : ℕ) → BlankMachine r m ⊎ ((f : ℕ) × (t.start m ≡ some f) × (r.stale m ≡ false))
  machine_row_lem m =
      ⊎_elim (λ unused. inl (rows.blanks.unused_machine_lem m unused))
      (λ used. ⊎_elim (λ stale. inl (rows.blanks.stale_machine m stale)) (λ full. inr (used.0, used.1, full)) (decided (r.stale m)))
      (present (t.start m))

  -- so is the row of a node, or it belongs to such a machine
  node_row_lem : (n : ℕ) → NodeRow t r n
  node_row_lem n =
      ⊎_elim (λ unused. blank_row (rows.blanks.unused_node_lem n unused))
      (λ used.
      let (m, own) = used in
      let (f, first) = s.owner_used n m own in
      ⊎_elim (λ stale. blank_row (rows.blanks.stale_node n m own stale)) (λ full. filled_row own first full) (decided (r.stale m)))
      (present (t.owner n))

  -- a node names nothing before it, or a node of its machine and a command
  node_names : (n : ℕ) → NodeNames t r n
  node_names n = go (node_row_lem n)
    where
      go : NodeRow t r n → NodeNames t r n
      go (blank_row empty) = names_nothing empty.before empty.by
      go (filled_row {m} {f} own used full) =
          let row = rows.filled m f used full in
          ⊎_elim (λ far. let empty = row.unreached n own far in names_nothing empty.before empty.by)
          (λ near.
          ⊎_elim (λ first. names_nothing (ap r.before first ∙ row.start_before) (ap r.by first ∙ row.start_by))
          (λ other.
          let name = row.named n near.0 own other near.1 in
          names_move own name.owned name.command_range name.before name.by)
          (equal_or_not n f))
          (present (r.cost n))

  -- the cost of a node
  cost_range : (n c : ℕ) → r.cost n ≡ some c → NodeRow t r n → (n < nodes) × (c < blank)
  cost_range n c e (blank_row empty) = absurd (none_some empty.cost e)
  cost_range n c e (filled_row {m} {f} own used full) =
      let below = cost_bound s r rows used (λ u b own_u bel. filled_below t r rows.stale_above b m (parent_below s own_u bel) full) full own e in
      (s.node_range n m own, omega (arith, below))

  -- and what it names
  before_range : (n k : ℕ) → r.before n ≡ some k → NodeNames t r n → (n < nodes) × (k < absent)
  before_range n k e (names_nothing before by) = absurd (none_some before e)
  before_range n k e (names_move {m} {v} own from known before by) =
      (s.node_range n m own, omega (arith, some_same e before, s.node_range v m from))

  by_range : (n k : ℕ) → r.by n ≡ some k → NodeNames t r n → (n < nodes) × (k < absent)
  by_range n k e (names_nothing before by) = absurd (none_some by e)
  by_range n k e (names_move {m} own from known before by) = (s.node_range n m own, omega (arith, some_same e by))

  commanded_range : InRange (commanded r)
  commanded_range =
      record {
        stale = λ m stale.
            ⊎_elim (λ unused. absurd (true_false stale (rows.blanks.unused_stale m unused)))
            (λ used. s.machine_range m used.0 used.1) (present (t.start m));
        exit = λ m x c e.
            let (range, there) = under_some commands x (r.exit m x) e in
            ⊎_elim (λ empty. absurd (none_some (empty.exit x range) there))
            (λ row.
            let (f, used, full) = row in
            let small = exit_largest s m x c (subst (ExitCost t m x) there ((rows.filled m f used full).exit x range)) in
            (s.machine_range m f used, range, omega arith))
            (machine_row_lem m);
        last = λ m x n e.
            let (range, there) = under_some commands x (r.last m x) e in
            ⊎_elim (λ empty. absurd (none_some (empty.last x range) there))
            (λ row.
            let (f, used, full) = row in
            let filled = rows.filled m f used full in
            ⊎_elim (λ shut. absurd (none_some (filled.no_exit x range shut) there))
            (λ exit.
            let end = filled.ended x exit.0 range exit.1 in
            (s.machine_range m f used, range, omega (arith, some_same there end.last, s.node_range end.node m end.owned)))
            (present (r.exit m x)))
            (machine_row_lem m);
        cost = λ n c e. cost_range n c e (node_row_lem n);
        before = λ n k e. before_range n k e (node_names n);
        by = λ n k e. by_range n k e (node_names n);
      }

  -- the words of true rows are a true sheet
  pub true_words : TrueSheet t (encode_rows r)
  true_words = rw (commanded_words r) (rows_sheet t (commanded r) commanded_range commanded_true)

  -- in which the same machines are stale
  pub true_marks : (m : ℕ) → (rows_of (encode_rows r)).stale m ≡ r.stale m
  true_marks m =
      ap (λ (q : Rows). q.stale m) (ap rows_of (commanded_words r) ∙ rows_of_encode_rows (commanded r) commanded_range)
