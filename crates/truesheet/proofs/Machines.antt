-- What the tests of a machine's words decide, from the words that they look at. Assumes nothing.
use mathlib.Core.Path.{◌≡◌, sym, subst, ◌∙◌}
use mathlib.Core.Logic.{inl, inr}
use mathlib.Core.Bool.{Bool, true}
use mathlib.Core.Option.{none, some}
use mathlib.Core.List.{List}
use Prim.Native.Nat.{ℕ, ◌≤◌, ◌<◌}
use native.Mathlib.Omega.{arith}
use lib.Dec.{eqb}
use borrow.Author.Tests.{eqb-true}
use Rattle.definitions.specs.Limits.{machines, nodes, absent, blank}
use Rattle.definitions.specs.Tree.{Tree, Sound, parent}
use Rattle.definitions.specs.Step.{counting}
use Rattle.definitions.specs.Book.{word, transition_word}
use Rattle.definitions.specs.Sheet.{Rows, cost_word, rows_of}
use Rattle.definitions.specs.Truth.{BlankMachine, Ended}
use Rattle.definitions.proofs.Options.{bind_some, none_some, some_same, true_false}
use Rattle.definitions.proofs.Words.{present_word, owner_range, holder_range, no_holder, no_start}
use Rattle.sheet.specs.Fields.{Mark}
use Rattle.book.specs.Decides.{Decides}
use Rattle.book.proofs.Counts.{no_counting, counting_blank}
use Rattle.book.proofs.Decide.{decides_same, decides_equal}
use Rattle.book.proofs.Said.{said_is, unsaid_is, unsaid}
use Rattle.truesheet.specs.Fits.{AddsUp, BlankExit, ExitFits, ExitsFit, AboveStale, MachineRowFits}
use Rattle.sheet.proofs.Reading.{ReadRows, is_stale, is_filled, cost_is, blank_is, cost_said, cost_unsaid}

-- ---- the last node of an exit

module _ {t : Tree} (s : Sound t) (r : Rows) (m x c : ℕ) {u : ℕ} (last : u ≡ word (r.last m x)) where
  -- it is a node
  pub ended_far : nodes ≤ u → Ended t r m x c → ⊥
  ended_far far e = omega (arith, said_is (r.last m x) last e.last, s.node_range e.node m e.owned)

  -- of the machine
  pub ended_other : {o : ℕ} → o ≡ word (t.owner u) → (o ≡ m → ⊥) → Ended t r m x c → ⊥
  ended_other eo wrong e =
      let same : e.node ≡ u = sym (said_is (r.last m x) last e.last) in
      wrong (said_is (t.owner u) eo (subst (λ (n : ℕ). t.owner n ≡ some m) same e.owned))

  -- with no transition that counts for the command
  pub ended_moves : {w : ℕ} → w ≡ transition_word (counting t u x) → (w ≡ blank → ⊥) → Ended t r m x c → ⊥
  ended_moves ew moves e =
      let same : e.node ≡ u = sym (said_is (r.last m x) last e.last) in
      moves (counting_blank t u x ew (subst (λ (n : ℕ). counting t n x ≡ none) same e.free))

  -- and then the costs decide
  pub ended_decides : {o w : ℕ} (b : Bool) → m < machines → u < nodes → o ≡ word (t.owner u) → o ≡ m
      → w ≡ transition_word (counting t u x) → w ≡ blank
      → Decides b (AddsUp t r u x 0 c) → Decides b (Ended t r m x c)
  ended_decides b small near eo own ew free =
      decides_same b
      (λ up.
      record {
        node = u;
        node_cost = up.node_cost;
        node_exit_cost = up.node_exit_cost;
        last = present_word (r.last m x) last (λ z. omega arith);
        owned = present_word (t.owner u) (sym own ∙ eo) (λ z. omega arith);
        free = no_counting s u x ew free;
        reached = up.reached;
        exits = up.exits;
        exact = omega (arith, up.exact);
      })
      (λ e.
      subst (λ (n : ℕ). AddsUp t r n x 0 c) (sym (said_is (r.last m x) last e.last))
      (record {
        node_cost = e.node_cost;
        node_exit_cost = e.node_exit_cost;
        reached = e.reached;
        exits = e.exits;
        exact = omega (arith, e.exact);
      }))

-- ---- a machine's row for one command

module _ (t : Tree) {r : Rows} (read : ReadRows r) (m x : ℕ) {c : ℕ} (exit : c ≡ cost_word (r.exit m x)) where
  -- where there is no exit there is no last node
  pub exit_none : {l : ℕ} → c ≡ blank → l ≡ word (r.last m x) → Decides (eqb l absent) (ExitFits t r m x)
  exit_none {l} z el =
      let free : r.exit m x ≡ none = cost_unsaid (r.exit m x) (read.exit m x) exit z in
      decides_equal l absent
      (λ a. record { ended = λ d e. absurd (none_some free e); no_exit = λ e. unsaid (read.last m x) el a })
      (λ fits. unsaid_is el (fits.no_exit free))

  -- and an exit has one
  pub exit_some : (b : Bool) → (c ≡ blank → ⊥) → Decides b (Ended t r m x c) → Decides b (ExitFits t r m x)
  exit_some b other =
      decides_same b
      (λ e.
      record {
        ended = λ d f. subst (Ended t r m x) (cost_is (r.exit m x) exit f) e;
        no_exit = λ f. absurd (other (blank_is exit f));
      })
      (λ fits. fits.ended c (cost_said (r.exit m x) exit other))

module _ {r : Rows} (read : ReadRows r) (m x : ℕ) {c : ℕ} (exit : c ≡ cost_word (r.exit m x)) where
  -- a blank row for a command
  pub exit_there : (c ≡ blank → ⊥) → BlankExit r m x → ⊥
  exit_there other b = other (blank_is exit b.0)

  pub exit_blank : {l : ℕ} → c ≡ blank → l ≡ word (r.last m x) → Decides (eqb l absent) (BlankExit r m x)
  exit_blank {l} z el =
      decides_equal l absent
      (λ a. (cost_unsaid (r.exit m x) (read.exit m x) exit z, unsaid (read.last m x) el a))
      (λ b. unsaid_is el b.1)

-- ---- the machine above

module _ {t : Tree} (s : Sound t) (m : ℕ) {h : ℕ} (holder : h ≡ word (t.holder m)) where
  -- there is none above a machine that no node holds
  pub above_none : (r : Rows) → h ≡ absent → AboveStale t r m
  unfolding parent
  above_none r z p up =
      let (g, hold, own) = bind_some (t.holder m) t.owner up in
      absurd (none_some (no_holder t s m holder z) hold)

  module _ (held : h ≡ absent → ⊥) where
    hold : t.holder m ≡ some h
    hold = present_word (t.holder m) holder held

    -- what holds a machine is a node, of a machine
    pub above_node : h < nodes
    above_node = (holder_range t s m h hold).1

    module _ {p : ℕ} (owner : p ≡ word (t.owner h)) where
      above_is : parent t m ≡ some p
      unfolding parent
      above_is =
          let (q, own) = s.holder_used m h hold in
          let same : q ≡ p = sym (said_is (t.owner h) owner own) in
          rw hold (subst (λ (k : ℕ). t.owner h ≡ some k) same own)

      pub above_machine : p < machines
      above_machine =
          let (q, own) = s.holder_used m h hold in
          omega (arith, said_is (t.owner h) owner own, (owner_range t s h q own).1)

      pub above_decides : {ws : List ℕ} {w : ℕ} → Mark ws p w → Decides (eqb w 1) (AboveStale t (rows_of ws) m)
      above_decides {ws} {w} mark =
          decides_equal w 1
          (λ one q up. subst (λ (k : ℕ). (rows_of ws).stale k ≡ true) (some_same above_is up) (is_stale mark one))
          (λ above. eqb-true w 1 (sym mark.says ∙ above p above_is))

-- ---- a machine

module _ {t : Tree} (s : Sound t) {ws : List ℕ} (m : ℕ) {k : ℕ} (mark : Mark ws m k) where
  module _ {f : ℕ} (start : f ≡ word (t.start m)) where
    -- a machine that is not in use and not stale is blank
    pub machine_unused : (b : Bool) → k ≡ 0 → f ≡ absent → Decides b (BlankMachine (rows_of ws) m) → Decides b (MachineRowFits t ws m)
    machine_unused b z free =
        let full = is_filled mark (λ one. omega arith) in
        let none_used = no_start t s m start free in
        decides_same b
        (λ empty.
        record {
          mark = inl (sym mark.word ∙ z);
          unused = λ e. (full, empty);
          stale = λ is. absurd (true_false is full);
          filled = λ g st. absurd (none_some none_used st);
        })
        (λ fits. (fits.unused none_used).1)

    -- one that is in use and not stale has exits that fit
    pub machine_filled : (b : Bool) → k ≡ 0 → (f ≡ absent → ⊥) → Decides b (ExitsFit t (rows_of ws) m) → Decides b (MachineRowFits t ws m)
    machine_filled b z used =
        let full = is_filled mark (λ one. omega arith) in
        let st = present_word (t.start m) start used in
        decides_same b
        (λ exits.
        record {
          mark = inl (sym mark.word ∙ z);
          unused = λ e. absurd (none_some e st);
          stale = λ is. absurd (true_false is full);
          filled = λ g e full. exits;
        })
        (λ fits. fits.filled f st full)

    module _ (one : k ≡ 1) where
      -- one that is stale is in use
      pub stale_unused : f ≡ absent → MachineRowFits t ws m → ⊥
      stale_unused free fits = true_false (is_stale mark one) (fits.unused (no_start t s m start free)).0

      -- below a stale one, and blank
      pub machine_stale : (b : Bool) → (f ≡ absent → ⊥) → AboveStale t (rows_of ws) m → Decides b (BlankMachine (rows_of ws) m)
          → Decides b (MachineRowFits t ws m)
      machine_stale b used above =
          let is = is_stale mark one in
          let st = present_word (t.start m) start used in
          decides_same b
          (λ empty.
          record {
            mark = inr (sym mark.word ∙ one);
            unused = λ e. absurd (none_some e st);
            stale = λ e. (empty, above);
            filled = λ g e full. absurd (true_false is full);
          })
          (λ fits. (fits.stale is).0)
