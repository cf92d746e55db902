-- What the tests of a node's words decide, from the words that they look at. Assumes nothing.
use mathlib.Core.Path.{◌≡◌, sym, ap, subst, subst₂, ◌∙◌}
use mathlib.Core.Bool.{Bool, true, false}
use mathlib.Core.Option.{some}
use mathlib.Core.List.{List}
use Prim.Native.Nat.{ℕ, ◌+◌, ◌/◌, ◌%◌, ◌≤◌, ◌<◌}
use native.Mathlib.Omega.{arith}
use lib.Dec.{eqb}
use Rattle.definitions.specs.Limits.{machines, nodes, commands, costs, absent, blank}
use Rattle.definitions.specs.Tree.{Tree, Transition, Sound}
use Rattle.definitions.specs.Step.{counting}
use Rattle.definitions.specs.Book.{word, transition_word}
use Rattle.definitions.specs.Sheet.{Rows, cost_word, cost_of, rows_of}
use Rattle.definitions.specs.Truth.{node_exit, move, BlankNode, Named}
use Rattle.definitions.proofs.Options.{none_some, some_same, true_false}
use Rattle.definitions.proofs.Words.{present_word, owner_range, no_owner}
use Rattle.definitions.proofs.Local.{move_by, move_parts}
use Rattle.sheet.specs.Fields.{Mark}
use Rattle.book.specs.Decides.{Decides}
use Rattle.book.proofs.Counts.{no_counting, some_counting, counting_node}
use Rattle.book.proofs.Decide.{decides_same, decides_equal}
use Rattle.book.proofs.Said.{said_is, unsaid_is, unsaid}
use Rattle.std.proofs.Common.{Some, None}
use Rattle.std.proofs.Common as core
use Rattle.sheet.specs.Exits.{Exits}
use Rattle.truesheet.specs.Fits.{AtMost, AddsUp, StartRowFits, RelaxedBy, RelaxedAt, FilledFits, NodeRowFits}
use Rattle.sheet.proofs.Reading.{ReadRows, is_stale, is_filled, cost_back, cost_is, blank_is, cost_said, cost_unsaid}
use Rattle.sheet.proofs.Exits.{exits_none, exits_some}

-- ---- rows with no names

module _ {r : Rows} (read : ReadRows r) (n : ℕ) {c : ℕ} (cost : c ≡ cost_word (r.cost n)) where
  -- a blank row
  pub blank_reached : (c ≡ blank → ⊥) → BlankNode r n → ⊥
  blank_reached other b = other (blank_is cost b.cost)

  pub start_reached : (c ≡ 0 → ⊥) → StartRowFits r n → ⊥
  start_reached other fits = other (cost_is (r.cost n) cost fits.cost)

  module _ {u : ℕ} (before : u ≡ word (r.before n)) where
    pub blank_before : (u ≡ absent → ⊥) → BlankNode r n → ⊥
    blank_before other b = other (unsaid_is before b.before)

    pub start_before : (u ≡ absent → ⊥) → StartRowFits r n → ⊥
    start_before other fits = other (unsaid_is before fits.before)

    module _ {x : ℕ} (by : x ≡ word (r.by n)) (no_Node : u ≡ absent) where
      pub blank_decides : c ≡ blank → Decides (eqb x absent) (BlankNode r n)
      blank_decides z =
          decides_equal x absent
          (λ a.
          record {
            cost = cost_unsaid (r.cost n) (read.cost n) cost z;
            before = unsaid (read.before n) before no_Node;
            by = unsaid (read.by n) by a;
          })
          (λ b. unsaid_is by b.by)

      -- the row of a start node
      pub start_decides : c ≡ 0 → Decides (eqb x absent) (StartRowFits r n)
      start_decides z =
          decides_equal x absent
          (λ a.
          record {
            cost = cost_said (r.cost n) cost (λ e. omega arith) ∙ ap some z;
            before = unsaid (read.before n) before no_Node;
            by = unsaid (read.by n) by a;
          })
          (λ fits. unsaid_is by fits.by)

-- ---- the names of a node

-- the name u, x of node n of machine m gives it cost c
pub record NamedBy (t : Tree) (r : Rows) (m n c u x : ℕ) : Type 0 where
  pub range : x < commands
  pub owned : t.owner u ≡ some m
  pub node_cost : ℕ
  pub step_cost : ℕ
  pub reached : r.cost u ≡ some node_cost
  pub moves : move t r u x ≡ some (record { node = n; cost = step_cost })
  pub exact : c ≡ node_cost + step_cost

module _ {t : Tree} (s : Sound t) (r : Rows) (m n c : ℕ) {u x : ℕ} (before : u ≡ word (r.before n)) (by : x ≡ word (r.by n)) where
  -- the words are the names
  named_by : Named t r m n c → NamedBy t r m n c u x
  named_by name =
      subst₂ (NamedBy t r m n c) (sym (said_is (r.before n) before name.before)) (sym (said_is (r.by n) by name.by))
      (record {
        range = name.command_range;
        owned = name.owned;
        node_cost = name.node_cost;
        step_cost = name.step_cost;
        reached = name.reached;
        moves = name.moves;
        exact = name.exact;
      })

  pub named_command : commands ≤ x → Named t r m n c → ⊥
  named_command far name = omega (arith, (named_by name).range)

  pub named_other : {o : ℕ} → o ≡ word (t.owner u) → (o ≡ m → ⊥) → Named t r m n c → ⊥
  named_other eo wrong name = wrong (said_is (t.owner u) eo (named_by name).owned)

  module _ {w : ℕ} (moves : w ≡ transition_word (counting t u x)) where
    pub named_stays : w ≡ blank → Named t r m n c → ⊥
    named_stays z name = none_some (no_counting s u x moves z) (move_parts t r u x (named_by name).moves).has

    pub named_elsewhere : (w ≡ blank → ⊥) → (w / costs ≡ n → ⊥) → Named t r m n c → ⊥
    named_elsewhere there other name =
        let parts = move_parts t r u x (named_by name).moves in
        let same = some_same (some_counting s u x moves there) parts.has in
        other (ap (λ (a : Transition). a.target) same ∙ parts.target)

    -- and then the costs decide
    pub named_decides : {o : ℕ} (b : Bool) → m < machines → u < nodes → x < commands → o ≡ word (t.owner u) → o ≡ m
        → (w ≡ blank → ⊥) → w / costs ≡ n
        → Decides b (AddsUp t r u x (w % costs) c) → Decides b (Named t r m n c)
    named_decides b small near range eo own there to = decides_same b up down
      where
        has : counting t u x ≡ some (record { target = w / costs; cost = w % costs })
        has = some_counting s u x moves there

        up : AddsUp t r u x (w % costs) c → Named t r m n c
        up adds =
            record {
              node = u;
              command = x;
              node_cost = adds.node_cost;
              step_cost = adds.node_exit_cost + w % costs;
              before = present_word (r.before n) before (λ z. omega arith);
              by = present_word (r.by n) by (λ z. omega arith);
              command_range = range;
              owned = present_word (t.owner u) (sym own ∙ eo) (λ z. omega arith);
              reached = adds.reached;
              moves =
                  subst (λ (v : ℕ). move t r u x ≡ some (record { node = v; cost = adds.node_exit_cost + w % costs })) to
                  (move_by t r u x has adds.exits);
              exact = omega (arith, adds.exact);
            }

        down : Named t r m n c → AddsUp t r u x (w % costs) c
        down name =
            let at = named_by name in
            let parts = move_parts t r u x at.moves in
            let price : w % costs ≡ parts.transition.cost = ap (λ (a : Transition). a.cost) (some_same has parts.has) in
            record {
              node_cost = at.node_cost;
              node_exit_cost = parts.exit_cost;
              reached = at.reached;
              exits = parts.exit;
              exact = omega (arith, at.exact, parts.exact);
            }

-- the name of a node is a node
pub named_far : {t : Tree} → Sound t → (r : Rows) (m n c : ℕ) {u : ℕ} → u ≡ word (r.before n) → nodes ≤ u → Named t r m n c → ⊥
named_far s r m n c before far name = omega (arith, said_is (r.before n) before name.before, s.node_range name.node m name.owned)

-- ---- leaving a node by a command

module _ {t : Tree} (s : Sound t) {r : Rows} (read : ReadRows r) (m n c x : ℕ) {a : core.Option ℕ} (exit : Exits (node_exit t r n x) a) where
  -- it is never left
  pub relaxed_never : a ≡ None → RelaxedBy t r m n c x
  relaxed_never never =
      let free = exits_none exit never in
      record {
        moves = λ b step. absurd (none_some free (move_parts t r n x step).exit);
        exits = λ e stays out. absurd (none_some free out);
      }

  module _ {e : ℕ} (costs_e : a ≡ Some e) {w : ℕ} (moves : w ≡ transition_word (counting t n x)) {c' : ℕ} (same : c' ≡ c) where
    out : node_exit t r n x ≡ some e
    out = (exits_some exit costs_e).0

    -- it is left with no transition, and so is the machine
    pub relaxed_exit : (b : Bool) → w ≡ blank → {k : ℕ} → k ≡ cost_word (r.exit m x) → {p : ℕ} → p ≡ 0
        → Decides b (AtMost (cost_of k) (c' + e + p)) → Decides b (RelaxedBy t r m n c x)
    relaxed_exit b z {k} ek ep =
        let stays = no_counting s n x moves z in
        let says : cost_of k ≡ r.exit m x = cost_back (r.exit m x) (read.exit m x) ek in
        decides_same b
        (λ low.
        record {
          moves = λ v step. absurd (none_some stays (move_parts t r n x step).has);
          exits = λ d free gone. (low.0, sym says ∙ low.1, omega (arith, low.2, some_same out gone));
        })
        (λ fits.
        let low = fits.exits e stays out in
        (low.0, says ∙ low.1, omega (arith, low.2)))

    -- it is left by a transition
    pub relaxed_move : (b : Bool) → (w ≡ blank → ⊥) → {k : ℕ} → k ≡ cost_word (r.cost (w / costs % nodes)) → {p : ℕ} → p ≡ w % costs
        → Decides b (AtMost (cost_of k) (c' + e + p)) → Decides b (RelaxedBy t r m n c x)
    relaxed_move b there {k} ek ep =
        let has = some_counting s n x moves there in
        let node : w / costs % nodes ≡ w / costs = omega (arith, counting_node s n x moves there) in
        let says : cost_of k ≡ r.cost (w / costs) = cost_back (r.cost (w / costs)) (read.cost (w / costs)) (rw node at ek) in
        decides_same b
        (λ low.
        record {
          moves = λ v step.
              let parts = move_parts t r n x step in
              let target : w / costs ≡ v.node = ap (λ (y : Transition). y.target) (some_same has parts.has) ∙ parts.target in
              let price : w % costs ≡ parts.transition.cost = ap (λ (y : Transition). y.cost) (some_same has parts.has) in (
                low.0,
                subst (λ (z : ℕ). r.cost z ≡ some low.0) target (sym says ∙ low.1),
                omega (arith, low.2, parts.exact, some_same out parts.exit),
              );
          exits = λ d free gone. absurd (none_some free has);
        })
        (λ fits.
        let low = fits.moves _ (move_by t r n x has out) in
        (low.0, says ∙ low.1, omega (arith, low.2)))

-- ---- a node of a machine that is not stale

module _ (t : Tree) {r : Rows} (read : ReadRows r) (m n : ℕ) {f : ℕ} (start : f ≡ word (t.start m)) (small : n < nodes) where
  module _ (here : f ≡ n) where
    first : t.start m ≡ some n
    first = present_word (t.start m) (sym here ∙ start) (λ z. omega arith)

    -- the start
    pub filled_start_other : (StartRowFits r n → ⊥) → FilledFits t r m n → ⊥
    filled_start_other wrong fits = wrong (fits.start first)

    pub filled_start : (b : Bool) → StartRowFits r n → Decides b (RelaxedAt t r m n 0) → Decides b (FilledFits t r m n)
    filled_start b row =
        decides_same b
        (λ relaxed.
        record {
          start = λ e. row;
          unreached = λ e. absurd (none_some e row.cost);
          named = λ c e other. absurd (other first);
          relaxed = λ c e. subst (RelaxedAt t r m n) (some_same row.cost e) relaxed;
        })
        (λ fits. fits.relaxed 0 row.cost)

  module _ (elsewhere : f ≡ n → ⊥) {c : ℕ} (cost : c ≡ cost_word (r.cost n)) where
    other_start : t.start m ≡ some n → ⊥
    other_start e = elsewhere (said_is (t.start m) start e)

    -- a node that is not reached
    pub filled_blank : (b : Bool) → c ≡ blank → Decides b (BlankNode r n) → Decides b (FilledFits t r m n)
    filled_blank b z =
        let far = cost_unsaid (r.cost n) (read.cost n) cost z in
        decides_same b
        (λ empty.
        record {
          start = λ e. absurd (other_start e);
          unreached = λ e. empty;
          named = λ d e. absurd (none_some far e);
          relaxed = λ d e. absurd (none_some far e);
        })
        (λ fits. fits.unreached far)

    -- any other node
    module _ (there : c ≡ blank → ⊥) where
      reached : r.cost n ≡ some c
      reached = cost_said (r.cost n) cost there

      pub filled_unnamed : (Named t r m n c → ⊥) → FilledFits t r m n → ⊥
      filled_unnamed wrong fits = wrong (fits.named c reached other_start)

      pub filled_named : (b : Bool) → Named t r m n c → Decides b (RelaxedAt t r m n c) → Decides b (FilledFits t r m n)
      filled_named b name =
          decides_same b
          (λ relaxed.
          record {
            start = λ e. absurd (other_start e);
            unreached = λ e. absurd (none_some e reached);
            named = λ d e other. subst (Named t r m n) (some_same reached e) name;
            relaxed = λ d e. subst (RelaxedAt t r m n) (some_same reached e) relaxed;
          })
          (λ fits. fits.relaxed c reached)

-- ---- a node

module _ {t : Tree} (s : Sound t) (n : ℕ) {m : ℕ} (owner : m ≡ word (t.owner n)) where
  -- one that is not in use
  pub node_unused : (r : Rows) (b : Bool) → m ≡ absent → Decides b (BlankNode r n) → Decides b (NodeRowFits t r n)
  node_unused r b z =
      let free = no_owner t s n owner z in
      decides_same b
      (λ empty. record { unused = λ e. empty; stale = λ k own. absurd (none_some free own); filled = λ k own. absurd (none_some free own) })
      (λ fits. fits.unused free)

  module _ (used : m ≡ absent → ⊥) where
    own : t.owner n ≡ some m
    own = present_word (t.owner n) owner used

    -- belongs to a machine
    pub owner_machine : m < machines
    owner_machine = (owner_range t s n m own).1

    -- one of a stale machine
    pub node_stale : {ws : List ℕ} (b : Bool) {w : ℕ} → Mark ws m w → w ≡ 1 → Decides b (BlankNode (rows_of ws) n)
        → Decides b (NodeRowFits t (rows_of ws) n)
    node_stale {ws} b mark one =
        let is = is_stale mark one in
        decides_same b
        (λ empty.
        record {
          unused = λ e. empty;
          stale = λ k e i. empty;
          filled = λ k e full. absurd (true_false (subst (λ (p : ℕ). (rows_of ws).stale p ≡ true) (some_same own e) is) full);
        })
        (λ fits. fits.stale m own is)

    -- one of another machine
    pub node_filled : {ws : List ℕ} (b : Bool) {w : ℕ} → Mark ws m w → (w ≡ 1 → ⊥) → Decides b (FilledFits t (rows_of ws) m n)
        → Decides b (NodeRowFits t (rows_of ws) n)
    node_filled {ws} b mark other =
        let full = is_filled mark other in
        decides_same b
        (λ row.
        record {
          unused = λ e. absurd (none_some e own);
          stale = λ k e is. absurd (true_false is (subst (λ (p : ℕ). (rows_of ws).stale p ≡ false) (some_same own e) full));
          filled = λ k e i. subst (λ (p : ℕ). FilledFits t (rows_of ws) p n) (some_same own e) row;
        })
        (λ fits. fits.filled m own full)
