-- A sheet is true exactly where every machine and every node of it fits and the names of every reached node lead to its start.
-- Assumes nothing.
use mathlib.Core.Path.{◌≡◌, refl, ap, subst}
use mathlib.Core.Logic.{◌↔◌, ⊎_elim}
use mathlib.Core.Bool.{false}
use mathlib.Core.Option.{none, some}
use mathlib.Core.List.{List}
use Prim.Native.Nat.{ℕ, zero, suc, ◌≤◌, ◌<◌}
use native.Mathlib.Omega.{arith}
use native.Mathlib.Nat.{lt_of_not-le}
use native.Mathlib.Decide.{dec_le}
use lib.ListN.{length}
use Rattle.definitions.specs.Basics.{iterate}
use Rattle.definitions.specs.Limits.{machines, nodes, sheet_length}
use Rattle.definitions.specs.Tree.{Tree, Sound}
use Rattle.definitions.specs.Sheet.{Rows, rows_of}
use Rattle.definitions.specs.Truth.{BlankMachine, BlankNode, BlankRule, Named, TrueSheet}
use Rattle.definitions.proofs.Options.{bind_some, none_some, some_same, present, equal_or_not, decided}
use Rattle.definitions.proofs.Path.{counting_range}
use Rattle.definitions.proofs.Local.{Relaxed, Attained, LocalRows, move_parts}
use Rattle.definitions.proofs.LocalTruth.{local_true, true_local}
use Rattle.truesheet.specs.Fits.{MachineRowFits, MachineRowsFit, StartRowFits, FilledFits, NodeRowFits, NodeRowsFit, ChainFits, ChainsFit, NamesFit}
use Rattle.sheet.proofs.Reading.{ReadRows, rows_of_read, cost_outside, number_outside}

-- every machine, every node, every chain of names fits (where the nodes do, a reached node with none before it is its machine's start)
abbrev pub AllFit : Tree → List ℕ → Type 0
AllFit t ws = MachineRowsFit t ws × NodeRowsFit t (rows_of ws) × ChainsFit (rows_of ws)

-- ---- from a true sheet

module _ {t : Tree} (s : Sound t) {ws : List ℕ} (sheet : TrueSheet t ws) where
  local : LocalRows t (rows_of ws)
  local = true_local s (rows_of ws) sheet.rows

  machine_fits : (m : ℕ) → m < machines → MachineRowFits t ws m
  machine_fits m small =
      record {
        mark = sheet.marks m small;
        unused = λ free. (local.blanks.unused_stale m free, local.blanks.unused_machine_lem m free);
        stale = λ is. (local.blanks.stale_machine m is, λ p up. local.stale_above m p is up);
        filled =
            λ f st full x range.
            let row = local.attained m f st full in
            record { ended = λ c. row.ended x c range; no_exit = row.no_exit x range };
      }

  filled_fits : (n m f : ℕ) → t.owner n ≡ some m → (rows_of ws).stale m ≡ false → t.start m ≡ some f → FilledFits t (rows_of ws) m n
  filled_fits n m f own full st =
      let row = local.attained m f st full in
      let relaxed = local.relaxed m f st full in
      record {
        start =
            λ here.
            subst (StartRowFits (rows_of ws)) (some_same st here)
            (record { cost = row.start_cost; before = row.start_before; by = row.start_by });
        unreached = row.unreached n own;
        named = λ c cost other. row.named n c own (λ same. other (subst (λ (k : ℕ). t.start m ≡ some k) (cc) st)) cost;
        relaxed =
            λ c cost x range.
            record { moves = λ b. relaxed.moves n c x b own cost; exits = λ e free. relaxed.exits n c x e own cost range free };
      }

  node_fits : (n : ℕ) → NodeRowFits t (rows_of ws) n
  node_fits n =
      record {
        unused = local.blanks.unused_node_lem n;
        stale = local.blanks.stale_node n;
        filled =
            λ m own full.
            let (f, st) = s.owner_used n m own in
            filled_fits n m f own full st;
      }

  -- a chain of no names
  no_steps : (n : ℕ) → BlankNode (rows_of ws) n → ChainFits (rows_of ws) n
  unfolding iterate
  no_steps n empty = (0, omega arith, record { first = n; leads = refl; ends = empty.before })

  filled_chain : (n m f : ℕ) → t.owner n ≡ some m → (rows_of ws).stale m ≡ false → t.start m ≡ some f → ChainFits (rows_of ws) n
  filled_chain n m f own full st =
      let row = local.attained m f st full in
      ⊎_elim (λ far. no_steps n (row.unreached n own far))
      (λ at.
      let (k, short, leads) = row.chain n at.0 own at.1 in
      (k, short, record { first = f; leads = leads; ends = row.start_before }))
      (present ((rows_of ws).cost n))

  chain_fits : (n : ℕ) → ChainFits (rows_of ws) n
  chain_fits n =
      ⊎_elim (λ free. no_steps n (local.blanks.unused_node_lem n free))
      (λ own.
      let (f, st) = s.owner_used n own.0 own.1 in
      ⊎_elim (λ is. no_steps n (local.blanks.stale_node n own.0 own.1 is))
      (λ full. filled_chain n own.0 f own.1 full st) (decided ((rows_of ws).stale own.0)))
      (present (t.owner n))

-- ---- to a true sheet

module _ {t : Tree} (s : Sound t) {ws : List ℕ} (fits : AllFit t ws) where
  abbrev r : Rows
  r = rows_of ws

  -- machines and nodes past the limits have nothing
  far_machine : (m : ℕ) → machines ≤ m → (r.stale m ≡ false) × BlankMachine r m
  far_machine m past = (
    ⊎_elim (λ is. absurd (omega (arith, (rows_of_read ws).stale m is))) (λ e. e) (decided (r.stale m)),
    record {
      exit = λ x range. cost_outside (r.exit m x) ((rows_of_read ws).exit m x) past;
      last = λ x range. number_outside (r.last m x) ((rows_of_read ws).last m x) past;
    },
  )

  far_node : (n : ℕ) → nodes ≤ n → BlankNode r n
  far_node n past =
      record {
        cost = cost_outside (r.cost n) ((rows_of_read ws).cost n) past;
        before = number_outside (r.before n) ((rows_of_read ws).before n) past;
        by = number_outside (r.by n) ((rows_of_read ws).by n) past;
      }

  unused_machine_lem : (m : ℕ) → t.start m ≡ none → (r.stale m ≡ false) × BlankMachine r m
  unused_machine_lem m free =
      elim (dec_le machines m) [
        | yes past ↦ far_machine m past
        | no before ↦ (fits.0 m (lt_of_not-le before)).unused free
      ]

  unused_node_lem : (n : ℕ) → t.owner n ≡ none → BlankNode r n
  unused_node_lem n free =
      elim (dec_le nodes n) [
        | yes past ↦ far_node n past
        | no before ↦ (fits.1 n (lt_of_not-le before)).unused free
      ]

  blanks : BlankRule t r
  blanks =
      record {
        unused_stale = λ m free. (unused_machine_lem m free).0;
        unused_machine_lem = λ m free. (unused_machine_lem m free).1;
        unused_node_lem = unused_node_lem;
        stale_machine = λ m is. ((fits.0 m ((rows_of_read ws).stale m is)).stale is).0;
        stale_node = λ n m own is. (fits.1 n (s.node_range n m own)).stale m own is;
      }

  module _ (m f : ℕ) (st : t.start m ≡ some f) (full : r.stale m ≡ false) where
    filled : (n : ℕ) → t.owner n ≡ some m → FilledFits t r m n
    filled n own = (fits.1 n (s.node_range n m own)).filled m own full

    relaxed : Relaxed t r m f
    relaxed =
        record {
          start_cost = ((filled f (s.start_owned m f st)).start st).cost;
          moves =
              λ n c x b own cost step.
              ((filled n own).relaxed c cost x (counting_range s n x _ (move_parts t r n x step).has)).moves b step;
          exits = λ n c x e own cost range free exit. ((filled n own).relaxed c cost x range).exits e free exit;
        }

    named : (n c : ℕ) → t.owner n ≡ some m → (n ≡ f → ⊥) → r.cost n ≡ some c → Named t r m n c
    named n c own other cost = (filled n own).named c cost (λ here. other (some_same here st))

    -- the names of a reached node lead to the start
    to_start : (k n c : ℕ) {v : ℕ} → t.owner n ≡ some m → r.cost n ≡ some c → iterate r.before k n ≡ some v → r.before v ≡ none
        → iterate r.before k n ≡ some f
    unfolding iterate
    to_start zero n c own cost e last =
        ⊎_elim (λ same. ap some same)
        (λ other. absurd (none_some (subst (λ (v : ℕ). r.before v ≡ none) (some_same e refl) last) (named n c own other cost).before))
        (equal_or_not n f)
    to_start (suc k) n c own cost e last =
        let (u, before, rest) = bind_some (r.before n) (iterate r.before k) e in
        let first = ((filled f (s.start_owned m f st)).start st).before in
        let name = named n c own (λ same. none_some first (subst (λ (v : ℕ). r.before v ≡ some u) same before)) cost in
        let same : name.node ≡ u = some_same name.before before in
        let own_u : t.owner u ≡ some m = subst (λ (v : ℕ). t.owner v ≡ some m) same name.owned in
        let cost_u : r.cost u ≡ some name.node_cost = subst (λ (v : ℕ). r.cost v ≡ some name.node_cost) same name.reached in
        rw before (to_start k u name.node_cost own_u cost_u rest last)

    attained : Attained t r m f
    attained =
        let start = (filled f (s.start_owned m f st)).start st in
        record {
          start_cost = start.cost;
          start_before = start.before;
          start_by = start.by;
          named = named;
          chain =
              λ n c own cost.
              let (k, short, steps) = fits.2 n (s.node_range n m own) in
              (k, short, to_start k n c own cost steps.leads steps.ends);
          unreached = λ n own. (filled n own).unreached;
          ended = λ x c range. ((fits.0 m (s.machine_range m f st)).filled f st full x range).ended c;
          no_exit = λ x range. ((fits.0 m (s.machine_range m f st)).filled f st full x range).no_exit;
        }

  true_rows : LocalRows t r
  true_rows =
      record {
        blanks = blanks;
        stale_above = λ m p is up. ((fits.0 m ((rows_of_read ws).stale m is)).stale is).1 p up;
        relaxed = relaxed;
        attained = attained;
      }

-- what stands before a node is a node
pub names_fit : {t : Tree} → Sound t → {r : Rows} → ReadRows r → NodeRowsFit t r → NamesFit r
names_fit {t} s {r} read fits n u before = ⊎_elim (λ free. absurd (empty (node.unused free))) used (present (t.owner n))
  where
    node : NodeRowFits t r n
    node = fits n (read.before n u before).0

    empty : BlankNode r n → ⊥
    empty b = none_some b.before before

    filled : (m : ℕ) → t.owner n ≡ some m → FilledFits t r m n → u < nodes
    filled m own row =
        ⊎_elim (λ far. absurd (empty (row.unreached far)))
        (λ at.
        let name = row.named at.0 at.1 (λ here. none_some (row.start here).before before) in
        s.node_range u m (subst (λ (v : ℕ). t.owner v ≡ some m) (some_same name.before before) name.owned))
        (present (r.cost n))

    used : (m : ℕ) × (t.owner n ≡ some m) → u < nodes
    used (m, own) =
        ⊎_elim (λ is. absurd (empty (node.stale m own is))) (λ full. filled m own (node.filled m own full)) (decided (r.stale m))

-- the two are one, for a list of 2,880 words
pub true_fits : {t : Tree} → Sound t → {ws : List ℕ} → length ws ≡ sheet_length → TrueSheet t ws ↔ AllFit t ws
true_fits s {ws} long = (
  λ sheet. (machine_fits s sheet, λ n small. node_fits s sheet n, λ n small. chain_fits s sheet n),
  λ fits.
      record { length = long; marks = λ m small. (fits.0 m small).mark; rows = local_true s (rows_of ws) (true_rows s fits) },
)
