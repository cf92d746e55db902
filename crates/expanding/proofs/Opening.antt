-- A node opens into the steps of its machine's path. Assumes nothing.
use mathlib.Core.Path.{◌≡◌, refl, sym, ◌∙◌, ap}
use mathlib.Core.Option.{none, some}
use mathlib.Core.List.{[], List, ◌∷◌, ◌++◌, append_assoc, append-nil}
use Prim.Native.Nat.{ℕ, zero, suc, ◌-◌, ◌<◌}
use native.Mathlib.Omega.{arith}
use native.Mathlib.Numerals.{sub-one}
use lib.ListN.{length, set}
use Rattle.definitions.specs.Limits.{machines, nodes, commands, absent}
use Rattle.definitions.specs.Tree.{Tree}
use Rattle.definitions.specs.Book.{word, tree_of}
use Rattle.definitions.specs.Sheet.{Rows, rows_of}
use Rattle.definitions.proofs.Words.{present_word, absent_word, below_range}
use Rattle.plantheory.specs.Expand.{chain_part, path_by, node_part}
use Rattle.plantheory.proofs.Expanded.{path_last, part_refined}
use Rattle.expanding.specs.Names.{Traceable}
use Rattle.expanding.specs.Expanding.{Fresh, leave_part, steps_part, Steps, Traced, NodeOpens}
use Rattle.expanding.proofs.Traceable.{row_traceable}
use Rattle.expanding.proofs.Tracing.{steps_stored}

-- going no machine down a node has no part
pub part_flat : (d : ℕ) (t : Tree) (r : Rows) (n x : ℕ) → d ≡ 0 → node_part d t r n x ≡ []
unfolding node_part
part_flat zero t r n x e = refl
part_flat (suc d) t r n x e = absurd (omega arith)

-- a machine that has no last node for x has no path
path_none : (r : Rows) (part : ℕ → ℕ → List ℕ) (m x : ℕ) → r.last m x ≡ none → path_by r part m x ≡ []
unfolding path_by
path_none r part m x e = rw e

-- nor has the node that holds it a part
pub part_none : (d : ℕ) (t : Tree) (r : Rows) (n x : ℕ) {m : ℕ} → t.below n ≡ some m → r.last m x ≡ none → node_part d t r n x ≡ []
part_none zero t r n x bel last = part_flat 0 t r n x refl
part_none (suc d) t r n x {m} bel last = part_refined d t r n x bel ∙ path_none r (node_part d t r) m x last

module _ {t : Tree} {r : Rows} {n x : ℕ} where
  -- a node without a part opens into no steps
  pub opens_none : {left given : List ℕ} → Steps left given 0 → ((d : ℕ) → node_part d t r n x ≡ []) → NodeOpens t r n x 0 left given
  opens_none st none_there = record { steps = st; shut = λ e. none_there; path = λ other. absurd (other refl) }

  -- the steps that lead to the last node, and the one that leaves it, are those of the path
  pub opens_path : (left given : List ℕ) {m u k : ℕ} {left' given' : List ℕ} → t.below n ≡ some m → r.last m x ≡ some u → 0 < length left → 0 < length given
      → Traced r.before r.by u 1 (set left 0 u) (set given 0 x) k left' given' → NodeOpens t r n x k left' given'
  unfolding steps_part
  opens_path left given {m} {u} {k} {left'} {given'} bel last fits also traced =
      record {
        steps = traced.steps;
        shut = λ e. absurd (omega (arith, traced.more));
        path =
            λ other d.
            let part : ℕ → ℕ → List ℕ = node_part d t r in
            let chain : List ℕ = chain_part nodes r.before r.by part u in
            traced.whole part
            ∙ ap (λ (l : List ℕ). chain ++ l) (steps_stored part left given u x 0 fits also ∙ append-nil (leave_part part u x))
            ∙ sym (append_assoc chain (part u x) (x ∷ []))
            ∙ ap (λ (l : List ℕ). l ++ (x ∷ [])) (sym (part_refined d t r n x bel ∙ path_last r part m x last));
      }

-- the path of an opened node, going one machine less down, is what leaves the node
pub opens_on : {t : Tree} {r : Rows} {n x k : ℕ} {left given : List ℕ} → NodeOpens t r n x k left given → (k ≡ 0 → ⊥) → (d : ℕ) → (d ≡ 0 → ⊥)
    → steps_part (node_part (d - 1) t r) left given k ≡ leave_part (node_part d t r) n x
opens_on opens there zero some_level = absurd (some_level refl)
opens_on opens there (suc d) some_level = rw (sub-one (suc d)) (opens.path there d)

-- ---- what the words of a book and a sheet say

module _ {book sheet : List ℕ} (lent : Fresh book sheet) (n x : ℕ) (range : x < commands) where
  abbrev tree : Tree
  tree = tree_of book

  abbrev rows : Rows
  rows = rows_of sheet

  -- the machine below a node
  pub held : {w : ℕ} → w ≡ word (tree.below n) → (w ≡ absent → ⊥) → (tree.below n ≡ some w) × (w < machines)
  held {w} e present =
      let bel : tree.below n ≡ some w = present_word (tree.below n) e present in
      (bel, (below_range tree lent.well_formed.sound n w bel).1)

  -- the names of its row can be followed from its last node
  pub last_traceable : {m u : ℕ} → tree.below n ≡ some m → rows.last m x ≡ some u → Traceable rows.before rows.by u
  last_traceable {m} bel last =
      let s = lent.well_formed.sound in
      let (f, used) = s.held_used m n (s.below_held n m bel) in
      row_traceable s lent.true_sheet.rows lent.fresh used range last

  -- the word for absent says that there is no last node
  pub no_last : {m w : ℕ} → tree.below n ≡ some m → w ≡ word (rows.last m x) → w ≡ absent → rows.last m x ≡ none
  no_last {m} bel = absent_word (rows.last m x) (λ u last. omega (arith, (last_traceable bel last).here))
