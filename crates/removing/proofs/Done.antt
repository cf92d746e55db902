-- What remove leaves, from what its parts leave. Assumes nothing.
use mathlib.Core.Path.{◌≡◌, refl}
use mathlib.Core.Bool.{Bool, true, false, cond, not, ◌&&◌, ◌||◌}
use mathlib.Core.Option.{Option}
use mathlib.Core.List.{List}
use Prim.Native.Nat.{ℕ}
use Rattle.definitions.specs.Basics.{option, unless, is_some}
use Rattle.definitions.specs.Limits.{machines}
use Rattle.definitions.specs.Tree.{Tree, within, over}
use Rattle.definitions.specs.Book.{tree_of}
use Rattle.definitions.specs.Sheet.{Rows, rows_of}
use Rattle.definitions.specs.Stream.{Edit}
use Rattle.definitions.specs.Edit.{held_within, without, with_stale, edited, touches, edited_rows}
use Rattle.definitions.proofs.Words.{same_rows}
use Rattle.definitions.proofs.Commands.{TakenRemove, taken_remove}
use Rattle.sheet.proofs.Stores.{leaves_then}
use Rattle.book.specs.Chosen.{chosen, up_to}
use Rattle.sheet.specs.Fields.{with_blank_nodes}
use Rattle.marking.specs.Stale.{LeavesStaleOver}
use Rattle.sheet.proofs.Stores.{leaves_same}
use Rattle.clearing.specs.Gone.{Left, MachinesGone, without_nodes, without_machines, without_machine_rows}
use Rattle.clearing.proofs.Laws.{left_then, machines_all}
use Rattle.editing.specs.Edited.{Ready, Edited}
use Rattle.editing.proofs.Left.{left_edited}
use Rattle.removing.specs.Within.{Listed, cut, NodesRemoved}

-- rows where the marking was done first, and then what is within n went
module _ (t : Tree) (touched gone held : ℕ → Bool) (r : Rows) where
  mark : (b : Bool) (o : Option ℕ) (s : Bool) → cond b false (is_some o && s) ≡ (is_some (unless b o) && s)
  mark true o s = refl
  mark false o s = refl

  row : (b : Bool) (o : Option ℕ) (a : Bool) (v : Option ℕ)
      → unless b (unless (not (is_some o) || a) v) ≡ unless (not (is_some (unless b o)) || a) v
  row true o a v = refl
  row false o a v = refl

  node : (b : Bool) (o v : Option ℕ) → unless b (unless (option true touched o) v) ≡ unless (option true touched (unless b o)) v
  node true o v = refl
  node false o v = refl

  pub rows_without : without_machine_rows (with_blank_nodes (with_stale t touched r) gone) held
      ≡ with_stale (without_machines (without_nodes t gone) held) touched r
  unfolding with_stale
  rows_without =
      same_rows _ _ (λ m. mark (held m) (t.start m) (touched m || r.stale m)) (λ m x. row (held m) (t.start m) (touched m) (r.exit m x))
      (λ m x. row (held m) (t.start m) (touched m) (r.last m x)) (λ n. node (gone n) (t.owner n) (r.cost n))
      (λ n. node (gone n) (t.owner n) (r.before n)) (λ n. node (gone n) (t.owner n) (r.by n))

-- remove, from its parts
module _ {b s : List ℕ} {n : ℕ} (ready : Ready b s (Edit.remove n)) where
  -- what it is done on: a node in use
  pub remove_taken : TakenRemove (tree_of b) n
  remove_taken = taken_remove (tree_of b) n ready.taken

  module _ {s₁ : List ℕ} (touched : LeavesStaleOver (tree_of b) n s s₁) (gone : List ℕ)
      (listed : Listed machines (held_within (tree_of b) n) gone)
      {b₂ s₂ : List ℕ} (nodes_removed : NodesRemoved b s₁ b₂ s₂ n) {b₃ s₃ : List ℕ}
      (machines_gone : MachinesGone b₂ s₂ b₃ s₃ (up_to (chosen gone) machines)) where
    -- what the parts leave, one after the other
    left : Left s b₃ s₃ (without_machines (cut (tree_of b) (within (tree_of b) n) n) (held_within (tree_of b) n))
        (without_machine_rows (with_blank_nodes (with_stale (tree_of b) (λ p. over (tree_of b) p n) (rows_of s)) (within (tree_of b) n))
        (held_within (tree_of b) n))
    left =
        left_then (λ t. without_machines t (held_within (tree_of b) n)) (λ r. without_machine_rows r (held_within (tree_of b) n))
        (record {
          book = nodes_removed.book;
          sheet = leaves_then (λ r. with_blank_nodes r (within (tree_of b) n)) touched nodes_removed.sheet;
        })
        (machines_all (chosen gone) (held_within (tree_of b) n) listed.at b₂ machines_gone)

    -- is what the edit leaves
    pub remove_done : Edited b s (Edit.remove n) b₃ s₃
    unfolding edited edited_rows touches without with_stale
    remove_done =
        left_edited ready left.book
        (leaves_same left.sheet
        (rows_without (tree_of b) (λ p. over (tree_of b) p n) (within (tree_of b) n) (held_within (tree_of b) n) (rows_of s)))
