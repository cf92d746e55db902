-- A command of a stream, read and not refused, is done by its own function: what that function asks, and what is left. Assumes nothing.
use mathlib.Core.Path.{◌≡◌, refl, sym, ◌∙◌, ap, subst}
use mathlib.Core.List.{List}
use Prim.Native.Nat.{ℕ}
use Rattle.definitions.specs.Book.{tree_of}
use Rattle.definitions.specs.Stream.{Edit, edit, refresh}
use Rattle.definitions.specs.Stream.{Command as Meant}
use Rattle.definitions.specs.Edit.{refusal}
use Rattle.definitions.proofs.Words.{words_marks}
use Rattle.definitions.proofs.Commands.{TakenBegin, taken_begin}
use Rattle.definitions.proofs.Kept.{CostInRange}
use Rattle.reading.specs.Meaning.{command_of, Narrow}
use Rattle.reading.specs.declared.Command.{Command}
use Rattle.editing.specs.Edited.{Ready, Edited}
use Rattle.editing.proofs.Left.{edited_tree, edited_holding}
use Rattle.refreshing.specs.Refresh.{Refreshes}
use Rattle.loading.specs.Loading.{Asked, Done}

-- what is left of the words by one command is left by the same command, told otherwise
done_same : {b s : List ℕ} {c d : Meant} {b' s' : List ℕ} → c ≡ d → Done b s d b' s' → Done b s c b' s'
done_same {b} {s} {b' = b'} {s' = s'} e done = subst (λ (k : Meant). Done b s k b' s') (sym e) done

-- the command is told by its case
module _ {b s : List ℕ} {c d : Command} (asked : Asked b s c) (told : c ≡ d) where
  -- its operands
  pub narrow : Narrow d
  narrow = subst Narrow told asked.narrow

  -- an edit can be done
  pub ready : {e : Edit} → command_of d ≡ edit e → Ready b s e
  ready same =
      record {
        formed = asked.formed;
        filled = asked.filled;
        taken = subst (λ (k : Meant). refusal (tree_of b) k ≡ 0) (ap command_of told ∙ same) asked.taken;
      }

  -- what begin asks
  pub begin_range : {m n : ℕ} → command_of d ≡ edit (Edit.begin m n) → TakenBegin m n
  begin_range {m} {n} same = taken_begin (tree_of b) m n (ready same).taken

  -- and once done it leaves what the command leaves
  pub edit_done : {e : Edit} {b' s' : List ℕ} → command_of d ≡ edit e → CostInRange e → Edited b s e b' s' → Done b s (command_of c) b' s'
  edit_done {e} same range left =
      let (formed, filled) = edited_holding (ready same) range left in
      done_same (ap command_of told ∙ same)
      (record { formed = formed; filled = filled; tree = edited_tree (ready same) range left; rows = left.rows })

  -- so does a refresh
  pub refresh_done : {s' : List ℕ} → command_of d ≡ refresh → Refreshes (tree_of b) s s' → Done b s (command_of c) b s'
  refresh_done {s'} same left =
      let (size, marks) = words_marks s' (sym left.words) in
      done_same (ap command_of told ∙ same)
      (record {
        formed = asked.formed;
        filled = record { length = size; marks = marks; rows = left.rows.filled };
        tree = refl;
        rows = left.rows;
      })
