-- The commands of a stream, done in order, keep the rows true. Assumes nothing.
use mathlib.Core.Path.{◌≡◌}
use mathlib.Core.List.{List}
use Prim.Native.Nat.{ℕ}
use Rattle.definitions.specs.Tree.{Tree, Sound}
use Rattle.definitions.specs.Sheet.{Rows}
use Rattle.definitions.specs.Truth.{TrueRows}
use Rattle.definitions.specs.Stream.{Command, edit, refresh}
use Rattle.definitions.specs.Edit.{refusal, tree_after, RowsAfter}
use Rattle.definitions.specs.Load.{load, RowsAfterAll}
use Rattle.definitions.specs.Demand.{Bytes}
use Rattle.definitions.proofs.Streams.{next_taken, load_induction}
use Rattle.definitions.proofs.Kept.{CommandInRange, command_sound, drop_bytes, next_range}
use Rattle.rows.proofs.Edits.{edited_true}

-- a command that is taken leaves true rows true
pub command_true : {t : Tree} → Sound t → (c : Command) → CommandInRange c → refusal t c ≡ 0 → {r q : Rows} → TrueRows t r
    → RowsAfter t c r q → TrueRows (tree_after t c) q
command_true s (edit e) range ok {r} {q} rows same = rw same (edited_true s e range ok r rows)
command_true s refresh range ok rows after = after.filled

-- and so do the commands that are taken of a stream of bytes
pub commands_true : {t : Tree} → Sound t → {r q : Rows} → TrueRows t r → (stream : List ℕ) → Bytes stream
    → RowsAfterAll t (load t stream).commands r q → TrueRows (load t stream).tree q
commands_true {t} s {r} {q} rows stream bytes after =
    load_induction
    (λ t stream o. (r : Rows) → Sound t → TrueRows t r → Bytes stream → RowsAfterAll t o.commands r q → TrueRows o.tree q)
    (λ t r s rows bytes same. rw same rows) (λ t stream k e r s rows bytes same. rw same rows)
    (λ t stream c size o e rest r s rows bytes after.
    let range : CommandInRange c = next_range t stream bytes e in
    let ok : refusal t c ≡ 0 = (next_taken t stream e).1 in
    let (mid, first, others) = after in
    rest mid (command_sound s c range ok) (command_true s c range ok rows first) (drop_bytes size stream bytes) others)
    t stream r s rows bytes after
