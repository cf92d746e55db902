-- Streams that are taken whole: what the definition of loading says of them, and of rows that are as an opening has them.
-- Assumes nothing.
use mathlib.Core.Path.{◌≡◌, ap, subst, ◌∙◌}
use mathlib.Core.List.{[], List, ◌∷◌, ◌++◌, append_assoc, append-nil}
use Prim.Native.Nat.{ℕ}
use lib.ListN.{length, length-append}
use Rattle.definitions.specs.Tree.{Tree}
use Rattle.definitions.specs.Sheet.{Rows}
use Rattle.definitions.specs.Stream.{Edit, Command, edit}
use Rattle.definitions.specs.Edit.{edited, edited_rows}
use Rattle.definitions.specs.Load.{after, load, RowsAfterAll}
use Rattle.definitions.specs.Open.{open_rows}
use Rattle.definitions.proofs.Streams.{next_nothing, load_end}
use Rattle.definitions.proofs.Spelling.{whole, TakenAs, load_step}

-- from rows as an opening has them an edit leaves such rows
abbrev pub StaysOpen : Tree → Edit → Type 0
StaysOpen t e = edited_rows t e (open_rows t) ≡ open_rows (edited t e)

-- the bytes are commands that are taken one after the other, from tree t to tree u; rows stay as an opening has them
pub data Takes : Tree → List ℕ → List Command → Tree → Type 0 where
  done : {t : Tree} → Takes t [] [] t
  then : {t u : Tree} {e : Edit} {bytes rest : List ℕ} {cs : List Command} → TakenAs t e bytes → StaysOpen t e
      → Takes (edited t e) rest cs u → Takes t (bytes ++ rest) (edit e ∷ cs) u

-- one command
pub takes_one : {t u : Tree} {e : Edit} {bytes : List ℕ} → TakenAs t e bytes → StaysOpen t e → edited t e ≡ u
    → Takes t bytes (edit e ∷ []) u
takes_one {t} {u} {e} {bytes} s o same = rw append-nil at (subst (Takes t (bytes ++ []) (edit e ∷ [])) same (then s o done))

-- two such streams, one after the other
pub takes_both : {t u v : Tree} {xs ys : List ℕ} {cs ds : List Command} → Takes t xs cs u → Takes u ys ds v
    → Takes t (xs ++ ys) (cs ++ ds) v
takes_both done w = w
takes_both (then s o first) w = rw append_assoc (then s o (takes_both first w))

-- such a stream is loaded whole
pub takes_load : {t u : Tree} {bytes : List ℕ} {cs : List Command} → Takes t bytes cs u → load t bytes ≡ whole bytes cs u
takes_load (done {t = t}) = load_end t [] (next_nothing t)
takes_load (then {e = e} {bytes = bytes} {rest = rest} s o w) =
    load_step s rest ∙ ap (after (edit e) (length bytes)) (takes_load w) ∙ rw (length-append bytes rest)

-- and leaves rows as an opening has them, if they were so
pub takes_rows : {t u : Tree} {bytes : List ℕ} {cs : List Command} → Takes t bytes cs u → (q : Rows) → RowsAfterAll t cs (open_rows t) q
    → q ≡ open_rows u
takes_rows done q e = e
takes_rows (then {t = t} {e = e} {cs = cs} s o w) q (mid, here, rest) =
    takes_rows w q (subst (λ (r : Rows). RowsAfterAll (edited t e) cs r q) (here ∙ o) rest)
