-- The bytes of a command: reading them gives the command back, whatever follows, and loading them does it. Assumes nothing.
use mathlib.Core.Path.{◌≡◌, ◌∙◌}
use mathlib.Core.Option.{none}
use mathlib.Core.List.{[], List, ◌∷◌, ◌++◌}
use Prim.Native.Nat.{ℕ}
use native.Mathlib.Nat.{div-add-mod'}
use native.Mathlib.Omega.{arith}
use lib.ListN.{length}
use lib.Seq.{drop-append_seam}
use borrow.Author.Tests.{le-leb}
use Rattle.definitions.specs.Tree.{Tree}
use Rattle.definitions.specs.Stream.{Edit, Command, edit, begin, add, refine, arrow, clear, hold, leave, taken, operand_length, decode, read_next}
use Rattle.definitions.specs.Edit.{refusal, edited}
use Rattle.definitions.specs.Load.{Outcome, after, load}
use Rattle.definitions.specs.Write.{pair, arrow_bytes}
use Rattle.definitions.specs.Import.{setting_bytes}
use Rattle.definitions.proofs.Streams.{next_takes, load_taken}

-- the bytes stand for the command: in front of any others they are read as it, and no byte more is taken
abbrev pub Spells : Command → List ℕ → Type 0
Spells c bytes = (rest : List ℕ) → read_next (bytes ++ rest) ≡ taken c (length bytes)

-- begin
pub spells_begin : (m n : ℕ) → Spells (edit (begin m n)) (0x10 ∷ m ∷ pair n)
unfolding read_next operand_length decode
spells_begin m n rest = rw (le-leb 3 (length (m ∷ (pair n ++ rest))) (omega arith), div-add-mod' n 256)

-- add
pub spells_add : (m n : ℕ) → Spells (edit (add m n)) (0x11 ∷ m ∷ pair n)
unfolding read_next operand_length decode
spells_add m n rest = rw (le-leb 3 (length (m ∷ (pair n ++ rest))) (omega arith), div-add-mod' n 256)

-- refine
pub spells_refine : (n m s : ℕ) → Spells (edit (refine n m s)) (0x12 ∷ (pair n ++ m ∷ pair s))
unfolding read_next operand_length decode
spells_refine n m s rest =
    rw (le-leb 5 (length (pair n ++ m ∷ pair s ++ rest)) (omega arith), div-add-mod' n 256, div-add-mod' s 256)

-- arrow
pub spells_arrow : (n x v c : ℕ) → Spells (edit (arrow n x v c)) (arrow_bytes n x v c)
unfolding read_next operand_length decode
spells_arrow n x v c rest =
    rw (
      le-leb 7 (length (pair n ++ x ∷ (pair v ++ pair c) ++ rest)) (omega arith),
      div-add-mod' n 256,
      div-add-mod' v 256,
      div-add-mod' c 256,
    )

-- clear
pub spells_clear : (n x : ℕ) → Spells (edit (clear n x)) (setting_bytes n x none)
unfolding read_next operand_length decode
spells_clear n x rest = rw (le-leb 3 (length (pair n ++ x ∷ rest)) (omega arith), div-add-mod' n 256)

-- hold
pub spells_hold : (n b : ℕ) → Spells (edit (hold n b)) (0x1A ∷ (pair n ++ b ∷ []))
unfolding read_next operand_length decode
spells_hold n b rest = rw (le-leb 3 (length (pair n ++ b ∷ rest)) (omega arith), div-add-mod' n 256)

-- leave
pub spells_leave : (m c : ℕ) → Spells (edit (leave m c)) (0x1B ∷ m ∷ pair c)
unfolding read_next operand_length decode
spells_leave m c rest = rw (le-leb 3 (length (m ∷ (pair c ++ rest))) (omega arith), div-add-mod' c 256)

-- what becomes of a stream that is taken whole
abbrev pub whole : List ℕ → List Command → Tree → Outcome
whole bytes cs u = record { bytes = length bytes; commands = cs; number = 0; tree = u }

-- a command that is taken on tree t, and its bytes
pub record TakenAs (t : Tree) (e : Edit) (bytes : List ℕ) : Type 0 where
  pub spells : Spells (edit e) bytes
  pub taken : refusal t (edit e) ≡ 0

-- one command is done, and the rest of the stream is left
pub load_step : {t : Tree} {e : Edit} {bytes : List ℕ} → TakenAs t e bytes → (rest : List ℕ)
    → load t (bytes ++ rest) ≡ after (edit e) (length bytes) (load (edited t e) rest)
load_step {t} {e} {bytes} s rest =
    load_taken t (bytes ++ rest) (next_takes t (bytes ++ rest) (s.spells rest) s.taken)
    ∙ rw (drop-append_seam bytes rest)
