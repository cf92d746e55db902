-- Laws of what stands next in a stream, opcode by opcode. Assumes nothing.
use mathlib.Core.Path.{◌≡◌, sym, ◌∙◌, ap}
use mathlib.Core.Option.{none, some}
use mathlib.Core.List.{List, ◌∷◌}
use Prim.Native.Nat.{ℕ, suc, ◌+◌, ◌-◌, ◌≤◌, ◌<◌}
use native.Mathlib.Numerals.{add-one}
use native.Mathlib.Omega.{arith}
use borrow.Author.Tests.{ne_eqb}
use lib.ListN.{length, drop, length-drop, drop_of_length-le}
use lib.Seq.{drop-cons}
use Rattle.definitions.specs.Stream.{Command, ended, taken, refused, operand_length, byte_at, decode, read_next}
use Rattle.definitions.proofs.Options.{none_some}
use Rattle.definitions.proofs.Streams.{known_decodes, read_nothing, read_unknown, read_cut, read_whole}

-- an opcode that is none of these is unknown
pub unknown : (op : ℕ) → (op ≡ 0x10 → ⊥) → (op ≡ 0x11 → ⊥) → (op ≡ 0x12 → ⊥) → (op ≡ 0x13 → ⊥) → (op ≡ 0x14 → ⊥)
    → (op ≡ 0x15 → ⊥) → (op ≡ 0x16 → ⊥) → (op ≡ 0x17 → ⊥) → (op ≡ 0x18 → ⊥) → (op ≡ 0x1A → ⊥) → (op ≡ 0x1B → ⊥) → operand_length op ≡ none
unfolding operand_length
unknown op a b c d e f g h i j k =
    rw (
      ne_eqb op 0x10 a,
      ne_eqb op 0x11 b,
      ne_eqb op 0x12 c,
      ne_eqb op 0x13 d,
      ne_eqb op 0x14 e,
      ne_eqb op 0x15 f,
      ne_eqb op 0x16 g,
      ne_eqb op 0x17 h,
      ne_eqb op 0x18 i,
      ne_eqb op 0x1A j,
      ne_eqb op 0x1B k,
    )

-- ---- what stands next behind the bytes that are taken

module _ (bytes : List ℕ) (at : ℕ) where
  -- all are taken
  pub next_ended : length bytes ≤ at → ended ≡ read_next (drop at bytes)
  next_ended all = sym (ap read_next (drop_of_length-le bytes all) ∙ read_nothing)

  module _ {op : ℕ} (e : op ≡ byte_at bytes at) (inside : at < length bytes) where
    -- the opcode, and the bytes behind it
    opcode_first : drop at bytes ≡ op ∷ drop (at + 1) bytes
    opcode_first = rw (e, add-one) (drop-cons bytes at 0 inside)

    -- how many there are
    behind : length (drop (at + 1) bytes) ≡ length bytes - (at + 1)
    behind = length-drop (at + 1) bytes

    pub next_unknown : none ≡ operand_length op → refused 5 ≡ read_next (drop at bytes)
    next_unknown none_known = sym (ap read_next opcode_first ∙ read_unknown op (drop (at + 1) bytes) (sym none_known))

    pub next_cut : {k : ℕ} → some k ≡ operand_length op → length bytes - at ≤ k → refused 4 ≡ read_next (drop at bytes)
    next_cut known short =
        sym (ap read_next opcode_first ∙ read_cut op (drop (at + 1) bytes) (sym known) (omega (arith, behind)))

    pub next_whole : {k : ℕ} {c : Command} → some k ≡ operand_length op → k < length bytes - at → some c ≡ decode op (drop (at + 1) bytes)
        → taken c (1 + k) ≡ read_next (drop at bytes)
    next_whole {k} known there says =
        let size : 1 + k ≡ suc k = omega arith in
        rw size (sym (ap read_next opcode_first ∙ read_whole op (drop (at + 1) bytes) (sym known) (omega (arith, behind)) (sym says)))

    -- an opcode that has operands has a command
    pub never_undecoded : {k : ℕ} → some k ≡ operand_length op → none ≡ decode op (drop (at + 1) bytes) → ⊥
    never_undecoded known missing = none_some (sym missing) (known_decodes op (drop (at + 1) bytes) (sym known)).1
