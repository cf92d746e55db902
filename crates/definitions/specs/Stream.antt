-- Document 01, "Loading a stream": opcodes, operands, and the reading of a stream's next command. Opcodes 0x1A and 0x1B are document
-- 02's (W-205, W-207).
use Rattle.std.specs.Prelude.{cond, List, [], ◌∷◌, ℕ, suc, ◌+◌, ◌*◌, eqb, leb, length, get_or}
use Rattle.std.proofs.Math.Option.{Option, none, some}
use Rattle.definitions.specs.Basics.{◌>>=◌, option}

-- the commands that change the tree, with their operands
pub data Edit : Type 0 where
  begin : (machine node : ℕ) → Edit
  add : (machine node : ℕ) → Edit
  refine : (node machine first : ℕ) → Edit
  remove : (node : ℕ) → Edit
  arrow : (node command target cost : ℕ) → Edit
  clear : (node command : ℕ) → Edit
  start : (node : ℕ) → Edit
  crown : (machine node : ℕ) → Edit
  hold : (node byte : ℕ) → Edit
  leave : (machine cost : ℕ) → Edit

-- the eleven commands of a stream
pub data Command : Type 0 where
  edit : Edit → Command
  refresh : Command

-- how many bytes of operands follow an opcode; none for an unknown opcode
unfoldable pub operand_length : ℕ → Option ℕ
operand_length op =
    cond (eqb op 0x10) (some 3)
    (cond (eqb op 0x11) (some 3)
    (cond (eqb op 0x12) (some 5)
    (cond (eqb op 0x13) (some 2)
    (cond (eqb op 0x14) (some 7)
    (cond (eqb op 0x15) (some 3)
    (cond (eqb op 0x16) (some 2)
    (cond (eqb op 0x17) (some 3)
    (cond (eqb op 0x18) (some 0)
    (cond (eqb op 0x1A) (some 3)
    (cond (eqb op 0x1B) (some 3) none))))))))))

-- the byte at a place, and the two bytes from a place, high byte first
abbrev pub byte_at : List ℕ → ℕ → ℕ
byte_at bytes i = get_or bytes i 0

abbrev pub pair_at : List ℕ → ℕ → ℕ
pair_at bytes i = byte_at bytes i * 256 + byte_at bytes (suc i)

-- the command of an opcode and the bytes after it: nodes and costs take two bytes, machines, commands and holds one; none for an unknown opcode
unfoldable pub decode : ℕ → List ℕ → Option Command
decode op bytes =
    cond (eqb op 0x10) (some (edit (begin (byte_at bytes 0) (pair_at bytes 1))))
    (cond (eqb op 0x11) (some (edit (add (byte_at bytes 0) (pair_at bytes 1))))
    (cond (eqb op 0x12) (some (edit (refine (pair_at bytes 0) (byte_at bytes 2) (pair_at bytes 3))))
    (cond (eqb op 0x13) (some (edit (remove (pair_at bytes 0))))
    (cond (eqb op 0x14) (some (edit (arrow (pair_at bytes 0) (byte_at bytes 2) (pair_at bytes 3) (pair_at bytes 5))))
    (cond (eqb op 0x15) (some (edit (clear (pair_at bytes 0) (byte_at bytes 2))))
    (cond (eqb op 0x16) (some (edit (start (pair_at bytes 0))))
    (cond (eqb op 0x17) (some (edit (crown (byte_at bytes 0) (pair_at bytes 1))))
    (cond (eqb op 0x18) (some refresh)
    (cond (eqb op 0x1A) (some (edit (hold (pair_at bytes 0) (byte_at bytes 2))))
    (cond (eqb op 0x1B) (some (edit (leave (byte_at bytes 0) (pair_at bytes 1)))) none))))))))))

-- what stands next in a stream: nothing, a command and how many bytes it takes, or a refusal
pub data Next : Type 0 where
  ended : Next
  taken : (command : Command) (size : ℕ) → Next
  refused : (number : ℕ) → Next

-- the next command of a stream as it is written: refused with 5 (unknown opcode: one without operands and command; it lacks both or
-- neither), then 4 (cut short)
unfoldable pub read_next : List ℕ → Next
read_next [] = ended
read_next (op ∷ rest) =
    option (refused 5) (λ next. next)
    (operand_length op >>= λ size. decode op rest >>= λ c. some (cond (leb size (length rest)) (taken c (suc size)) (refused 4)))
