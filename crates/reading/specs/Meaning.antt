-- What the answers of this crate's functions mean, by the definitions of a stream.
use Rattle.std.specs.Prelude.{◌≡◌, List, ℕ, ◌+◌, ◌<◌, length, drop, Option, Some, None, Result, Ok, Err}
use Rattle.std.proofs.Math.Option as maybe
use Rattle.definitions.specs.Stream.{begin, add, refine, remove, arrow, clear, start, crown, hold, leave, edit, refresh}
use Rattle.definitions.specs.Stream.{Next, ended, taken, refused, operand_length, read_next}
use Rattle.definitions.specs.Stream.{Command as Meant}
use Rattle.reading.specs.declared.Command.{Command}
use Rattle.reading.specs.declared.Command.TheVariants.{Begin, Add, Refine, Remove, Arrow, Clear, Start, Crown, Refresh, Hold, Leave}
use Rattle.reading.specs.declared.Taken.{Taken}
use Rattle.refusals.specs.Meaning.{number_of}
use Rattle.refusals.specs.declared.Refusal.{Refusal}

-- a command of a stream
abbrev pub command_of : Command → Meant
command_of (Begin m n) = edit (begin m n)
command_of (Add m n) = edit (add m n)
command_of (Refine n m s) = edit (refine n m s)
command_of (Remove n) = edit (remove n)
command_of (Arrow n x v c) = edit (arrow n x v c)
command_of (Clear n x) = edit (clear n x)
command_of (Start n) = edit (start n)
command_of (Crown m n) = edit (crown m n)
command_of Refresh = refresh
command_of (Hold n b) = edit (hold n b)
command_of (Leave m c) = edit (leave m c)

-- the command of an opcode, if it has one
abbrev pub decoded_of : Option Command → maybe.Option Meant
decoded_of (Some c) = maybe.some (command_of c)
decoded_of None = maybe.none

-- what stands next in a stream: nothing, a command and how many bytes it takes, or a refusal
abbrev pub read_of : Result (Option Taken) Refusal → Next
read_of (Ok None) = ended
read_of (Ok (Some t)) = taken (command_of t.command) t.size
read_of (Err r) = refused (number_of r)

-- every operand is a number of one byte, or of two
abbrev pub Narrow : Command → Type 0
Narrow (Begin m n) = (m < 256) × (n < 65536)
Narrow (Add m n) = (m < 256) × (n < 65536)
Narrow (Refine n m s) = (n < 65536) × (m < 256) × (s < 65536)
Narrow (Remove n) = n < 65536
Narrow (Arrow n x v c) = (n < 65536) × (x < 256) × (v < 65536) × (c < 65536)
Narrow (Clear n x) = (n < 65536) × (x < 256)
Narrow (Start n) = n < 65536
Narrow (Crown m n) = (m < 256) × (n < 65536)
Narrow Refresh = Unit
Narrow (Hold n b) = (n < 65536) × (b < 256)
Narrow (Leave m c) = (m < 256) × (c < 65536)

abbrev pub NarrowDecoded : Option Command → Type 0
NarrowDecoded (Some c) = Narrow c
NarrowDecoded None = Unit

abbrev pub NarrowRead : Result (Option Taken) Refusal → Type 0
NarrowRead (Ok None) = Unit
NarrowRead (Ok (Some t)) = Narrow t.command
NarrowRead (Err r) = Unit

-- behind the opcode, at a place of the bytes, the operands are all there that it has
abbrev pub Whole : List ℕ → ℕ → ℕ → Type 0
Whole bytes at op = (operands : ℕ) → operand_length op ≡ maybe.some operands → at + operands < length bytes

-- r is what stands next in the bytes behind those that are taken
pub record NextRead (bytes : List ℕ) (taken : ℕ) (r : Result (Option Taken) Refusal) : Type 0 where
  pub next : read_of r ≡ read_next (drop taken bytes)
  pub narrow : NarrowRead r
