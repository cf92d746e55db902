-- Document 01, "Loading a stream": what a command is done on and what it leaves, what becomes of the next command of a stream, and what
-- stands where a part of a stream is taken.
use Rattle.std.specs.Prelude.{◌≡◌, List, ℕ, ◌+◌, ◌≤◌, length, drop, Option, Some, None, Result, Ok, Err}
use Rattle.definitions.specs.Book.{tree_of, WellFormed}
use Rattle.definitions.specs.Sheet.{rows_of}
use Rattle.definitions.specs.Truth.{TrueSheet}
use Rattle.definitions.specs.Stream.{taken}
use Rattle.definitions.specs.Stream.{Command as Meant}
use Rattle.definitions.specs.Edit.{refusal, tree_after, RowsAfter}
use Rattle.definitions.specs.Load.{next, stopped, load}
use Rattle.definitions.specs.Calls.{LoadAnswer, LoadDone}
use Rattle.reading.specs.Meaning.{command_of, Narrow}
use Rattle.reading.specs.declared.Command.{Command}
use Rattle.refusals.specs.Meaning.{number_of}
use Rattle.refusals.specs.declared.Refusal.{Refusal}
use Rattle.loading.specs.declared.Loaded.{Loaded}

-- 0, or the number of a refusal
abbrev pub number_in : Option Refusal → ℕ
number_in None = 0
number_in (Some r) = number_of r

-- what Load's answer says by document 01
abbrev pub answer_of : Loaded → LoadAnswer
answer_of r = record { bytes = r.bytes; commands = r.commands; number = number_in r.refusal }

-- book b is well formed, sheet s is true of it, and the command, each operand of one byte or two, is not refused
pub record Asked (b s : List ℕ) (c : Command) : Type 0 where
  pub formed : WellFormed b
  pub filled : TrueSheet (tree_of b) s
  pub taken : refusal (tree_of b) (command_of c) ≡ 0
  pub narrow : Narrow c

-- the command leaves book b and sheet s as b' and s', a well-formed book that holds the tree after it and a true sheet with the rows after it
pub record Done (b s : List ℕ) (c : Meant) (b' s' : List ℕ) : Type 0 where
  pub formed : WellFormed b'
  pub filled : TrueSheet (tree_of b') s'
  pub tree : tree_of b' ≡ tree_after (tree_of b) c
  pub rows : RowsAfter (tree_of b) c (rows_of s) (rows_of s')

-- the next command of the bytes, which takes so many of them, is done
pub record TookNext (b s bytes : List ℕ) (size : ℕ) (b' s' : List ℕ) : Type 0 where
  pub command : Meant
  pub stands : next (tree_of b) bytes ≡ taken command size
  pub done : Done b s command b' s'

-- nothing of the bytes is taken, with this number, and nothing changes
pub record Stays (b s bytes : List ℕ) (k : ℕ) (b' s' : List ℕ) : Type 0 where
  pub stops : load (tree_of b) bytes ≡ stopped k (tree_of b)
  pub book : b' ≡ b
  pub sheet : s' ≡ s

-- what became of the next command of the bytes: it is done, there is none, or it is refused
abbrev pub Turned : List ℕ → List ℕ → List ℕ → Result (Option ℕ) Refusal → List ℕ → List ℕ → Type 0
Turned b s bytes (Ok (Some size)) b' s' = TookNext b s bytes size b' s'
Turned b s bytes (Ok None) b' s' = Stays b s bytes 0 b' s'
Turned b s bytes (Err r) b' s' = Stays b s bytes (number_of r) b' s'

-- so many bytes and commands, and then an answer
abbrev pub joined : ℕ → ℕ → LoadAnswer → LoadAnswer
joined bytes count a = record { bytes = bytes + a.bytes; commands = count + a.commands; number = a.number }

-- so many bytes and commands of a stream are taken on book b and sheet s, which stand now as b' and s': what the rest of the stream leaves
-- of these is what the whole stream leaves of those
pub record Underway (b s stream : List ℕ) (bytes count : ℕ) (b' s' : List ℕ) : Type 0 where
  pub formed : WellFormed b'
  pub filled : TrueSheet (tree_of b') s'
  pub room : bytes ≤ length stream
  pub counted : count ≤ bytes
  pub rest : (a : LoadAnswer) (b'' s'' : List ℕ) → LoadDone (tree_of b') (rows_of s') (load (tree_of b') (drop bytes stream)) a b'' s''
      → LoadDone (tree_of b) (rows_of s) (load (tree_of b) stream) (joined bytes count a) b'' s''
