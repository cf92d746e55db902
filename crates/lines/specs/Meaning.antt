-- What the functions of this crate leave: numbers written in a row, a line at the front of a list, and a turn of the session on a book and its
-- sheet.
use Rattle.std.specs.Prelude.{◌≡◌, List, [], ◌∷◌, ◌++◌, ℕ, ◌+◌, ◌*◌, ◌≤◌, ◌<◌, length, take, drop, Option, Some, None}
use Rattle.definitions.specs.Book.{tree_of, WellFormed}
use Rattle.definitions.specs.Sheet.{rows_of}
use Rattle.definitions.specs.Truth.{TrueSheet}
use Rattle.definitions.specs.Stream.{ended, refused}
use Rattle.definitions.specs.Load.{next}
use Rattle.definitions.specs.Session.{decimal, stop_line, PlanPrints}
use Rattle.lines.specs.Turn.{Takes, Given, line, end, Gives, Turns}
use Rattle.lines.specs.declared.Line.{Line}

-- room for every line: a cost of at most ten digits, then a count and 255 commands, each a space and at most three digits, then a newline
abbrev pub longest_line : ℕ
longest_line = 10 + 256 * 4 + 1

-- each number after a space
unfoldable pub numbers : List ℕ → List ℕ
numbers [] = []
numbers (n ∷ ns) = 32 ∷ (decimal n ++ numbers ns)

-- these bytes, so many, stand at the front of a list, and the rest of it is untouched
pub record LineWritten (list bytes : List ℕ) (size : ℕ) (list' : List ℕ) : Type 0 where
  pub front : take size list' ≡ bytes
  pub room : size ≤ length list
  pub rest : drop size list' ≡ drop size list

-- the same for the line of a plan from a to b, on a book and its sheet
pub record PlanWritten (book sheet : List ℕ) (a b : ℕ) (list : List ℕ) (size : ℕ) (list' : List ℕ) : Type 0 where
  pub bytes : List ℕ
  pub prints : PlanPrints (tree_of book) (rows_of sheet) a b bytes
  pub written : LineWritten list bytes size list'

-- commands of the input are taken from one offset to another; the book is well formed again and the sheet is true of it
pub record Taken (input book sheet : List ℕ) (at to : ℕ) (book' sheet' : List ℕ) : Type 0 where
  pub formed : WellFormed book'
  pub filled : TrueSheet (tree_of book') sheet'
  pub takes : Takes input (tree_of book) (rows_of sheet) at (tree_of book') (rows_of sheet') to
  pub onward : at ≤ to
  pub within : to ≤ length input

-- and there none is taken: the input is at its end, with 0, or what stands there is refused
pub record Halted (input book sheet : List ℕ) (at to number : ℕ) (book' sheet' : List ℕ) : Type 0 where
  pub taken : Taken input book sheet at to book' sheet'
  pub ends : number ≡ 0 → next (tree_of book') (drop to input) ≡ ended
  pub refuses : (number ≡ 0 → ⊥) → next (tree_of book') (drop to input) ≡ refused number

-- what a turn says is given, the line being the front of a list
abbrev pub given_of : Option Line → List ℕ → Given
given_of (Some l) list = line (take l.size list) l.next
given_of None list = end

-- the line has room in the list, whose rest is untouched, and the offset to go on from lies further on in the input; at the end the list
-- is untouched
abbrev pub TurnFits : List ℕ → ℕ → List ℕ → Option Line → List ℕ → Type 0
TurnFits input at list (Some l) list' = (at < l.next) × (l.next ≤ length input) × (l.size ≤ length list) × (drop l.size list' ≡ drop l.size list)
TurnFits input at list None list' = list' ≡ list

-- the line of a command refused at an offset is given, and nothing of the input is left
pub record Stopped (input : List ℕ) (at number : ℕ) (list : List ℕ) (turn : Option Line) (list' : List ℕ) : Type 0 where
  pub given : given_of turn list' ≡ line (stop_line number at) (length input)
  pub fits : TurnFits input at list turn list'

-- what is given at an offset where no command is taken
pub record AnsweredAt (input book sheet : List ℕ) (at : ℕ) (list : List ℕ) (turn : Option Line) (list' : List ℕ) : Type 0 where
  pub gives : Gives input (tree_of book) (rows_of sheet) at (given_of turn list')
  pub fits : TurnFits input at list turn list'

-- a turn of the session from an offset of its input on: what is given, and that the book is well formed again and the sheet true of it
pub record TurnSays (input book sheet : List ℕ) (at : ℕ) (list : List ℕ) (turn : Option Line) (book' sheet' list' : List ℕ) : Type 0 where
  pub formed : WellFormed book'
  pub filled : TrueSheet (tree_of book') sheet'
  pub turns : Turns input (tree_of book) (rows_of sheet) at (given_of turn list') (tree_of book') (rows_of sheet')
  pub fits : TurnFits input at list turn list'
