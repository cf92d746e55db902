-- Document 02, W-203: the import turns a node, a command, a target and a timing into the bytes of one stream command. A float is the library's:
-- not a number, an infinity, or `fin s m e`, which is m × 2 ^ e with a minus sign where s is true, zero included. Without the sign `fin s m e` is
-- exactly the fraction `num` / `den` of two whole numbers.
use Rattle.std.specs.Prelude.{◌≡◌, ◌⊎◌, false, List, [], ◌∷◌, ◌++◌, ℕ, ◌-◌, ◌*◌, ◌≤◌, ◌<◌, take, Float}
use Rattle.std.proofs.Math.Option.{Option, none, some}
use Rattle.std.specs.Float.{nan, inf, fin, binary32}
use Rattle.std.specs.Float.Ieee.{sub}
use Rattle.std.specs.Float.Ieee.Positive.{num, den}
use Rattle.definitions.specs.Basics.{Least}
use Rattle.definitions.specs.Limits.{nodes, commands, costs}
use Rattle.definitions.specs.Tree.{Tree, Transition, UsedNode}
use Rattle.definitions.specs.Book.{encode, tree_of, WellFormed}
use Rattle.definitions.specs.Sheet.{rows_of, encode_rows}
use Rattle.definitions.specs.Truth.{TrueSheet}
use Rattle.definitions.specs.Stream.{Edit, arrow, clear}
use Rattle.definitions.specs.Edit.{edited, edited_rows}
use Rattle.definitions.specs.Answer.{Answer, gives, refuses, Refusal, asks, InOrder}
use Rattle.definitions.specs.Calls.{LoadAnswer, LoadSays}
use Rattle.definitions.specs.Write.{pair, arrow_bytes, GivesList}

-- a reading: seconds taken, or seconds waited without an end. A timing, a reading and the probe's own dead time, stands here as the two
pub data Reading : Type 0 where
  took waited : (seconds : Float) → Reading

-- finite and not below zero; minus zero is zero
abbrev pub AtLeastZero : Float → Type 0
AtLeastZero nan = ⊥
AtLeastZero (inf s) = ⊥
AtLeastZero (fin s m e) = (s ≡ false) ⊎ (m ≡ 0)

-- the whole number k is not below x, which is at least zero
abbrev pub NotBelow : Float → ℕ → Type 0
NotBelow x k = num x ≤ k * den x

-- reading minus dead time, that difference rounded once to a 32-bit float
abbrev pub difference : Float → Float → Float
difference seconds dead = sub binary32 seconds dead

-- what 20 asks of a timing: the values are finite and not below zero, the rounded difference is not below zero and not above 65,535; of a
-- wait without an end nothing
abbrev pub Admitted : Reading → Float → Type 0
Admitted (took seconds) dead =
    AtLeastZero seconds × AtLeastZero dead × AtLeastZero (difference seconds dead) × NotBelow (difference seconds dead) (costs - 1)
Admitted (waited seconds) dead = Unit

-- the transition to v that an admitted timing gives: its cost is the least whole number not below the difference; none for a wait
-- without an end
abbrev pub Timed : Reading → Float → ℕ → Option Transition → Type 0
Timed (took seconds) dead v o =
    (c : ℕ) × Least (NotBelow (difference seconds dead)) (some c) × (o ≡ some (record { target = v; cost = c }))
Timed (waited seconds) dead v o = o ≡ none

-- the edit that leaves o as the transition of node n for x (document 01: arrow or clear), and its bytes
abbrev pub setting : ℕ → ℕ → Option Transition → Edit
setting n x (some a) = arrow n x a.target a.cost
setting n x none = clear n x

abbrev pub setting_bytes : ℕ → ℕ → Option Transition → List ℕ
setting_bytes n x (some a) = arrow_bytes n x a.target a.cost
setting_bytes n x none = 0x15 ∷ (pair n ++ x ∷ [])

-- what the import refuses before it looks at the output: 6 (node, command or target out of range), 20 (the timing)
abbrev pub import_refusals : ℕ → ℕ → ℕ → Reading → Float → List Refusal
import_refusals n x v reading dead = asks 6 ((n < nodes) × (x < commands) × (v < nodes)) ∷ asks 20 (Admitted reading dead) ∷ []

-- the import gives the bytes of the edit that leaves the timing's transition; refused, also with 15, it writes nothing
abbrev pub ImportSays : ℕ → ℕ → ℕ → Reading → Float → List ℕ → Answer → List ℕ → Type 0
ImportSays n x v reading dead out answer out' =
    InOrder (import_refusals n x v reading dead)
    (λ k. (answer ≡ refuses k) × (out' ≡ out))
    ((o : Option Transition) × Timed reading dead v o × GivesList (setting_bytes n x o) out answer out')

-- the node is in use (taken: and the target is in its machine)
abbrev pub Placed : Tree → ℕ → ℕ → Reading → Type 0
Placed t n v (took seconds) = UsedNode t n × (t.owner v ≡ t.owner n)
Placed t n v (waited seconds) = UsedNode t n

-- what the import wrote, loaded into any holding whose book is well formed and sheet true and in which the numbers are placed so, is taken
-- whole, leaves the transition that the timing gives, and changes nothing else but what arrow or clear changes
abbrev pub ImportLoads : Type 0
ImportLoads =
    (n x v size : ℕ) (reading : Reading) (dead : Float) (out out' book sheet book' sheet' : List ℕ) (answer : LoadAnswer)
    → ImportSays n x v reading dead out (gives (size ∷ [])) out'
    → WellFormed book → TrueSheet (tree_of book) sheet → Placed (tree_of book) n v reading → LoadSays book sheet (take size out') answer book' sheet'
    → (o : Option Transition) × Timed reading dead v o
    × (answer ≡ record { bytes = size; commands = 1; number = 0 }) × ((tree_of book').transition n x ≡ o)
    × (book' ≡ encode (edited (tree_of book) (setting n x o)))
    × (sheet' ≡ encode_rows (edited_rows (tree_of book) (setting n x o) (rows_of sheet)))
