-- Document 02, W-208: the generator, which writes the ladder's rows for a depth; and that each depth's table opens.
use Rattle.std.specs.Prelude.{◌≡◌, cond, List, [], ◌∷◌, ℕ, ◌*◌, ◌-◌, ◌/◌, ◌%◌, ◌^◌, ◌≤◌, eqb, take}
use Rattle.definitions.specs.Basics.{joined}
use Rattle.definitions.specs.Book.{word, encode}
use Rattle.definitions.specs.Sheet.{encode_rows}
use Rattle.definitions.specs.Open.{ladder_below, ladder_of, table, open_rows}
use Rattle.definitions.specs.Answer.{Answer, gives, refuses, asks, InOrder}
use Rattle.definitions.specs.Calls.{RightLengths, OpenSays}
use Rattle.definitions.specs.Write.{GivesList}

-- row n of the ladder of c machines: its owner, the machine below it, and 1 for a start, else 0; and all its rows
abbrev pub ladder_row : ℕ → ℕ → List ℕ
ladder_row c n = n / 3 ∷ word (ladder_below c n) ∷ cond (eqb (n % 3) 1) 1 0 ∷ []

unfoldable pub ladder_rows : ℕ → List ℕ
ladder_rows c = joined (3 * c) (ladder_row c)

-- the generator: of a depth from 1 to 6 the rows of 2 to the depth, less 1, machines. It refuses 24 (another depth), then 15, writing nothing
abbrev pub LadderSays : ℕ → List ℕ → Answer → List ℕ → Type 0
LadderSays depth out answer out' =
    InOrder (asks 24 ((1 ≤ depth) × (depth ≤ 6)) ∷ [])
    (λ k. (answer ≡ refuses k) × (out' ≡ out)) (GivesList (ladder_rows (2 ^ depth - 1)) out answer out')

-- W-208's claim, over the promises of both calls: what the generator gives for a depth opens, and what opens is the ladder of that depth
abbrev pub DepthsOpen : Type 0
DepthsOpen =
    (depth size number : ℕ) (out out' book sheet book' sheet' : List ℕ) → LadderSays depth out (gives (size ∷ [])) out'
    → RightLengths book sheet → OpenSays (table (take size out')) book sheet number book' sheet'
    → let t = ladder_of (2 ^ depth - 1) in
    (number ≡ 0) × (book' ≡ encode t) × (sheet' ≡ encode_rows (open_rows t))
