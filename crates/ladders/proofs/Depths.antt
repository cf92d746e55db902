-- What the generator gives for a depth opens, and what opens is the ladder of that depth: one proof over the depth (document 02, W-208).
-- Assumes nothing.
use mathlib.Core.Path.{◌≡◌, refl, ◌∙◌, ap}
use mathlib.Core.Logic.{inl, inr}
use mathlib.Core.List.{[], List, ◌∷◌, ◌++◌}
use Prim.Native.Nat.{ℕ, ◌-◌, ◌^◌, ◌≤◌}
use native.Mathlib.Nat.{pow-le-pow_right}
use native.Mathlib.Omega.{arith}
use lib.ListN.{take}
use lib.Seq.{take_at}
use Rattle.definitions.specs.Basics.{joined, tabulate}
use Rattle.definitions.specs.Tree.{Tree}
use Rattle.definitions.specs.Book.{encode}
use Rattle.definitions.specs.Sheet.{encode_rows}
use Rattle.definitions.specs.Open.{ladder_machines, ladder_of, TableLength, table, ComesOf, open_rows}
use Rattle.definitions.specs.Answer.{gives}
use Rattle.definitions.specs.Calls.{RightLengths, OpenSays}
use Rattle.definitions.specs.Ladder.{ladder_rows, LadderSays, DepthsOpen}
use Rattle.definitions.proofs.Answers.{given_refused, list_given}
use Rattle.definitions.proofs.Tables.{comes_one}
use Rattle.opening.proofs.Ladder.{rows_length, rows_come}
use Rattle.ladders.proofs.Laws.{doubled_small}

-- a depth from 1 to 6 has 1 to 63 machines
depth_machines : (depth : ℕ) → (1 ≤ depth) × (depth ≤ 6) → (1 ≤ 2 ^ depth - 1) × (2 ^ depth - 1 ≤ ladder_machines)
depth_machines depth (one, six) =
    let least : 2 ^ 1 ≤ 2 ^ depth = pow-le-pow_right {n = 2} (omega arith) one in
    (omega (arith, least), omega (arith, doubled_small depth six))

-- its rows are a table
rows_table : (c : ℕ) → c ≤ ladder_machines → TableLength (ladder_rows c)
rows_table c few = (omega (arith, rows_length c), omega (arith, rows_length c))

-- what opens is the tree that comes of the rows
opens_as : (rows : List ℕ) (t : Tree) → TableLength rows → ComesOf (table rows) t → (book sheet : List ℕ) {number : ℕ} {book' sheet' : List ℕ}
    → RightLengths book sheet → OpenSays (table rows) book sheet number book' sheet'
    → (number ≡ 0) × (book' ≡ encode t) × (sheet' ≡ encode_rows (open_rows t))
opens_as rows t table_right comes book sheet right (inl (wrong, said)) = absurd (wrong (right, table_right))
opens_as rows t table_right comes book sheet right (inr (lengths, inl (never, said))) = absurd (never (t, comes))
opens_as rows t table_right comes book sheet right (inr (lengths, inr (opens, (u, too, zero, written, filled)))) =
    let same = comes_one (table rows) u t too comes in
    (zero, written ∙ ap encode same, filled ∙ ap (λ (v : Tree). encode_rows (open_rows v)) same)

pub depths_open : DepthsOpen
depths_open depth size number out out' book sheet book' sheet' (inl (wrong, (said, same))) right opening = absurd (given_refused refl said)
depths_open depth size number out out' book sheet book' sheet' (inr (deep, given)) right opening =
    let c = 2 ^ depth - 1 in
    let (one, few) = depth_machines depth deep in
    let front : take size out' ≡ ladder_rows c = (list_given (ladder_rows c) out out' size given).1 in
    opens_as (ladder_rows c) (ladder_of c) (rows_table c few) (rows_come c one few) book sheet right (rw front at opening)

-- ---- depth 2: its 27 numbers, written into a list of 28, and their opening meet what is asked

pub depth_2_written : LadderSays 2 (tabulate 28 (λ i. 7)) (gives (27 ∷ [])) (ladder_rows 3 ++ (7 ∷ []))
unfolding ladder_rows joined tabulate
depth_2_written = inr ((omega arith, omega arith), inr (omega arith, (refl, refl)))

pub depth_2_opened : (book sheet : List ℕ) → RightLengths book sheet
    → OpenSays (table (take 27 (ladder_rows 3 ++ (7 ∷ [])))) book sheet 0 (encode (ladder_of 3)) (encode_rows (open_rows (ladder_of 3)))
depth_2_opened book sheet right =
    let front : take 27 (ladder_rows 3 ++ (7 ∷ [])) ≡ ladder_rows 3 = take_at (ladder_rows 3) (7 ∷ []) 27 (rows_length 3) in
    let comes = rows_come 3 (omega arith) (omega arith) in
    rw front (inr ((right, rows_table 3 (omega arith)), inr ((ladder_of 3, comes), (ladder_of 3, comes, refl, refl, refl))))
