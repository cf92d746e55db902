-- Document 01, "Writing, choosing, the session": the lines that the session program prints.
use Rattle.std.specs.Prelude.{◌≡◌, cond, List, [], ◌∷◌, ◌++◌, ℕ, zero, suc, ◌+◌, ◌/◌, ◌%◌, eqb, ltb, leb, length, take, drop}
use Rattle.definitions.specs.Limits.{longest_input, plan_buffer}
use Rattle.definitions.specs.Tree.{Tree}
use Rattle.definitions.specs.Sheet.{Rows}
use Rattle.definitions.specs.Stream.{Command, Next, ended, taken, refused, pair_at}
use Rattle.definitions.specs.Edit.{tree_after, RowsAfter}
use Rattle.definitions.specs.Load.{next}
use Rattle.definitions.specs.Open.{fresh_tree, open_rows}
use Rattle.definitions.specs.Answer.{InOrder}
use Rattle.definitions.specs.Calls.{Plan, plan_refusals}

-- the decimal digits of a number under 10 to the power of the first argument
unfoldable pub digits : ℕ → ℕ → List ℕ
digits zero n = []
digits (suc k) n = cond (ltb n 10) ((48 + n) ∷ []) (digits k (n / 10) ++ ((48 + n % 10) ∷ []))

-- a number in decimal; 20 digits hold every number that is printed
abbrev pub decimal : ℕ → List ℕ
decimal n = digits 20 n

-- each number after a space, then a newline
unfoldable pub spaced : List ℕ → List ℕ
spaced [] = 10 ∷ []
spaced (n ∷ ns) = 32 ∷ (decimal n ++ spaced ns)

-- the line of a plan: cost, count, commands, with single spaces
abbrev pub plan_line : ℕ → List ℕ → List ℕ
plan_line cost list = decimal cost ++ spaced (length list ∷ list)

-- the line of a plan that is refused: `no` and the refusal
abbrev pub no_line : ℕ → List ℕ
no_line k = 110 ∷ 111 ∷ spaced (k ∷ [])

-- the line of any other refused command: `stop`, its refusal and the offset of its opcode byte
abbrev pub stop_line : ℕ → ℕ → List ℕ
stop_line k at = 115 ∷ 116 ∷ 111 ∷ 112 ∷ spaced (k ∷ at ∷ [])

-- what stands next in the session's input: as in a stream, or opcode 0x19, a plan between two nodes
pub data Request : Type 0 where
  stream : Next → Request
  plan : (a b : ℕ) → Request

-- how many bytes a plan takes
abbrev pub plan_size : ℕ
plan_size = 5

-- a plan's two nodes; one that is cut short is refused with 4
unfoldable pub read_plan : List ℕ → Request
read_plan rest = cond (leb 4 (length rest)) (plan (pair_at rest 0) (pair_at rest 2)) (stream (refused 4))

unfoldable pub request : Tree → List ℕ → Request
request t [] = stream ended
request t (op ∷ rest) = cond (eqb op 0x19) (read_plan rest) (stream (next t (op ∷ rest)))

-- the line for a plan from a to b on this tree and rows: Plan's answer with room for 255 commands (the session's own book and sheet
-- are well formed and true)
abbrev pub PlanPrints : Tree → Rows → ℕ → ℕ → List ℕ → Type 0
PlanPrints t r a b line =
    InOrder (plan_refusals t r a b plan_buffer)
    (λ k. line ≡ no_line k)
    ((cost : ℕ) × (list : List ℕ) × Plan t a b cost list × (line ≡ plan_line cost list))

-- the lines for the input from an offset on, on this tree and rows
pub data Prints : Tree → Rows → ℕ → List ℕ → List (List ℕ) → Type 0 where
  finished : {t : Tree} {r : Rows} {at : ℕ} {input : List ℕ} → request t input ≡ stream ended → Prints t r at input []
  stops : {t : Tree} {r : Rows} {at : ℕ} {input : List ℕ} (k : ℕ) → request t input ≡ stream (refused k)
      → Prints t r at input (stop_line k at ∷ [])
  does : {t : Tree} {r : Rows} {at : ℕ} {input : List ℕ} {lines : List (List ℕ)} (c : Command) (size : ℕ) (r' : Rows)
      → request t input ≡ stream (taken c size) → RowsAfter t c r r' → Prints (tree_after t c) r' (at + size) (drop size input) lines
      → Prints t r at input lines
  plans : {t : Tree} {r : Rows} {at : ℕ} {input : List ℕ} {lines : List (List ℕ)} (a b : ℕ) (line : List ℕ)
      → request t input ≡ plan a b → PlanPrints t r a b line → Prints t r (at + plan_size) (drop plan_size input) lines
      → Prints t r at input (line ∷ lines)

-- the lines of a session on its input, of which 65,536 bytes are read
abbrev pub SessionPrints : List ℕ → List (List ℕ) → Type 0
SessionPrints input lines = Prints fresh_tree (open_rows fresh_tree) 0 (take longest_input input) lines
