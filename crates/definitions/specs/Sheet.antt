-- Document 01, "Book and sheet in memory": the 2,880 words of a sheet.
use Rattle.std.specs.Prelude.{Bool, true, false, cond, List, ◌++◌, ℕ, zero, suc, ◌+◌, ◌*◌, ◌-◌, ◌/◌, ◌%◌, eqb, ltb, get_or}
use Rattle.std.proofs.Math.Option.{Option, none, some}
use Rattle.definitions.specs.Basics.{tabulate}
use Rattle.definitions.specs.Limits.{machines, nodes, commands, blank}
use Rattle.definitions.specs.Book.{word, number, under}

-- What a sheet says. Nothing stands where its word is blank.
pub record Rows : Type 0 where
  -- whether a machine's row waits to be filled (document 01: its mark)
  pub stale : ℕ → Bool
  -- the exit cost of a machine for a command (document 01: exit charge), and the node where that exit ends (last node)
  pub exit : ℕ → ℕ → Option ℕ
  pub last : ℕ → ℕ → Option ℕ
  -- the cost of a node from its machine's start, and the names by which it is reached: node before and command before
  pub cost : ℕ → Option ℕ
  pub before : ℕ → Option ℕ
  pub by : ℕ → Option ℕ

-- the word of a cost that may be blank
unfoldable pub cost_word : Option ℕ → ℕ
cost_word none = blank
cost_word (some c) = c

-- the word of a mark
unfoldable pub stale_word : Bool → ℕ
stale_word true = 1
stale_word false = 0

-- the words of one machine, by their place: mark, exit costs, last nodes
unfoldable pub machine_row : Rows → ℕ → ℕ → ℕ
machine_row r m zero = stale_word (r.stale m)
machine_row r m (suc i) = cond (ltb i commands) (cost_word (r.exit m i)) (word (r.last m (i - commands)))

-- the words of one node, by their place: cost, node before, command before
unfoldable pub node_row : Rows → ℕ → ℕ → ℕ
node_row r n zero = cost_word (r.cost n)
node_row r n (suc zero) = word (r.before n)
node_row r n (suc (suc k)) = word (r.by n)

abbrev pub machine_row_length : ℕ
machine_row_length = 33

abbrev pub node_row_length : ℕ
node_row_length = 3

-- where the nodes' words begin
abbrev pub node_row_base : ℕ
node_row_base = 2112

-- the words of rows (document 01: the sheet)
unfoldable pub machine_rows : Rows → List ℕ
machine_rows r = tabulate (machines * machine_row_length) (λ i. machine_row r (i / machine_row_length) (i % machine_row_length))

unfoldable pub node_rows : Rows → List ℕ
node_rows r = tabulate (nodes * node_row_length) (λ i. node_row r (i / node_row_length) (i % node_row_length))

unfoldable pub encode_rows : Rows → List ℕ
encode_rows r = machine_rows r ++ node_rows r

-- the cost that a word says
unfoldable pub cost_of : ℕ → Option ℕ
cost_of w = cond (eqb w blank) none (some w)

-- the word of machine m, of node n, at a place of its row
unfoldable pub machine_row_word : List ℕ → ℕ → ℕ → ℕ
machine_row_word ws m k = get_or ws (m * machine_row_length + k) 0

unfoldable pub node_row_word : List ℕ → ℕ → ℕ → ℕ
node_row_word ws n k = get_or ws (node_row_base + n * node_row_length + k) 0

-- the rows that a sheet's words hold
unfoldable pub rows_of : List ℕ → Rows
rows_of ws =
    record {
      stale = λ m. cond (ltb m machines) (eqb (machine_row_word ws m 0) 1) false;
      exit = λ m x. under machines m (under commands x (cost_of (machine_row_word ws m (1 + x))));
      last = λ m x. under machines m (under commands x (number (machine_row_word ws m (1 + commands + x))));
      cost = λ n. under nodes n (cost_of (node_row_word ws n 0));
      before = λ n. under nodes n (number (node_row_word ws n 1));
      by = λ n. under nodes n (number (node_row_word ws n 2));
    }
