-- The two layouts of a book (document 02, W-209): where each word of the one stands in the other, and that turning there and back changes none.
-- Assumes nothing.
use mathlib.Core.Path.{◌≡◌, sym, ◌∙◌, ap}
use mathlib.Core.Logic.{⊎_elim}
use mathlib.Core.List.{List, ◌++◌}
use Prim.Native.Nat.{ℕ, zero, suc, ◌+◌, ◌*◌, ◌-◌, ◌≤◌, ◌<◌}
use native.Mathlib.Omega.{arith}
use lib.ListN.{length, get_or, take, drop, length-append, length-drop, take-append-drop, get_or-append}
use lib.Seq.{length-take-le, get_or-append-add, ext_get_or}
use borrow.Author.Tests.{eq-eqb, ne_eqb}
use Rattle.definitions.specs.Limits.{nodes, commands, book_length}
use Rattle.definitions.specs.Book.{machine_fields, node_fields, machine_base, node_base, hold_base, leave_base, machine_word, node_word, hold_word, leave_word}
use Rattle.definitions.specs.ByCommand.{by_command, word_by_command, by_node, TurnsBack}
use Rattle.definitions.proofs.Options.{equal_or_not, less_or_not}
use Rattle.definitions.proofs.Lists.{table, table_length, table_at, section_at, section_same}
use Rattle.definitions.proofs.Words.{book_words}

-- ---- parts of a list

-- what stands in front of a place, and behind it
front_at : (l : List ℕ) (k i : ℕ) → k ≤ length l → i < k → get_or (take k l) i 0 ≡ get_or l i 0
front_at l k i room small =
    sym (get_or-append (take k l) (drop k l) 0 i (omega (arith, length-take-le k l room))) ∙ ap (λ (r : List ℕ). get_or r i 0) (take-append-drop k l)

behind_at : (l : List ℕ) (k i : ℕ) → k ≤ length l → get_or (drop k l) i 0 ≡ get_or l (k + i) 0
behind_at l k i room =
    let at : k + i ≡ length (take k l) + i = omega (arith, length-take-le k l room) in
    sym (rw at (ap (λ (r : List ℕ). get_or r (length (take k l) + i) 0) (sym (take-append-drop k l)) ∙ get_or-append-add (take k l) (drop k l) i 0))

-- ---- by command

module _ (ws : List ℕ) (len : length ws ≡ book_length) where
  -- the sections of the turned book
  moves : List ℕ
  moves = table nodes commands (λ x n. node_word ws n (2 + x))

  links : List ℕ
  links = table 2 nodes (node_word ws)

  sections : by_command ws ≡ moves ++ (take node_base ws ++ (links ++ drop hold_base ws))
  unfolding by_command moves links
  sections = rw (eq-eqb (length ws) book_length len)

  moves_length : length moves ≡ commands * nodes
  unfolding moves
  moves_length = table_length nodes commands (λ x n. node_word ws n (2 + x))

  links_length : length links ≡ nodes * 2
  unfolding links
  links_length = table_length 2 nodes (node_word ws)

  front_length : length (take node_base ws) ≡ node_base
  front_length = length-take-le node_base ws (omega arith)

  pub command_length : length (by_command ws) ≡ book_length
  command_length =
      ap length sections
      ∙ length-append moves (take node_base ws ++ (links ++ drop hold_base ws))
      ∙ omega (arith, moves_length, front_length, links_length, length-append (take node_base ws) (links ++ drop hold_base ws), length-append links (drop hold_base ws), length-drop hold_base ws)

  -- the transition words
  pub command_transition : (x n : ℕ) → x < commands → n < nodes → get_or (by_command ws) (x * nodes + n) 0 ≡ node_word ws n (2 + x)
  unfolding moves
  command_transition x n hx hn =
      ap (λ (l : List ℕ). get_or l (x * nodes + n) 0) sections
      ∙ get_or-append moves (take node_base ws ++ (links ++ drop hold_base ws)) 0 (x * nodes + n) (omega (arith, moves_length))
      ∙ table_at nodes commands (λ x n. node_word ws n (2 + x)) x n 0 hx hn

  -- behind them
  rest_at : (i : ℕ) → get_or (by_command ws) (commands * nodes + i) 0 ≡ get_or (take node_base ws ++ (links ++ drop hold_base ws)) i 0
  rest_at i =
      let at : commands * nodes + i ≡ length moves + i = omega (arith, moves_length) in
      ap (λ (l : List ℕ). get_or l (commands * nodes + i) 0) sections
      ∙ rw at (get_or-append-add moves (take node_base ws ++ (links ++ drop hold_base ws)) i 0)

  -- the words before the nodes'
  pub command_front : (i : ℕ) → i < node_base → get_or (by_command ws) (commands * nodes + i) 0 ≡ get_or ws i 0
  command_front i h =
      rest_at i
      ∙ get_or-append (take node_base ws) (links ++ drop hold_base ws) 0 i (omega (arith, front_length))
      ∙ front_at ws node_base i (omega arith) h

  -- owners and machines below
  links_at : (i : ℕ) → get_or (by_command ws) (commands * nodes + node_base + i) 0 ≡ get_or (links ++ drop hold_base ws) i 0
  links_at i =
      let at : node_base + i ≡ length (take node_base ws) + i = omega (arith, front_length) in
      let place : commands * nodes + node_base + i ≡ commands * nodes + (node_base + i) = omega arith in
      rw place (rest_at (node_base + i)
      ∙ rw at (get_or-append-add (take node_base ws) (links ++ drop hold_base ws) i 0))

  pub command_link : (n k : ℕ) → n < nodes → k < 2 → get_or (by_command ws) (commands * nodes + node_base + (n * 2 + k)) 0 ≡ node_word ws n k
  unfolding links
  command_link n k hn hk =
      links_at (n * 2 + k)
      ∙ get_or-append links (drop hold_base ws) 0 (n * 2 + k) (omega (arith, links_length))
      ∙ table_at 2 nodes (node_word ws) n k 0 hn hk

  -- and what stands behind the nodes, at its old place
  pub command_behind : (i : ℕ) → get_or (by_command ws) (hold_base + i) 0 ≡ get_or ws (hold_base + i) 0
  command_behind i =
      let at : nodes * 2 + i ≡ length links + i = omega (arith, links_length) in
      let place : hold_base + i ≡ commands * nodes + node_base + (nodes * 2 + i) = omega arith in
      ap (λ (j : ℕ). get_or (by_command ws) j 0) place
      ∙ links_at (nodes * 2 + i)
      ∙ rw at (get_or-append-add links (drop hold_base ws) i 0)
      ∙ behind_at ws hold_base i (omega arith)

-- ---- by node

module _ (vs : List ℕ) (len : length vs ≡ book_length) where
  -- the sections of the turned book
  start : List ℕ
  start = take node_base (drop (commands * nodes) vs)

  records : List ℕ
  records = table node_fields nodes (word_by_command vs)

  node_sections : by_node vs ≡ start ++ (records ++ drop hold_base vs)
  unfolding by_node start records
  node_sections = rw (eq-eqb (length vs) book_length len)

  start_length : length start ≡ node_base
  unfolding start
  start_length = length-take-le node_base (drop (commands * nodes) vs) (omega (arith, length-drop (commands * nodes) vs))

  records_length : length records ≡ nodes * node_fields
  unfolding records
  records_length = table_length node_fields nodes (word_by_command vs)

  pub node_length : length (by_node vs) ≡ book_length
  node_length =
      ap length node_sections
      ∙ length-append start (records ++ drop hold_base vs)
      ∙ omega (arith, start_length, records_length, length-append records (drop hold_base vs), length-drop hold_base vs)

  -- the words before the nodes'
  pub node_front : (i : ℕ) → i < node_base → get_or (by_node vs) i 0 ≡ get_or vs (commands * nodes + i) 0
  unfolding start
  node_front i h =
      ap (λ (l : List ℕ). get_or l i 0) node_sections
      ∙ get_or-append start (records ++ drop hold_base vs) 0 i (omega (arith, start_length))
      ∙ front_at (drop (commands * nodes) vs) node_base i (omega (arith, length-drop (commands * nodes) vs)) h
      ∙ behind_at vs (commands * nodes) i (omega arith)

  -- the nodes' records
  pub node_record : (n k : ℕ) → n < nodes → k < node_fields → node_word (by_node vs) n k ≡ word_by_command vs n k
  unfolding node_word records
  node_record n k hn hk =
      ap (λ (l : List ℕ). get_or l (node_base + n * node_fields + k) 0) node_sections
      ∙ section_at node_fields nodes (word_by_command vs) start (drop hold_base vs) node_base n k 0 start_length hn hk

  -- and what stands behind them, at its old place
  pub node_behind : (i : ℕ) → get_or (by_node vs) (hold_base + i) 0 ≡ get_or vs (hold_base + i) 0
  node_behind i =
      let at : hold_base + i ≡ length start + (length records + i) = omega (arith, start_length, records_length) in
      ap (λ (l : List ℕ). get_or l (hold_base + i) 0) node_sections
      ∙ rw at (get_or-append-add start (records ++ drop hold_base vs) (length records + i) 0 ∙ get_or-append-add records (drop hold_base vs) i 0)
      ∙ behind_at vs hold_base i (omega arith)

-- ---- there and back

-- the record of a node in a book by command
record_at : (ws : List ℕ) (len : length ws ≡ book_length) (n k : ℕ) → n < nodes → k < node_fields → word_by_command (by_command ws) n k ≡ node_word ws n k
record_at ws len n zero hn hk =
    let place : commands * nodes + node_base + n * 2 ≡ commands * nodes + node_base + (n * 2 + 0) = omega arith in
    ap (λ (j : ℕ). get_or (by_command ws) j 0) place ∙ command_link ws len n 0 hn (omega arith)
record_at ws len n (suc zero) hn hk =
    let place : commands * nodes + node_base + n * 2 + 1 ≡ commands * nodes + node_base + (n * 2 + 1) = omega arith in
    ap (λ (j : ℕ). get_or (by_command ws) j 0) place ∙ command_link ws len n 1 hn (omega arith)
record_at ws len n (suc (suc x)) hn hk =
    let place : 2 + x ≡ suc (suc x) = omega arith in
    command_transition ws len x n (omega arith) hn ∙ ap (node_word ws n) place

-- a book turned by command and back by node
command_node : (ws : List ℕ) → length ws ≡ book_length → by_node (by_command ws) ≡ ws
unfolding machine_word hold_word leave_word
command_node ws len =
    let vs = by_command ws in
    let vl = command_length ws len in
    let same : (i : ℕ) → i < node_base → get_or (by_node vs) i 0 ≡ get_or ws i 0 = λ i h. node_front vs vl i h ∙ command_front ws len i h in
    let behind : (i : ℕ) → get_or (by_node vs) (hold_base + i) 0 ≡ get_or ws (hold_base + i) 0 = λ i. node_behind vs vl i ∙ command_behind ws len i in
    book_words (by_node vs) ws (node_length vs vl) len (same 0 (omega arith))
    (λ m k hm hk. same (machine_base + m * machine_fields + k) (omega arith))
    (λ n k hn hk. node_record vs vl n k hn hk ∙ record_at ws len n k hn hk)
    (λ n hn. behind n)
    (λ m hm.
    let at : leave_base + m ≡ hold_base + (nodes + m) = omega arith in
    rw at (behind (nodes + m)))

-- a book turned by node and back by command
node_command : (vs : List ℕ) → length vs ≡ book_length → by_command (by_node vs) ≡ vs
node_command vs len = ext_get_or 0 (by_command ws) vs (command_length ws wl ∙ sym len) at
  where
    ws : List ℕ
    ws = by_node vs

    wl : length ws ≡ book_length
    wl = node_length vs len

    transition : (x n : ℕ) → x < commands → n < nodes → get_or (by_command ws) (0 + x * nodes + n) 0 ≡ get_or vs (0 + x * nodes + n) 0
    transition x n hx hn =
        let place : 2 + x ≡ suc (suc x) = omega arith in
        let here : 0 + x * nodes + n ≡ x * nodes + n = omega arith in
        rw here (command_transition ws wl x n hx hn ∙ node_record vs len n (2 + x) hn (omega arith) ∙ ap (word_by_command vs n) place)

    link : (n k : ℕ) → n < nodes → k < 2
        → get_or (by_command ws) (commands * nodes + node_base + n * 2 + k) 0 ≡ get_or vs (commands * nodes + node_base + n * 2 + k) 0
    link n zero hn hk =
        let place : commands * nodes + node_base + n * 2 + 0 ≡ commands * nodes + node_base + (n * 2 + 0) = omega arith in
        let here : commands * nodes + node_base + n * 2 ≡ commands * nodes + node_base + n * 2 + 0 = omega arith in
        ap (λ (j : ℕ). get_or (by_command ws) j 0) place
        ∙ command_link ws wl n 0 hn hk
        ∙ node_record vs len n 0 hn (omega arith)
        ∙ ap (λ (j : ℕ). get_or vs j 0) here
    link n (suc zero) hn hk =
        let place : commands * nodes + node_base + n * 2 + 1 ≡ commands * nodes + node_base + (n * 2 + 1) = omega arith in
        ap (λ (j : ℕ). get_or (by_command ws) j 0) place ∙ command_link ws wl n 1 hn hk ∙ node_record vs len n 1 hn (omega arith)
    link n (suc (suc k)) hn hk = absurd (omega arith)

    at : (j : ℕ) → j < length (by_command ws) → get_or (by_command ws) j 0 ≡ get_or vs j 0
    at j h =
        ⊎_elim
        (λ first. section_same nodes commands 0 (by_command ws) vs 0 transition j (omega arith) (omega (arith, first)))
        (λ behind.
        ⊎_elim
        (λ early.
        let here : commands * nodes + (j - commands * nodes) ≡ j = omega (arith, behind) in
        rw here at (command_front ws wl (j - commands * nodes) (omega (arith, early)) ∙ node_front vs len (j - commands * nodes) (omega (arith, early))))
        (λ late.
        ⊎_elim
        (λ inside. section_same 2 nodes (commands * nodes + node_base) (by_command ws) vs 0 link j late (omega (arith, inside)))
        (λ last.
        let here : hold_base + (j - hold_base) ≡ j = omega (arith, last) in
        rw here at (command_behind ws wl (j - hold_base) ∙ node_behind vs len (j - hold_base)))
        (less_or_not j hold_base))
        (less_or_not j (commands * nodes + node_base)))
        (less_or_not j (commands * nodes))

-- a list of another length stays as it is
pub command_other : (ws : List ℕ) → (length ws ≡ book_length → ⊥) → by_command ws ≡ ws
unfolding by_command
command_other ws other = rw (ne_eqb (length ws) book_length other)

pub node_other : (ws : List ℕ) → (length ws ≡ book_length → ⊥) → by_node ws ≡ ws
unfolding by_node
node_other ws other = rw (ne_eqb (length ws) book_length other)

-- so turning there and back changes no list
pub turns_back : TurnsBack
turns_back ws =
    ⊎_elim (λ len. (command_node ws len, node_command ws len))
    (λ other. (ap by_node (command_other ws other) ∙ node_other ws other, ap by_command (node_other ws other) ∙ command_other ws other))
    (equal_or_not (length ws) book_length)
