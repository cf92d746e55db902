-- A list that is written from its front on; the words of a book by command and by node, one after the other. Assumes nothing.
use mathlib.Core.Path.{◌≡◌, refl, sym, ◌∙◌, ap, subst}
use mathlib.Core.Logic.{⊎_elim}
use mathlib.Core.List.{List}
use Prim.Native.Nat.{ℕ, zero, suc, ◌+◌, ◌*◌, ◌<◌}
use native.Mathlib.Omega.{arith}
use lib.ListN.{length, get_or, set, length-set}
use lib.Seq.{get_or-set_same, get_or-set_other, ext_get_or}
use Rattle.definitions.specs.Limits.{nodes, commands, book_length}
use Rattle.definitions.specs.Book.{node_fields, node_base, node_word}
use Rattle.definitions.specs.ByCommand.{by_command, by_node, word_by_command}
use Rattle.definitions.proofs.Options.{equal_or_not}
use Rattle.definitions.proofs.Turned.{command_length, command_transition, command_link, node_length, node_record}
use Rattle.turning.specs.Fronts.{Front}

-- nothing is written yet
pub front_none : {f list : List ℕ} → length list ≡ length f → Front 0 f list
front_none e = record { length = e; word = λ i h. absurd (omega arith) }

-- one word more
pub front_more : {k : ℕ} {f list : List ℕ} (v : ℕ) → Front k f list → k < length f → v ≡ get_or f k 0 → Front (k + 1) f (set list k v)
front_more {k} {f} {list} v less h here =
    let room : k < length list = omega (arith, less.length) in
    record {
      length = length-set list k v ∙ less.length;
      word = λ i small.
          ⊎_elim (λ same. rw same (get_or-set_same list k v 0 room ∙ here)) (λ other. get_or-set_other list k i v 0 other ∙ less.word i (omega (arith, other)))
          (equal_or_not i k);
    }

-- as many words, told otherwise
pub front_at : {k j : ℕ} {f list : List ℕ} → k ≡ j → Front k f list → Front j f list
front_at {f = f} {list} e front = subst (λ (i : ℕ). Front i f list) e front

-- all words are written
pub front_all : {k : ℕ} {f list : List ℕ} → k ≡ length f → Front k f list → list ≡ f
front_all {k} {f} {list} all front = ext_get_or 0 list f front.length (λ i h. front.word i (omega (arith, front.length)))

-- a place counted from the front
pub at_zero : (list : List ℕ) (i : ℕ) → get_or list (0 + i) 0 ≡ get_or list i 0
at_zero list i =
    let same : 0 + i ≡ i = omega arith in
    ap (λ (j : ℕ). get_or list j 0) same

-- one word more, its place and the next told otherwise
pub front_put : {k : ℕ} {f list : List ℕ} (i j v : ℕ) → i ≡ k → k + 1 ≡ j → Front k f list → k < length f → v ≡ get_or f k 0 → Front j f (set list i v)
front_put {k} {f} {list} i j v at next less h here =
    subst (λ (p : ℕ). Front j f (set list p v)) (sym at) (front_at next (front_more v less h here))

-- ---- a book by command

module _ (ws : List ℕ) (len : length ws ≡ book_length) where
  -- the transition word of node n for command x
  pub move_more : (x n : ℕ) {out : List ℕ} → x < commands → n < nodes → Front (x * nodes + n) (by_command ws) out
      → Front (x * nodes + (n + 1)) (by_command ws) (set out (256 * x + n) (get_or ws (129 + 18 * n + 2 + x) 0))
  unfolding node_word
  move_more x n hx hn front =
      let place : 129 + 18 * n + 2 + x ≡ node_base + n * node_fields + (2 + x) = omega arith in
      front_put (256 * x + n) (x * nodes + (n + 1)) (get_or ws (129 + 18 * n + 2 + x) 0) (omega arith) (omega arith) front (omega (arith, command_length ws len))
      (ap (λ (j : ℕ). get_or ws j 0) place ∙ sym (command_transition ws len x n hx hn))

  -- owner and machine below of node n
  pub owner_words : (n : ℕ) → n < nodes → (i : ℕ) → i < 2 → get_or ws (129 + 18 * n + i) 0 ≡ get_or (by_command ws) (4225 + 2 * n + i) 0
  unfolding node_word
  owner_words n hn i h =
      let from : 129 + 18 * n + i ≡ node_base + n * node_fields + i = omega arith in
      let to : commands * nodes + node_base + (n * 2 + i) ≡ 4225 + 2 * n + i = omega arith in
      ap (λ (j : ℕ). get_or ws j 0) from ∙ sym (command_link ws len n i hn h) ∙ ap (λ (j : ℕ). get_or (by_command ws) j 0) to

-- ---- a book by node

module _ (vs : List ℕ) (len : length vs ≡ book_length) where
  -- owner and machine below of node n
  pub link_words : (n : ℕ) → n < nodes → (i : ℕ) → i < 2 → get_or vs (4225 + 2 * n + i) 0 ≡ get_or (by_node vs) (129 + 18 * n + i) 0
  unfolding node_word
  link_words n hn i h = ap (λ (j : ℕ). get_or vs j 0) from ∙ sym (word_at i h) ∙ sym (node_record vs len n i hn (omega arith)) ∙ ap (λ (j : ℕ). get_or (by_node vs) j 0) to
    where
      from : 4225 + 2 * n + i ≡ commands * nodes + node_base + n * 2 + i
      from = omega arith

      to : node_base + n * node_fields + i ≡ 129 + 18 * n + i
      to = omega arith

      word_at : (k : ℕ) → k < 2 → word_by_command vs n k ≡ get_or vs (commands * nodes + node_base + n * 2 + k) 0
      word_at zero small =
          let at : commands * nodes + node_base + n * 2 ≡ commands * nodes + node_base + n * 2 + 0 = omega arith in
          ap (λ (j : ℕ). get_or vs j 0) at
      word_at (suc zero) small = refl
      word_at (suc (suc k)) small = absurd (omega arith)

  -- its transition word for command x
  pub record_more : (n x : ℕ) {out : List ℕ} → n < nodes → x < commands → Front (node_base + n * node_fields + 2 + x) (by_node vs) out
      → Front (node_base + n * node_fields + 2 + (x + 1)) (by_node vs) (set out (129 + 18 * n + 2 + x) (get_or vs (256 * x + n) 0))
  unfolding node_word
  record_more n x hn hx front =
      let from : 256 * x + n ≡ x * nodes + n = omega arith in
      let field : suc (suc x) ≡ 2 + x = omega arith in
      let place : node_base + n * node_fields + suc (suc x) ≡ node_base + n * node_fields + 2 + x = omega arith in
      front_put (129 + 18 * n + 2 + x) (node_base + n * node_fields + 2 + (x + 1)) (get_or vs (256 * x + n) 0) (omega arith) (omega arith) front
      (omega (arith, node_length vs len))
      (ap (λ (j : ℕ). get_or vs j 0) from ∙ sym (node_record vs len n (suc (suc x)) hn (omega arith)) ∙ ap (λ (j : ℕ). get_or (by_node vs) j 0) place)
