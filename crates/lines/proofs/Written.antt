-- A line as it is written, part by part: each kind of line has room at the front of a list. Assumes nothing.
use mathlib.Core.Path.{◌≡◌, sym, ◌∙◌, ap}
use mathlib.Core.List.{[], List, ◌∷◌, ◌++◌}
use Prim.Native.Nat.{ℕ, suc, ◌+◌, ◌*◌, ◌^◌, ◌≤◌, ◌<◌}
use native.Mathlib.Omega.{arith}
use lib.ListN.{length, get_or, take, drop}
use lib.Seq.{take_at, drop_at, get_or-take, length-take-le}
use Rattle.definitions.specs.Limits.{plan_buffer}
use Rattle.definitions.specs.Session.{decimal, spaced, plan_line, no_line, stop_line}
use Rattle.storing.specs.Stored.{Stored}
use Rattle.storing.proofs.Laws.{stored_then, stored_none, stored_is, stored_front}
use Rattle.lines.specs.Meaning.{longest_line, numbers, LineWritten}
use Rattle.lines.proofs.Digits.{decimal_short, decimal_byte, decimal_length, spaced_first, spaced_numbers, numbers_next, numbers_none, numbers_short}

-- what is stored at the front of a list that has room for every line
front : {list bytes list' : List ℕ} {size : ℕ} → longest_line ≤ length list → Stored list 0 bytes size list' → length bytes ≤ longest_line
    → LineWritten list bytes size list'
front {list} {bytes} {list'} {size} room st short =
    let (count, words) = stored_front st (omega arith) in
    record {
      front = rw words (take_at bytes (drop (length bytes) list) size (sym count));
      room = omega arith;
      rest = rw words (drop_at bytes (drop (length bytes) list) size (sym count) ∙ ap (λ (k : ℕ). drop k list) (sym count));
    }

-- ---- the parts of a line

-- a newline ends it
ends : {list : List ℕ} {at size : ℕ} {list' : List ℕ} → Stored list at (10 ∷ []) size list' → Stored list at (spaced []) size list'
unfolding spaced
ends st = st

module _ {list : List ℕ} {at p : ℕ} {mid : List ℕ} where
  -- a number after a space, before what is left
  number_then : (n : ℕ) (ns : List ℕ) → Stored list at (32 ∷ decimal n) p mid → {size : ℕ} {list' : List ℕ} → Stored mid p (spaced ns) size list'
      → Stored list at (spaced (n ∷ ns)) size list'
  number_then n ns first rest = stored_is (stored_then first rest) (sym (spaced_first n ns))

  -- numbers, then a newline
  numbers_end : (ns : List ℕ) → Stored list at (numbers ns) p mid → {size : ℕ} {list' : List ℕ} → Stored mid p (10 ∷ []) size list'
      → Stored list at (spaced ns) size list'
  numbers_end ns first rest = stored_is (stored_then first rest) (sym (spaced_numbers ns))

-- ---- numbers, one by one

-- no number yet
pub numbers_start : (list : List ℕ) (at : ℕ) (bytes : List ℕ) → Stored list at (numbers (take 0 bytes)) at list
numbers_start list at bytes = stored_none list at (numbers_none bytes)

-- one number more
pub numbers_on : {list : List ℕ} {at : ℕ} (bytes : List ℕ) (i : ℕ) {p : ℕ} {mid : List ℕ} → i < length bytes
    → Stored list at (numbers (take i bytes)) p mid → {n : ℕ} → n ≡ get_or bytes i 0 → {q : ℕ} {list' : List ℕ}
    → Stored mid p (32 ∷ decimal n) q list' → Stored list at (numbers (take (i + 1) bytes)) q list'
numbers_on bytes i less before same more =
    stored_is (stored_then before more) (ap (λ (k : ℕ). numbers (take i bytes) ++ (32 ∷ decimal k)) same ∙ sym (numbers_next bytes i less))

-- and how far they go, where each has at most w digits
pub numbers_place : {list : List ℕ} {at : ℕ} (w : ℕ) (bytes : List ℕ) (i : ℕ) {p : ℕ} {mid : List ℕ} → i ≤ length bytes
    → ((j : ℕ) → length (decimal (get_or bytes j 0)) ≤ w) → Stored list at (numbers (take i bytes)) p mid → p ≤ at + i * suc w
numbers_place w bytes i less short st =
    let size = length-take-le i bytes less in
    let most = numbers_short w (take i bytes) (λ j inside. rw (get_or-take i bytes j 0 (rw size at inside)) (short j)) in
    omega (arith, st.place, rw size at most)

-- ---- the three kinds of line

-- a plan's
module _ {list : List ℕ} (room : longest_line ≤ length list) where
  pub plan_written : (cost : ℕ) (bytes : List ℕ) (count : ℕ) {p q e size : ℕ} {m n o list' : List ℕ} → cost < 2 ^ 32 → count ≤ plan_buffer
      → count ≤ length bytes → ((j : ℕ) → get_or bytes j 0 < 256) → Stored list 0 (decimal cost) p m → Stored m p (32 ∷ decimal count) q n
      → Stored n q (numbers (take count bytes)) e o → Stored o e (10 ∷ []) size list'
      → LineWritten list (plan_line cost (take count bytes)) size list'
  plan_written cost bytes count {q = q} {size = size} {n = n} {list' = list'} small few there byte first counted listed last =
      let numbered = length-take-le count bytes there in
      let tail : Stored n q (spaced (take count bytes)) size list' = numbers_end (take count bytes) listed last in
      let whole : Stored list 0 (decimal cost ++ spaced (length (take count bytes) ∷ take count bytes)) size list' =
      rw numbered (stored_then first (number_then count (take count bytes) counted tail)) in
      front room whole
      (omega (
        arith,
        whole.place,
        first.place,
        counted.place,
        last.place,
        numbers_place 3 bytes count there (λ j. decimal_byte (get_or bytes j 0) (byte j)) listed,
        decimal_short 9 cost (omega arith),
        decimal_short 2 count (omega arith),
      ))

  -- a refused plan's
  pub no_written : (k : ℕ) {p q e size : ℕ} {m n o list' : List ℕ} → k < 2 ^ 32 → Stored list 0 (110 ∷ []) p m → Stored m p (111 ∷ []) q n
      → Stored n q (32 ∷ decimal k) e o → Stored o e (10 ∷ []) size list' → LineWritten list (no_line k) size list'
  no_written k {size = size} {list' = list'} small first second refusal last =
      let whole : Stored list 0 (no_line k) size list' = stored_then first (stored_then second (number_then k [] refusal (ends last))) in
      front room whole
      (omega (arith, whole.place, first.place, second.place, refusal.place, last.place, decimal_length k (omega arith)))

  -- a refused command's
  pub stop_written : (k at : ℕ) {p q e size : ℕ} {m n o list' : List ℕ} → k < 2 ^ 32 → at < 2 ^ 64
      → Stored list 0 (115 ∷ 116 ∷ 111 ∷ 112 ∷ []) p m → Stored m p (32 ∷ decimal k) q n → Stored n q (32 ∷ decimal at) e o
      → Stored o e (10 ∷ []) size list' → LineWritten list (stop_line k at) size list'
  stop_written k at {size = size} {list' = list'} small fits word refusal offset last =
      let whole : Stored list 0 (stop_line k at) size list' = stored_then word (number_then k (at ∷ []) refusal (number_then at [] offset (ends last))) in
      front room whole
      (omega (
        arith,
        whole.place,
        word.place,
        refusal.place,
        offset.place,
        last.place,
        decimal_length k (omega arith),
        decimal_length at fits,
      ))
