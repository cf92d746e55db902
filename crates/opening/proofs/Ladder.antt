-- The ladder of c machines, from its rows: they say its tree, and they open. A table that passes the ladder's test has the rows of 63 machines.
-- Assumes nothing.
use mathlib.Core.Path.{◌≡◌, refl, sym, ◌∙◌, ap, ap₂}
use mathlib.Core.Bool.{Bool, true, false, cond, not, ◌&&◌, and-true}
use mathlib.Core.Option.{Option, some}
use mathlib.Core.List.{List}
use Prim.Native.Nat.{ℕ, zero, suc, ◌+◌, ◌*◌, ◌-◌, ◌/◌, ◌%◌, ◌≤◌, ◌<◌}
use native.Mathlib.Nat.{suc-mul, add_comm}
use native.Mathlib.Omega.{arith}
use lib.Dec.{T, eqb, ltb, eqb→eq}
use lib.ListN.{length, get_or, length-append, get_or-append}
use lib.Seq.{get_or-append-add, ext_get_or}
use borrow.Author.Tests.{ltb-true, ltb-false, lt-ltb, eq-eqb, ne_eqb, eqb-true}
use Rattle.definitions.specs.Basics.{is_at, is_some, joined}
use Rattle.definitions.specs.Limits.{machines, absent}
use Rattle.definitions.specs.Tree.{Tree}
use Rattle.definitions.specs.Book.{word, number, under}
use Rattle.definitions.specs.Edit.{is_start}
use Rattle.definitions.specs.Open.{given, ladder_machines, ladder_below, ladder_holder, ladder_transition, ladder_of, table, ComesOf}
use Rattle.definitions.specs.Open.{row_length, row_count, cell}
use Rattle.opening.specs.Rows.{last_under, row_owner, row_below, row_start, next_lower, neighbour, linked}
use Rattle.opening.specs.Rows.{grown, free, root_of, row_tree}
use Rattle.definitions.specs.Ladder.{ladder_row, ladder_rows}
use Rattle.definitions.proofs.Options.{is_at_true, is_at_some, none_some, true_false}
use Rattle.definitions.proofs.Options.{and_true as both}
use Rattle.definitions.proofs.Commands.{not_true_false}
use Rattle.definitions.proofs.Opened.{given_some, given_below, ladder_holder_lem, ladder_sound}
use Rattle.definitions.proofs.Words.{under_is, number_word, same_tree}
use Rattle.opening.specs.Ladder.{ladder_length, ladder_right}
use Rattle.opening.proofs.Every.{every, every_at}
use Rattle.opening.proofs.Last.{last_is, last_only, last_none}
use Rattle.opening.proofs.Comes.{rows_claimed}

-- ---- the ladder's own fields

-- what is given under a limit is there where the limit is kept
given_in : {A : Type 0} (i limit : ℕ) (a : A) → i < limit → given (ltb i limit) a ≡ some a
given_in i limit a h = rw (lt-ltb i limit h)

-- a neighbour that is given has its transition
neighbour_given : (b : Bool) (v : ℕ) → neighbour (given b v) ≡ given b (record { target = v; cost = 1 })
unfolding neighbour
neighbour_given true v = refl
neighbour_given false v = refl

-- ---- rows one after the other

-- pieces of one length: how long they are together, and the number at place i of piece n
joined_length : (w k : ℕ) (f : ℕ → List ℕ) → ((n : ℕ) → length (f n) ≡ w) → length (joined k f) ≡ k * w
unfolding joined
joined_length w zero f h = omega arith
joined_length w (suc k) f h =
    length-append (f 0) (joined k (λ n. f (suc n)))
    ∙ ap₂ ◌+◌ (h 0) (joined_length w k (λ n. f (suc n)) (λ n. h (suc n)))
    ∙ sym (suc-mul k w ∙ add_comm (k * w) w)

joined_at : (w k : ℕ) (f : ℕ → List ℕ) → ((n : ℕ) → length (f n) ≡ w) → (n i d : ℕ) → n < k → i < w
    → get_or (joined k f) (n * w + i) d ≡ get_or (f n) i d
unfolding joined
joined_at w zero f h n i d hn hi = absurd (omega arith)
joined_at w (suc k) f h zero i d hn hi =
    let at : 0 * w + i ≡ i = omega arith in
    rw at (get_or-append (f 0) (joined k (λ n. f (suc n))) d i (omega (arith, h 0)))
joined_at w (suc k) f h (suc n) i d hn hi =
    let at : suc n * w + i ≡ length (f 0) + (n * w + i) = omega (arith, suc-mul n w, h 0) in
    rw at (get_or-append-add (f 0) (joined k (λ n. f (suc n))) (n * w + i) d
    ∙ joined_at w k (λ n. f (suc n)) (λ n. h (suc n)) n i d (omega arith) hi)

-- the numbers of the ladder's rows
pub rows_length : (c : ℕ) → length (ladder_rows c) ≡ 3 * c * row_length
unfolding ladder_rows
rows_length c = joined_length row_length (3 * c) (ladder_row c) (λ n. refl)

pub rows_cell : (c n k : ℕ) → n < 3 * c → k < row_length → cell (ladder_rows c) n k ≡ get_or (ladder_row c n) k absent
unfolding ladder_rows cell
rows_cell c n k hn hk = joined_at row_length (3 * c) (ladder_row c) (λ n. refl) n k absent hn hk

module _ (c : ℕ) (one : 1 ≤ c) (few : c ≤ ladder_machines) where
  -- the machine below node n is under c, and its holder is n
  below_rule : (n m : ℕ) → ladder_below c n ≡ some m → (m < c) × (0 < m) × (n ≡ 3 * ((m - 1) / 2) + 2 * ((m - 1) % 2))
  unfolding ladder_below
  below_rule n m e = go (n % 3) refl
    where
      go : (k : ℕ) → n % 3 ≡ k → (m < c) × (0 < m) × (n ≡ 3 * ((m - 1) / 2) + 2 * ((m - 1) % 2))
      go zero f =
          let h = given_below (2 * (n / 3) + 1) c (2 * (n / 3) + 1) (rw f at e) in
          omega arith
      go (suc zero) f = absurd (none_some refl (rw f at e))
      go (suc (suc k)) f =
          let h = given_below (2 * (n / 3) + 2) c (2 * (n / 3) + 2) (rw f at e) in
          omega arith

  -- and the holder of machine p + 1 holds it
  holder_rule : (p : ℕ) → suc p < c → ladder_below c (3 * (p / 2) + 2 * (p % 2)) ≡ some (suc p)
  unfolding ladder_below
  holder_rule p h = go (p % 2) refl
    where
      n : ℕ
      n = 3 * (p / 2) + 2 * (p % 2)

      go : (k : ℕ) → p % 2 ≡ k → ladder_below c n ≡ some (suc p)
      go zero e =
          let machine : n / 3 ≡ p / 2 = omega arith in
          let third : n % 3 ≡ 0 = omega arith in
          let held : 2 * (n / 3) + 1 ≡ suc p = omega arith in
          rw third (given_in (2 * (n / 3) + 1) c (2 * (n / 3) + 1) (omega arith) ∙ ap {B = Option ℕ} some held)
      go (suc zero) e =
          let machine : n / 3 ≡ p / 2 = omega arith in
          let third : n % 3 ≡ 2 = omega arith in
          let held : 2 * (n / 3) + 2 ≡ suc p = omega arith in
          rw third (given_in (2 * (n / 3) + 2) c (2 * (n / 3) + 2) (omega arith) ∙ ap {B = Option ℕ} some held)
      go (suc (suc k)) e = absurd (omega arith)

  -- what rows that say the ladder's owners, machines below and starts say of the rest
  module _ (rows : List ℕ) (owner : (n : ℕ) → n < 3 * c → row_owner rows n ≡ some (n / 3))
      (below : (n : ℕ) → n < 3 * c → row_below rows n ≡ ladder_below c n)
      (start : (n : ℕ) → n < 3 * c → row_start rows n ≡ eqb (n % 3) 1)
    where
      -- a row of machine m
      owned : (n m : ℕ) → n < 3 * c → is_at (row_owner rows n) m ≡ eqb (n / 3) m
      owned n m h = rw (owner n h)

      -- node 3m + 1 is the start of machine m
      start_found : (m : ℕ)
          → under machines m (last_under (3 * c) (λ n. row_start rows n && is_at (row_owner rows n) m))
          ≡ given (ltb m c) (3 * m + 1)
      start_found m =
          under_is machines m (last_under (3 * c) p) (given (ltb m c) (3 * m + 1)) (λ h. go (ltb m c) refl)
          (λ s e. omega (arith, given_below m c (3 * m + 1) e))
        where
          p : ℕ → Bool
          p n = row_start rows n && is_at (row_owner rows n) m

          found : (n : ℕ) → n < 3 * c → p n ≡ true → n ≡ 3 * m + 1
          found n h e =
              let (a, b) = both (row_start rows n) (is_at (row_owner rows n) m) e in
              omega (arith, eqb-true (n % 3) 1 (sym (start n h) ∙ a), eqb-true (n / 3) m (sym (owned n m h) ∙ b))

          go : (b : Bool) → ltb m c ≡ b → last_under (3 * c) p ≡ given b (3 * m + 1)
          go true e =
              let h : 3 * m + 1 < 3 * c = omega (arith, ltb-true m c e) in
              last_only (3 * c) (3 * m + 1) p h
              (ap₂ ◌&&◌ (start (3 * m + 1) h ∙ eq-eqb ((3 * m + 1) % 3) 1 (omega arith))
              (owned (3 * m + 1) m h ∙ eq-eqb ((3 * m + 1) / 3) m (omega arith)))
              found
          go false e = last_none (3 * c) p (λ n h. not_true_false (λ f. omega (arith, found n h f, ltb-false m c e)))

      -- machine m is held by the ladder's holder
      holder_found : (m : ℕ) → under machines m (last_under (3 * c) (λ n. is_at (row_below rows n) m)) ≡ ladder_holder c m
      unfolding ladder_holder ladder_of
      holder_found m =
          under_is machines m (last_under (3 * c) (λ n. is_at (row_below rows n) m)) (ladder_holder c m) (λ h. go m)
          (λ n e. omega (arith, ladder_holder_lem c m n e))
        where
          found : (k n : ℕ) → n < 3 * c → is_at (row_below rows n) k ≡ true
              → (k < c) × (0 < k) × (n ≡ 3 * ((k - 1) / 2) + 2 * ((k - 1) % 2))
          found k n h e = below_rule n k (sym (below n h) ∙ is_at_true (row_below rows n) k e)

          go : (k : ℕ) → last_under (3 * c) (λ n. is_at (row_below rows n) k) ≡ ladder_holder c k
          go zero =
              last_none (3 * c) (λ n. is_at (row_below rows n) 0)
              (λ n h. not_true_false (λ e. omega (arith, found 0 n h e)))
          go (suc p) = held (ltb (suc p) c) refl
            where
              held : (b : Bool) → ltb (suc p) c ≡ b
                  → last_under (3 * c) (λ n. is_at (row_below rows n) (suc p)) ≡ given b (3 * (p / 2) + 2 * (p % 2))
              held true e =
                  let small : suc p < c = ltb-true (suc p) c e in
                  let n : ℕ = 3 * (p / 2) + 2 * (p % 2) in
                  let h : n < 3 * c = omega arith in
                  let back : suc p - 1 ≡ p = omega arith in
                  last_only (3 * c) n (λ n. is_at (row_below rows n) (suc p)) h
                  (is_at_some (suc p) (suc p) (below n h ∙ holder_rule p small) refl)
                  (λ j l f. rw back at (found (suc p) j l f).2)
              held false e =
                  last_none (3 * c) (λ n. is_at (row_below rows n) (suc p))
                  (λ n h.
                  not_true_false (λ f. omega (arith, found (suc p) n h f, ltb-false (suc p) c e)))

      -- the next lower node of node n
      lower_found : (n : ℕ) → n < 3 * c → next_lower rows n ≡ given (ltb 0 (n % 3)) (n - 1)
      unfolding next_lower
      lower_found n h = rw (owner n h) (go (ltb 0 (n % 3)) refl)
        where
          p : ℕ → Bool
          p j = is_at (row_owner rows j) (n / 3)

          go : (b : Bool) → ltb 0 (n % 3) ≡ b → last_under n p ≡ given b (n - 1)
          go true e =
              let inside : 0 < n % 3 = ltb-true 0 (n % 3) e in
              let l : n - 1 < 3 * c = omega arith in
              last_is n (n - 1) p (omega arith) (owned (n - 1) (n / 3) l ∙ eq-eqb ((n - 1) / 3) (n / 3) (omega arith))
              (λ j above under. absurd (omega arith))
          go false e =
              last_none n p
              (λ j l.
              let first : n % 3 ≤ 0 = ltb-false 0 (n % 3) e in
              owned j (n / 3) (omega arith) ∙ ne_eqb (j / 3) (n / 3) (λ same. omega arith))

      -- the node whose next lower node is n
      higher_found : (n : ℕ) → last_under (3 * c) (λ v. is_at (next_lower rows v) n) ≡ given (ltb (n % 3) 2 && ltb n (3 * c)) (n + 1)
      higher_found n = go (ltb (n % 3) 2) refl (ltb n (3 * c)) refl
        where
          p : ℕ → Bool
          p v = is_at (next_lower rows v) n

          found : (v : ℕ) → v < 3 * c → p v ≡ true → (0 < v % 3) × (v - 1 ≡ n)
          found v h e = given_below 0 (v % 3) (v - 1) (sym (lower_found v h) ∙ is_at_true (next_lower rows v) n e)

          go : (a : Bool) → ltb (n % 3) 2 ≡ a → (b : Bool) → ltb n (3 * c) ≡ b → last_under (3 * c) p ≡ given (a && b) (n + 1)
          go true ea true eb =
              let low : n % 3 < 2 = ltb-true (n % 3) 2 ea in
              let inside : n < 3 * c = ltb-true n (3 * c) eb in
              let h : n + 1 < 3 * c = omega arith in
              last_only (3 * c) (n + 1) p h
              (is_at_some (n + 1 - 1) n (lower_found (n + 1) h ∙ given_in 0 ((n + 1) % 3) (n + 1 - 1) (omega arith)) (omega arith))
              (λ v l f. omega (arith, found v l f))
          go true ea false eb =
              last_none (3 * c) p (λ v h. not_true_false (λ f. omega (arith, found v h f, ltb-false n (3 * c) eb)))
          go false ea b eb =
              last_none (3 * c) p (λ v h. not_true_false (λ f. omega (arith, found v h f, ltb-false (n % 3) 2 ea)))

      -- the machine that no node holds is machine 0
      root_found : root_of (grown rows (3 * c) absent) ≡ 0
      unfolding root_of free grown word ladder_holder
      root_found = ap word (last_is machines 0 (free (grown rows (3 * c) absent)) (omega arith) (rw (start_found 0, holder_found 0, lt-ltb 0 c (omega arith))) held)
        where
          used_free : (b : Bool) (s n : ℕ) → (is_some (given b s) && not (is_some (given b n))) ≡ false
          used_free true s n = refl
          used_free false s n = refl

          held : (m : ℕ) → 0 < m → m < machines → free (grown rows (3 * c) absent) m ≡ false
          held zero above under = absurd (omega arith)
          held (suc p) above under =
              rw (start_found (suc p), holder_found (suc p))
              (used_free (ltb (suc p) c) (3 * suc p + 1) (3 * (p / 2) + 2 * (p % 2)))

      -- together they say the ladder
      ladder_found : grown rows (3 * c) (root_of (grown rows (3 * c) absent)) ≡ (ladder_of c)
      unfolding grown ladder_of linked ladder_transition
      ladder_found =
          same_tree (grown rows (3 * c) (root_of (grown rows (3 * c) absent))) (ladder_of c) root_found owner_all below_all start_found
          holder_found transition (λ n. refl) (λ m. refl)
        where
          owner_all : (n : ℕ) → under (3 * c) n (row_owner rows n) ≡ given (ltb n (3 * c)) (n / 3)
          owner_all n =
              under_is (3 * c) n (row_owner rows n) (given (ltb n (3 * c)) (n / 3))
              (λ h. owner n h ∙ sym (given_in n (3 * c) (n / 3) h)) (λ m e. (given_below n (3 * c) (n / 3) e).0)

          below_all : (n : ℕ) → under (3 * c) n (row_below rows n) ≡ ladder_below c n
          below_all n = under_is (3 * c) n (row_below rows n) (ladder_below c n) (below n) (λ m e. omega (arith, below_rule n m e))

          lower_all : (n : ℕ) → under (3 * c) n (next_lower rows n) ≡ given (ltb 0 (n % 3) && ltb n (3 * c)) (n - 1)
          lower_all n =
              under_is (3 * c) n (next_lower rows n) (given (ltb 0 (n % 3) && ltb n (3 * c)) (n - 1))
              (λ h.
              lower_found n h
              ∙ ap (λ (b : Bool). given b (n - 1)) (sym (ap (◌&&◌ (ltb 0 (n % 3))) (lt-ltb n (3 * c) h) ∙ and-true (ltb 0 (n % 3)))))
              (λ v e.
              let tests = (given_some (ltb 0 (n % 3) && ltb n (3 * c)) (n - 1) e).0 in
              ltb-true n (3 * c) (both (ltb 0 (n % 3)) (ltb n (3 * c)) tests).1)

          transition : (n x : ℕ) → linked rows (3 * c) n x ≡ ladder_transition c n x
          transition n zero = ap neighbour (lower_all n) ∙ neighbour_given (ltb 0 (n % 3) && ltb n (3 * c)) (n - 1)
          transition n (suc zero) = ap neighbour (higher_found n) ∙ neighbour_given (ltb (n % 3) 2 && ltb n (3 * c)) (n + 1)
          transition n (suc (suc x)) = refl

  -- the rows of the ladder say its tree
  pub rows_tree : row_tree (ladder_rows c) ≡ ladder_of c
  unfolding row_tree row_owner row_below row_start number
  rows_tree =
      let all : row_count (ladder_rows c) ≡ 3 * c = omega (arith, rows_length c) in
      ap (λ (k : ℕ). grown (ladder_rows c) k (root_of (grown (ladder_rows c) k absent))) all
      ∙ ladder_found (ladder_rows c) (λ n h. ap number (rows_cell c n 0 h (omega arith)) ∙ rw (ne_eqb (n / 3) absent (omega arith)))
      (λ n h. ap number (rows_cell c n 1 h (omega arith)) ∙ number_word (ladder_below c n) (λ m e. omega (arith, below_rule n m e)))
      (λ n h. ap (λ (w : ℕ). eqb w 1) (rows_cell c n 2 h (omega arith)) ∙ bit (eqb (n % 3) 1))
    where
      bit : (b : Bool) → eqb (cond b 1 0) 1 ≡ b
      bit true = refl
      bit false = refl

  -- where its starts are
  starts_at : (n : ℕ) → n < 3 * c → is_start (ladder_of c) n ≡ eqb (n % 3) 1
  unfolding ladder_of
  starts_at n small = rw (lt-ltb n (3 * c) small, lt-ltb (n / 3) c (omega arith)) (same (eqb (n % 3) 1) refl)
    where
      same : (b : Bool) → eqb (n % 3) 1 ≡ b → eqb (3 * (n / 3) + 1) n ≡ b
      same true e = eq-eqb (3 * (n / 3) + 1) n (omega (arith, eqb-true (n % 3) 1 e))
      same false e = not_true_false (λ f. true_false (eq-eqb (n % 3) 1 (omega (arith, eqb-true (3 * (n / 3) + 1) n f))) e)

  -- and that tree comes of them
  pub rows_come : ComesOf (table (ladder_rows c)) (ladder_of c)
  rows_come =
      let right : (n : ℕ) → n < row_count (ladder_rows c) → cell (ladder_rows c) n 2 ≡ cond (is_start (row_tree (ladder_rows c)) n) 1 0 =
      λ n h.
      let small : n < 3 * c = omega (arith, rows_length c) in
      rows_cell c n 2 small (omega arith)
      ∙ sym (ap (λ (t : Tree). cond (is_start t n) 1 0) rows_tree ∙ ap (λ (b : Bool). cond b 1 0) (starts_at n small))
      in
      (rw rows_tree at (rows_claimed (ladder_rows c) right), ladder_sound c one few)

-- ---- a table that passes the test

-- A table of 189 rows in which every number stands rightly has the ladder's rows.
pub table_rows : (rows : List ℕ) → length rows ≡ ladder_length → T (every ladder_right 0 rows) → rows ≡ ladder_rows ladder_machines
unfolding ladder_right cell
table_rows rows len right =
    ext_get_or absent rows (ladder_rows ladder_machines) (len ∙ sym (rows_length ladder_machines))
    (λ i h.
    let n : ℕ = i / row_length in
    let k : ℕ = i % row_length in
    let here : n * row_length + k ≡ i = omega arith in
    eqb→eq (get_or rows i absent) (get_or (ladder_row ladder_machines n) k absent) (every_at ladder_right rows absent right i h)
    ∙ sym (rw here at (rows_cell ladder_machines n k (omega (arith, len)) (omega arith))))

-- so it says the ladder's tree
pub table_tree : (rows : List ℕ) → length rows ≡ ladder_length → T (every ladder_right 0 rows) → row_tree rows ≡ ladder_of ladder_machines
table_tree rows len right = ap row_tree (table_rows rows len right) ∙ rows_tree ladder_machines (omega arith) (omega arith)
