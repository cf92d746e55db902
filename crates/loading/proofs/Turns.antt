-- A stream, command by command: what becomes of the next one, and what then stands. Assumes nothing.
use mathlib.Core.Path.{◌≡◌, refl, sym, ◌∙◌, ap, subst}
use mathlib.Core.List.{List}
use Prim.Native.Nat.{ℕ, suc, ◌+◌, ◌≤◌, ◌<◌}
use native.Mathlib.Omega.{arith}
use lib.ListN.{length, drop, length-drop}
use lib.Seq.{drop-drop}
use Rattle.definitions.specs.Tree.{Tree}
use Rattle.definitions.specs.Book.{tree_of, WellFormed}
use Rattle.definitions.specs.Sheet.{Rows, rows_of}
use Rattle.definitions.specs.Truth.{TrueSheet}
use Rattle.definitions.specs.Stream.{ended, taken, refused, read_next}
use Rattle.definitions.specs.Stream.{Command as Meant}
use Rattle.definitions.specs.Edit.{refusal, tree_after, RowsAfter}
use Rattle.definitions.specs.Load.{Outcome, next, stopped, after, load}
use Rattle.definitions.specs.Calls.{LoadAnswer, LoadDone}
use Rattle.definitions.proofs.Words.{well_formed_words, marks_words}
use Rattle.definitions.proofs.Streams.{read_ended, next_nothing, next_unread, next_refuses, next_takes, next_size}
use Rattle.definitions.proofs.Streams.{load_end, load_refused, load_taken}
use Rattle.loading.specs.Loading.{Done, TookNext, Stays, joined, Underway}

-- ---- the next command

module _ (b s bytes : List ℕ) where
  -- nothing stands next
  pub turn_ended : ended ≡ read_next bytes → Stays b s bytes 0 b s
  turn_ended e =
      let empty = read_ended bytes (sym e) in
      record { stops = load_end (tree_of b) bytes (ap (next (tree_of b)) empty ∙ next_nothing (tree_of b)); book = refl; sheet = refl }

  -- it is refused as it is written
  pub turn_unread : {k : ℕ} → refused k ≡ read_next bytes → Stays b s bytes k b s
  turn_unread e = record { stops = load_refused (tree_of b) bytes (next_unread (tree_of b) bytes (sym e)); book = refl; sheet = refl }

  module _ {c : Meant} {size : ℕ} (e : taken c size ≡ read_next bytes) where
    -- it is refused on the tree
    pub turn_refused : {k : ℕ} → k ≡ refusal (tree_of b) c → (k ≡ 0 → ⊥) → Stays b s bytes k b s
    turn_refused judged other =
        record { stops = load_refused (tree_of b) bytes (next_refuses (tree_of b) bytes (sym e) (sym judged) other); book = refl; sheet = refl }

    -- it is done
    pub turn_taken : {k : ℕ} → k ≡ refusal (tree_of b) c → k ≡ 0 → {b' s' : List ℕ} → Done b s c b' s' → TookNext b s bytes size b' s'
    turn_taken judged none_holds done =
        record { command = c; stands = next_takes (tree_of b) bytes (sym e) (sym judged ∙ none_holds); done = done }

-- ---- the whole stream

-- one command before what the rest leaves
done_more : (t : Tree) {r mid : Rows} (c : Meant) (size : ℕ) (o : Outcome) {a : LoadAnswer} {b s : List ℕ} → RowsAfter t c r mid
    → LoadDone (tree_after t c) mid o a b s → LoadDone t r (after c size o) (joined size 1 a) b s
done_more t {mid = mid} c size o first rest =
    let one : 1 + length o.commands ≡ suc (length o.commands) = omega arith in
    record {
      answered = ap (joined size 1) rest.answered ∙ (λ w. record { bytes = size + o.bytes; commands = one w; number = o.number });
      book = rest.book;
      rows = rest.rows;
      done = (mid, first, rest.done);
      sheet = rest.sheet;
    }

-- numbers of bytes and commands that are joined twice
joined_twice : (i j k l : ℕ) (a : LoadAnswer) → joined i j (joined k l a) ≡ joined (i + k) (j + l) a
joined_twice i j k l a =
    let one : i + (k + a.bytes) ≡ i + k + a.bytes = omega arith in
    let two : j + (l + a.commands) ≡ j + l + a.commands = omega arith in
    λ w. record { bytes = one w; commands = two w; number = a.number }

module _ {b s stream : List ℕ} where
  module _ {bytes count : ℕ} {b' s' : List ℕ} (under : Underway b s stream bytes count b' s') where
    -- a command that is done takes one byte at least, and none that is not there
    pub turn_size : {size : ℕ} {b'' s'' : List ℕ} → TookNext b' s' (drop bytes stream) size b'' s'' → (0 < size) × (bytes + size ≤ length stream)
    turn_size took = omega (arith, next_size (tree_of b') (drop bytes stream) took.stands, length-drop bytes stream, under.room)

    -- and then it is among those that are taken
    pub underway_on : {size : ℕ} {b'' s'' : List ℕ} → TookNext b' s' (drop bytes stream) size b'' s''
        → Underway b s stream (bytes + size) (count + 1) b'' s''
    underway_on {size} {b''} {s''} took =
        let t = tree_of b' in
        let c = took.command in
        let range = turn_size took in
        record {
          formed = took.done.formed;
          filled = took.done.filled;
          room = range.1;
          counted = omega (arith, range.0, under.counted);
          rest = λ a b''' s''' done.
              let on : LoadDone (tree_after t c) (rows_of s'') (load (tree_after t c) (drop size (drop bytes stream))) a b''' s''' =
              rw (← took.done.tree, drop-drop size bytes stream) done in
              let whole : LoadDone t (rows_of s') (load t (drop bytes stream)) (joined size 1 a) b''' s''' =
              rw (load_taken t (drop bytes stream) took.stands) (done_more t c size (load (tree_after t c) (drop size (drop bytes stream))) took.done.rows on) in
              subst (λ (x : LoadAnswer). LoadDone (tree_of b) (rows_of s) (load (tree_of b) stream) x b''' s''') (joined_twice bytes count size 1 a)
              (under.rest (joined size 1 a) b''' s''' whole);
        }

    -- where no command more is done, the whole stream has left what stands
    pub underway_ends : {k : ℕ} {b'' s'' : List ℕ} → Stays b' s' (drop bytes stream) k b'' s''
        → LoadDone (tree_of b) (rows_of s) (load (tree_of b) stream) (record { bytes = bytes; commands = count; number = k }) b'' s''
    underway_ends {k} {b''} {s''} stays =
        let t = tree_of b' in
        let none_more : LoadDone t (rows_of s') (stopped k t) (record { bytes = 0; commands = 0; number = k }) b'' s'' =
        record {
          answered = refl;
          book = stays.book ∙ sym (well_formed_words b' under.formed);
          rows = rows_of s';
          done = refl;
          sheet = stays.sheet ∙ sym (marks_words s' under.filled.length under.filled.marks);
        } in
        let one : bytes + 0 ≡ bytes = omega arith in
        let two : count + 0 ≡ count = omega arith in
        subst (λ (x : LoadAnswer). LoadDone (tree_of b) (rows_of s) (load (tree_of b) stream) x b'' s'')
        (λ w. record { bytes = one w; commands = two w; number = k })
        (under.rest (record { bytes = 0; commands = 0; number = k }) b'' s'' (rw stays.stops none_more))
