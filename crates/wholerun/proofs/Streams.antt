-- Loads of the streams of one list of bytes, one after the other. Assumes nothing.
use mathlib.Core.Path.{◌≡◌, ◌∙◌}
use mathlib.Core.List.{[], List, ◌∷◌, ◌++◌}
use Prim.Native.Nat.{ℕ, zero, suc, ◌+◌, ◌-◌, ◌≤◌, ◌<◌}
use native.Mathlib.Omega.{arith}
use lib.ListN.{length, get_or, take, drop, drop_of_length-le}
use Rattle.definitions.specs.Basics.{as_it_is, All}
use Rattle.definitions.specs.Calls.{LoadAnswer, LoadSays}
use Rattle.definitions.specs.Demand.{Bytes, Loads}
use Rattle.definitions.proofs.Kept.{drop_bytes}
use Rattle.wholerun.specs.Ends.{Rising, streams_of}
use Rattle.wholerun.proofs.Ends.{rises, next_end}

-- two lists of Loads, the second on what the first left
pub loads_both : {b s m n b' s' : List ℕ} {first second : List (List ℕ)} → Loads as_it_is b s first m n → Loads as_it_is m n second b' s'
    → Loads as_it_is b s (first ++ second) b' s'
loads_both Loads.done more = more
loads_both (Loads.then says rest) more = Loads.then says (loads_both rest more)

-- i of the streams are loaded, the last up to the offset, on book b and sheet s, which stand now as b' and s': what the streams that are left
-- leave of these is what all of them leave of those
pub record StreamsLeft (b s bytes ends b' s' : List ℕ) (from i : ℕ) : Type 0 where
  pub room : i ≤ length ends
  pub book_length_lem : length b' ≡ length b
  pub sheet_length_lem : length s' ≡ length s
  pub rising : Rising from (drop i ends) (length bytes)
  pub rest : {b'' s'' : List ℕ} → Loads as_it_is b' s' (streams_of from (drop i ends) bytes) b'' s'' → Loads as_it_is b s (streams_of 0 ends bytes) b'' s''

module _ {b s bytes ends : List ℕ} where
  module _ {b' s' : List ℕ} {from i : ℕ} (left : StreamsLeft b s bytes ends b' s' from i) where
    -- where one is left, it stands between the offset and the next end
    pub left_range : i < length ends → (from ≤ get_or ends i 0) × (get_or ends i 0 ≤ length bytes)
    left_range inside =
        let (here, rest) = rw (next_end ends i inside) at left.rising in
        (here, rises (get_or ends i 0) (drop (i + 1) ends) rest)

    -- and once it is loaded, one fewer is left
    pub left_on : i < length ends → {b'' s'' : List ℕ} {answer : LoadAnswer}
        → LoadSays b' s' (take (get_or ends i 0 - from) (drop from bytes)) answer b'' s''
        → length b'' ≡ length b' → length s'' ≡ length s' → StreamsLeft b s bytes ends b'' s'' (get_or ends i 0) (i + 1)
    left_on inside {b''} {s''} {answer} says same_book same_sheet =
        record {
          room = omega arith;
          book_length_lem = same_book ∙ left.book_length_lem;
          sheet_length_lem = same_sheet ∙ left.sheet_length_lem;
          rising = (rw (next_end ends i inside) at left.rising).1;
          rest = λ more. left.rest (rw (next_end ends i inside) (Loads.then {answer = answer} says more));
        }

    -- where none is left, all are loaded
    pub left_none : length ends ≤ i → Loads as_it_is b s (streams_of 0 ends bytes) b' s'
    left_none all = left.rest (rw (drop_of_length-le ends all) Loads.done)

-- ---- streams of bytes

-- a list whose elements are bytes
pub all_bytes : (l : List ℕ) → ((i : ℕ) → get_or l i 0 < 256) → Bytes l
all_bytes [] each = tt
all_bytes (b ∷ rest) each = (each 0, all_bytes rest (λ i. each (suc i)))

-- the front of a list of bytes is one
take_bytes : (n : ℕ) (l : List ℕ) → Bytes l → Bytes (take n l)
take_bytes zero l h = tt
take_bytes (suc n) [] h = tt
take_bytes (suc n) (b ∷ rest) h = (h.0, take_bytes n rest h.1)

-- and so are the streams that it is cut into
pub streams_bytes : (from : ℕ) (ends bytes : List ℕ) → Bytes bytes → All Bytes (streams_of from ends bytes)
streams_bytes from [] bytes h = tt
streams_bytes from (e ∷ ends) bytes h = (take_bytes (e - from) (drop from bytes) (drop_bytes from bytes h), streams_bytes e ends bytes h)
