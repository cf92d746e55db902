-- Laws of many streams in one list of bytes. Assumes nothing.
use mathlib.Core.Path.{◌≡◌, refl, sym, ◌∙◌, ap}
use mathlib.Core.List.{[], List, ◌∷◌, ◌++◌}
use Prim.Native.Nat.{ℕ, ◌+◌, ◌-◌, ◌≤◌, ◌<◌}
use native.Mathlib.Numerals.{add-one}
use native.Mathlib.Omega.{arith}
use lib.ListN.{length, get_or, drop, length-append}
use lib.Seq.{take_at, drop_at, drop-cons, drop-drop}
use Rattle.wholerun.specs.Ends.{Rising, streams_of, together, ends_of}

-- the ends of streams rise, from their offset to that and all their bytes
pub ends_rise : (from : ℕ) (streams : List (List ℕ)) → Rising from (ends_of from streams) (from + length (together streams))
ends_rise from [] = omega arith
ends_rise from (s ∷ streams) =
    let all : from + length (s ++ together streams) ≡ from + length s + length (together streams) = omega (arith, length-append s (together streams)) in
    (omega arith, rw all (ends_rise (from + length s) streams))

-- and cut bytes that hold the streams from the offset on into the streams
pub ends_cut : (from : ℕ) (streams : List (List ℕ)) (bytes : List ℕ) → drop from bytes ≡ together streams
    → streams_of from (ends_of from streams) bytes ≡ streams
ends_cut from [] bytes e = refl
ends_cut from (s ∷ streams) bytes e =
    let size : from + length s - from ≡ length s = omega arith in
    let rest : drop (from + length s) bytes ≡ together streams =
    sym (drop-drop (length s) from bytes) ∙ ap (drop (length s)) e ∙ drop_at s (together streams) (length s) refl in
    rw (size, e, take_at s (together streams) (length s) refl, ends_cut (from + length s) streams bytes rest)

-- so every list of streams, of any number and length, has well-formed ends, which give the streams back
pub ends_formed : (streams : List (List ℕ)) → Rising 0 (ends_of 0 streams) (length (together streams))
ends_formed streams =
    let none_before : 0 + length (together streams) ≡ length (together streams) = omega arith in
    rw none_before at (ends_rise 0 streams)

pub ends_streams : (streams : List (List ℕ)) → streams_of 0 (ends_of 0 streams) (together streams) ≡ streams
ends_streams streams = ends_cut 0 streams (together streams) refl

-- ends that rise end no earlier than they begin
pub rises : (from : ℕ) (ends : List ℕ) {to : ℕ} → Rising from ends to → from ≤ to
rises from [] e = omega arith
rises from (e ∷ ends) (here, rest) = omega (arith, rises e ends rest)

-- ---- one end after the other

-- an end, and those behind it
pub next_end : (ends : List ℕ) (i : ℕ) → i < length ends → drop i ends ≡ get_or ends i 0 ∷ drop (i + 1) ends
next_end ends i inside = rw add-one (drop-cons ends i 0 inside)

-- so many ends are looked at, the last of them the offset: they all rise where the rest does from there
pub record Looked (ends : List ℕ) (total from i : ℕ) : Type 0 where
  pub room : i ≤ length ends
  pub forth : Rising 0 ends total → Rising from (drop i ends) total
  pub back : Rising from (drop i ends) total → Rising 0 ends total
