-- Many streams in one list of bytes, and where each of them ends: stream i stands between end i - 1 (0 for the first) and end i.
use Rattle.std.specs.Prelude.{◌≡◌, List, [], ◌∷◌, ◌++◌, ℕ, ◌+◌, ◌-◌, ◌≤◌, length, take, drop}

-- ends that do not fall, from one offset on, the last of them the other
abbrev pub Rising : ℕ → List ℕ → ℕ → Type 0
Rising from [] to = from ≡ to
Rising from (e ∷ ends) to = (from ≤ e) × Rising e ends to

-- the streams that these ends cut the bytes into, from an offset on
abbrev pub streams_of : ℕ → List ℕ → List ℕ → List (List ℕ)
streams_of from [] bytes = []
streams_of from (e ∷ ends) bytes = take (e - from) (drop from bytes) ∷ streams_of e ends bytes

-- streams one after the other: their bytes in one list, and where each of them ends where the first begins at an offset
abbrev pub together : List (List ℕ) → List ℕ
together [] = []
together (s ∷ streams) = s ++ together streams

abbrev pub ends_of : ℕ → List (List ℕ) → List ℕ
ends_of from [] = []
ends_of from (s ∷ streams) = (from + length s) ∷ ends_of (from + length s) streams
