-- What a call that is lent a book and a sheet has done.
use Rattle.std.specs.Prelude.{◌≡◌, List, ℕ}
use Rattle.std.specs.Borrow.{MutBor}
use Rattle.std.specs.Fn.{Shared}

-- the call was made on such a book and sheet, gave this and left such
abbrev pub Called : {F R : Type 0} → Shared F (MutBor (List ℕ) × (MutBor (List ℕ) × Unit {0})) (R × (MutBor (List ℕ) × (MutBor (List ℕ) × Unit {0}))) → F
    → List ℕ → List ℕ → R → List ℕ → List ℕ → Type 0
Called g call book sheet r book' sheet' =
    (b : MutBor (List ℕ)) × (s : MutBor (List ℕ)) × (c : MutBor (List ℕ)) × (t : MutBor (List ℕ)) × g.post call (b, (s, tt)) (r, (c, (t, tt)))
    × (b.now ≡ book)
    × (s.now ≡ sheet)
    × (c.now ≡ book')
    × (t.now ≡ sheet')
