-- What storing bytes or words in a row leaves of a lent list.
use Rattle.std.specs.Prelude.{◌≡◌, List, ℕ, ◌+◌, ◌<◌, length}
use Rattle.std.proofs.lemmas.List.Edits.{sets}
use Rattle.std.specs.Borrow.{MutBor}
use Rattle.std.specs.Fn.{Shared}
use Rattle.definitions.specs.Basics.{joined}

-- elements are stored one after the other from a place on, as far as the list goes, and nothing else is touched; end is the place after them
pub record Stored {A : Type 0} (out : List A) (at : ℕ) (elements : List A) (end : ℕ) (out' : List A) : Type 0 where
  pub place : end ≡ at + length elements
  pub list : out' ≡ sets out at elements

-- a step is given the number of a piece, a list and the place that the pieces before it lead to
module _ {F A : Type 0} (g : Shared F (ℕ × (MutBor (List A) × (ℕ × Unit {0}))) (ℕ × (MutBor (List A) × Unit {0}))) (step : F) (piece : ℕ → List A) (count at : ℕ) where
  -- it may be called for each of so many pieces
  abbrev pub TakesEach : Type 0
  TakesEach = (i p : ℕ) (out : MutBor (List A)) → i < count → p ≡ at + length (joined i piece) → g.pre step (i, (out, (p, tt)))

  -- and it stores the piece there
  abbrev pub StoresEach : Type 0
  StoresEach = (i p end : ℕ) (out out' : MutBor (List A)) → i < count → p ≡ at + length (joined i piece)
      → g.post step (i, (out, (p, tt))) (end, (out', tt)) → Stored out.now p (piece i) end out'.now
