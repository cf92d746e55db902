-- Lists with a word for each number.
use Rattle.std.specs.Prelude.{◌≡◌, Bool, List, ℕ, ◌<◌, eqb, length, get_or}
use Rattle.std.proofs.Math.Option.{Option}
use Rattle.definitions.specs.Book.{word}

-- whether the word of number k is v
abbrev pub has : List ℕ → ℕ → ℕ → Bool
has list v k = eqb (get_or list k 0) v

-- the list has so many words, of which the first k are those that f gives
pub record FrontWords (size k : ℕ) (f : ℕ → ℕ) (list : List ℕ) : Type 0 where
  pub length : length list ≡ size
  pub word : (i : ℕ) → i < k → get_or list i 0 ≡ f i

-- the list has a word for each number under the limit: the one of what f says of the number
abbrev pub Tells : ℕ → (ℕ → Option ℕ) → List ℕ → Type 0
Tells limit f = FrontWords limit limit (λ i. word (f i))
