-- A list that is written from its front on until it is another.
use Rattle.std.specs.Prelude.{◌≡◌, List, ℕ, ◌<◌, length, get_or}

-- the list is as long as f, and its first k words are those of f
pub record Front (k : ℕ) (f list : List ℕ) : Type 0 where
  pub length : length list ≡ length f
  pub word : (i : ℕ) → i < k → get_or list i 0 ≡ get_or f i 0
