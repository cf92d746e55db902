-- The place of a nearest node, as the loop finds it, and the exchange of two places. Assumes nothing.
use mathlib.Core.Path.{◌≡◌, ◌∙◌, ap}
use mathlib.Core.Logic.{⊎_elim}
use Prim.Native.Nat.{ℕ}
use Rattle.definitions.proofs.Options.{equal_or_not}
use Rattle.search.specs.Parts.{Nearest, Swapped}
use Rattle.search.proofs.Stores.{Put}

-- best is the place of a nearest node, at distance least, among places n to i − 1
pub record Best (dist order : ℕ → ℕ) (n i best least : ℕ) : Type 0 where
  pub near : Nearest dist order n i best
  pub held : least ≡ dist (order best)

-- the node at place a is put at place b, and then w, the one that was at b, at place a
pub swapped : {f g h : ℕ → ℕ} {a b w : ℕ} → Put f g b (f a) → Put g h a w → w ≡ f b → Swapped f h a b
swapped {f} {g} {h} {a} {b} one two is =
    record {
      first = two.same ∙ is;
      second = ⊎_elim (λ (e : b ≡ a). ap h e ∙ two.same ∙ is ∙ ap f e) (λ e. two.other b e ∙ one.same) (equal_or_not b a);
      other = λ i away off. two.other i away ∙ one.other i off;
    }
