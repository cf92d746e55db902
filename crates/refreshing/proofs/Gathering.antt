-- The nodes of a machine get their places, one after the other. Assumes nothing.
use mathlib.Core.Path.{◌≡◌, sym, ◌∙◌, ap}
use mathlib.Core.Logic.{⊎_elim}
use mathlib.Core.Option.{Option, some}
use mathlib.Core.List.{List}
use Prim.Native.Nat.{ℕ, ◌+◌, ◌<◌}
use native.Mathlib.Omega.{arith}
use lib.ListN.{length, set, length-set}
use lib.Seq.{get_or-set_same, get_or-set_other}
use Rattle.definitions.specs.Limits.{machines, nodes}
use Rattle.definitions.specs.Tree.{Tree, Sound}
use Rattle.definitions.specs.Book.{word}
use Rattle.definitions.proofs.Options.{equal_or_not}
use Rattle.definitions.proofs.Words.{present_word}
use Rattle.search.specs.Parts.{at}
use Rattle.refreshing.specs.Parts.{Members, Gathered}

-- ---- a list with one number stored

-- what is stored stands there
pub at_stored : (list : List ℕ) (i v : ℕ) → i < length list → at (set list i v) i ≡ v
at_stored list i v room = get_or-set_same list i v 0 room

-- and every other number is as it was
pub at_other : (list : List ℕ) (i v j : ℕ) → (j ≡ i → ⊥) → at (set list i v) j ≡ at list j
at_other list i v j other = get_or-set_other list i j v 0 other

-- ---- whether a node belongs to the machine, by the word

pub not_owned : {o : Option ℕ} {m w : ℕ} → w ≡ word o → (w ≡ m → ⊥) → o ≡ some m → ⊥
unfolding word
not_owned e other own = other (e ∙ ap word own)

pub is_owned : {o : Option ℕ} {m w : ℕ} → w ≡ word o → w ≡ m → m < machines → o ≡ some m
is_owned {o} e same small = present_word o e (omega arith) ∙ ap {B = Option ℕ} some same

-- ---- the places so far

module _ {t : Tree} {m n k : ℕ} {members places : List ℕ} (g : Gathered t m n k members places) where
  -- node n belongs to another machine
  pub gathered_skip : (t.owner n ≡ some m → ⊥) → Gathered t m (n + 1) k members places
  gathered_skip other =
      record {
        members_room = g.members_room;
        places_room = g.places_room;
        many = omega (arith, g.many);
        owned = g.owned;
        passed = λ i small. omega (arith, g.passed i small);
        found = λ v small own.
            let apart : v ≡ n → ⊥ = λ same. other (ap t.owner (sym same) ∙ own) in
            g.found v (omega arith) own;
        back = g.back;
      }

  -- node n belongs to machine m
  pub gathered_more : n < nodes → t.owner n ≡ some m → Gathered t m (n + 1) (k + 1) (set members k n) (set places n k)
  gathered_more small own =
      let room : k < length members = omega (arith, g.many, g.members_room) in
      let here : at (set members k n) k ≡ n = at_stored members k n room in
      let there : at (set places n k) n ≡ k = at_stored places n k (omega (arith, g.places_room)) in
      record {
        members_room = length-set members k n ∙ g.members_room;
        places_room = length-set places n k ∙ g.places_room;
        many = omega (arith, g.many);
        owned = λ i less.
            ⊎_elim (λ (same : i ≡ k). ap t.owner (ap (at (set members k n)) same ∙ here) ∙ own)
            (λ (apart : i ≡ k → ⊥). ap t.owner (at_other members k n i apart) ∙ g.owned i (omega arith))
            (equal_or_not i k);
        passed = λ i less.
            ⊎_elim (λ (same : i ≡ k). omega (arith, ap (at (set members k n)) same, here))
            (λ (apart : i ≡ k → ⊥). omega (arith, at_other members k n i apart, g.passed i (omega arith)))
            (equal_or_not i k);
        found = λ v less own_v.
            ⊎_elim
            (λ (same : v ≡ n).
            let place : at (set places n k) v ≡ k = ap (at (set places n k)) same ∙ there in
            (omega arith, ap (at (set members k n)) place ∙ here ∙ sym same))
            (λ (apart : v ≡ n → ⊥).
            let (low, back) = g.found v (omega arith) own_v in
            let place : at (set places n k) v ≡ at places v = at_other places n k v apart in
            (omega arith, ap (at (set members k n)) place ∙ at_other members k n (at places v) (omega arith) ∙ back))
            (equal_or_not v n);
        back = λ i less.
            ⊎_elim
            (λ (same : i ≡ k).
            ap (λ (j : ℕ). at (set places n k) (at (set members k n) j)) same ∙ ap (at (set places n k)) here ∙ there ∙ sym same)
            (λ (apart : i ≡ k → ⊥).
            ap (at (set places n k)) (at_other members k n i apart)
            ∙ at_other places n k (at members i) (omega (arith, g.passed i (omega arith)))
            ∙ g.back i (omega arith))
            (equal_or_not i k);
      }

-- every node of the machine has its place
pub gathered_members : {t : Tree} → Sound t → {m k : ℕ} {members places : List ℕ} → Gathered t m nodes k members places
    → Members t m k (at members) (at places)
gathered_members sound {m} g =
    record {
      small = g.many;
      owned = g.owned;
      found = λ n own. g.found n (sound.node_range n m own) own;
      back = g.back;
    }
