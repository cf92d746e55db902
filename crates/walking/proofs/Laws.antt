-- What a number is asked, and how many states of a list are inside a node. Assumes nothing.
use mathlib.Core.Path.{◌≡◌}
use mathlib.Core.Bool.{cond, not}
use mathlib.Core.Option.{none}
use mathlib.Core.List.{List}
use Prim.Native.Nat.{ℕ, ◌+◌, ◌≤◌, ◌<◌}
use native.Mathlib.Omega.{arith}
use lib.Dec.{eqb, leb}
use lib.ListN.{length, get_or, drop}
use Rattle.std.proofs.Math.Numerals.{add-one}
use Rattle.std.proofs.Math.Seq.{drop-cons}
use Rattle.std.proofs.lemmas.List.{drop_all}
use borrow.Author.Tests.{le-leb}
use Rattle.definitions.specs.Limits.{nodes, absent}
use Rattle.definitions.specs.Tree.{Tree, Sound, UsedNode, within}
use Rattle.definitions.specs.Book.{word}
use Rattle.definitions.specs.Walk.{inside}
use Rattle.definitions.proofs.Options.{none_some}
use Rattle.definitions.proofs.Lists.{no_value}
use Rattle.definitions.proofs.Words.{present_word, no_owner, no_below, unused_below}
use Rattle.book.specs.Decides.{Decides}
use Rattle.book.proofs.Decide.{decides_if, decides_other}

-- ---- what is asked of a number

module _ {t : Tree} (sound : Sound t) (s : ℕ) where
  -- whether it is in use, by its owner's word
  pub used_by : {o : ℕ} → o ≡ word (t.owner s) → Decides (not (eqb o absent)) (UsedNode t s)
  used_by {o} says =
      decides_other o absent (λ there. (o, present_word (t.owner s) says there)) (λ used at. none_some (no_owner t sound s says at) used.1)

  -- whether it is plain, by the word of the machine below it; what is no node's is
  pub plain_by : {b : ℕ} → b ≡ word (t.below s) → Decides (eqb b absent) (t.below s ≡ none)
  plain_by {b} says =
      decides_if b absent (λ at. no_below t sound s says at) (λ there plain. none_some plain (present_word (t.below s) says there))

  pub plain_out : nodes ≤ s → Decides (leb nodes s) (t.below s ≡ none)
  plain_out past =
      rw (le-leb nodes s past)
      (unused_below t sound s (no_value (t.owner s) (λ m own. omega (arith, sound.node_range s m own))))

-- ---- how many are inside

module _ (t : Tree) (n : ℕ) where
  -- the next, and then the rest
  pub inside_on : (list : List ℕ) (i : ℕ) → i < length list
      → inside t n (drop i list) ≡ cond (within t n (get_or list i 0)) 1 0 + inside t n (drop (i + 1) list)
  unfolding inside
  inside_on list i h = rw (add-one, drop-cons list i 0)

  -- none is left
  pub inside_end : (list : List ℕ) (i : ℕ) → length list ≤ i → inside t n (drop i list) ≡ 0
  unfolding inside
  inside_end list i h = rw (drop_all i list)
