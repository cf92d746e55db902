-- What the machines above a node inherit, from the root down. Assumes nothing.
use mathlib.Core.Path.{◌≡◌, sym, ◌∙◌, ap, subst}
use mathlib.Core.Logic.{⊎_elim}
use mathlib.Core.Bool.{Bool, true}
use mathlib.Core.List.{List}
use Prim.Native.Nat.{ℕ, ◌+◌, ◌*◌}
use lib.Dec.{eqb}
use lib.ListN.{replicate}
use borrow.Author.Tests.{eqb-true}
use Rattle.definitions.specs.Limits.{commands, absent}
use Rattle.definitions.specs.Tree.{Tree, UsedNode, Sound, over}
use Rattle.definitions.specs.Book.{word, tree_of, WellFormed}
use Rattle.definitions.proofs.Commands.{over_top, over_up}
use Rattle.definitions.proofs.Simple.{over_own}
use Rattle.plantheory.specs.Search.{opened_for}
use Rattle.book.proofs.Chosen.{zeros_at}
use Rattle.stepping.proofs.Laws.{top_root}
use Rattle.stepping.proofs.Upward.{own, top, held}
use Rattle.inheriting.specs.Inheriting.{way_of, inherits, UpRoom, Inherited, OwnerRow, RootRow, HandedTo}
use Rattle.crossing.specs.Parts.{is_open, OpenedFor, Landings, HandedAbove, Prepared}
use Rattle.crossing.proofs.Opening.{either}

module _ (book : List ℕ) (w : WellFormed book) (lands : List ℕ) (n : ℕ) (used : UsedNode (tree_of book) n) {o h : ℕ}
    (owner : o ≡ word ((tree_of book).owner n)) (holder : h ≡ word ((tree_of book).holder o)) where
  -- no node holds the machine: it is the root
  pub handed_root : h ≡ absent → {up : List ℕ} → RootRow (tree_of book) lands up → HandedAbove (tree_of book) lands n up up
  handed_root free {up} root =
      let own_n = own book w n used owner in
      let top_o = top book w n used owner holder free in
      let is : o ≡ (tree_of book).root = top_root w.sound (w.sound.owner_used n o own_n).1 top_o in
      record {
        told = λ p x range over_n.
            let same : o ≡ p = eqb-true o p (sym (over_top (tree_of book) p own_n top_o) ∙ over_n) in
            subst (λ (q : ℕ). Inherited (tree_of book) lands up q x) (sym is ∙ same) (root x range);
        kept = λ p x range e. e;
      }

  -- node h holds it: first what stands above, then the machine itself
  pub handed_on : (h ≡ absent → ⊥) → {up mid new : List ℕ} → HandedAbove (tree_of book) lands h up mid → HandedTo (tree_of book) lands o mid new
      → HandedAbove (tree_of book) lands n up new
  handed_on there first last =
      record {
        told = λ p x range over_n.
            ⊎_elim (λ (same : eqb o p ≡ true). last.told p x range (sym (eqb-true o p same)))
            (λ (above_h : over (tree_of book) p h ≡ true). last.kept p x range (first.told p x range above_h))
            (either (eqb o p) (over (tree_of book) p h)
            (sym (over_up w.sound p (own book w n used owner) (held book w n used owner holder there)) ∙ over_n));
        kept = λ p x range e. last.kept p x range (first.kept p x range e);
      }

-- the row of a node's machine is among those above the node
pub handed_row : {t : Tree} {lands : List ℕ} (n : ℕ) {up new : List ℕ} → HandedAbove t lands n up new → OwnerRow t lands new n
handed_row {t} n handed m own x range = handed.told m x range (over_own t own)

-- a list of zeros has the root's row
pub root_zeros : {t : Tree} → Sound t → (lands : List ℕ) (k : ℕ) → RootRow t lands (replicate k 0)
unfolding inherits way_of
root_zeros {t} s lands k x range = rw (zeros_at k (commands * t.root + x), s.root_free)

-- after two such calls the machines above a and b have their rows
pub prepared : {t : Tree} (words : List ℕ) {lands : List ℕ} (a b : ℕ) {up one two : List ℕ} → OpenedFor t a b words → Landings t (is_open words) lands
    → UpRoom two → HandedAbove t lands a up one → HandedAbove t lands b one two → Prepared t (is_open words) lands two
unfolding opened_for
prepared {t} words a b says landings room first second =
    record {
      landings = landings;
      room = room;
      inherited = λ m on x range.
          ⊎_elim (λ (above_a : over t m a ≡ true). second.kept m x range (first.told m x range above_a))
          (λ (above_b : over t m b ≡ true). second.told m x range above_b)
          (either (over t m a) (over t m b) (sym (ap (λ (f : ℕ → Bool). f m) says) ∙ on));
    }
