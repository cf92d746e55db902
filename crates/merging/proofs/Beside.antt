-- A word of the first book, or else one of the second at its new number: what each case says of the two trees beside each other. Assumes nothing.
use mathlib.Core.Path.{◌≡◌, refl, sym, ◌∙◌}
use mathlib.Core.Logic.{◌⊎◌, inl, inr}
use mathlib.Core.Bool.{Bool, cond}
use mathlib.Core.Option.{Option, none, some}
use mathlib.Core.List.{List}
use Prim.Native.Nat.{ℕ, zero, suc, ◌+◌, ◌^◌, ◌<◌}
use native.Mathlib.Omega.{arith}
use lib.Dec.{eqb}
use lib.ListN.{get_or}
use borrow.Author.Tests.{eq-eqb, ne_eqb}
use Rattle.definitions.specs.Basics.{◌>>=◌, option, or_else}
use Rattle.definitions.specs.Limits.{costs, absent}
use Rattle.definitions.specs.Tree.{Tree, Sound}
use Rattle.definitions.specs.Book.{word, machine_field, node_field, tree_of, WellFormed}
use Rattle.definitions.specs.Merge.{rising, renumbered, beside}
use Rattle.definitions.proofs.Options.{equal_or_not}
use Rattle.definitions.proofs.Words.{present_word, absent_word, owner_range, below_range, start_range, holder_range}
use Rattle.mergetheory.proofs.Ranks.{moved_some}
use Rattle.numbering.specs.Tests.{Tells}
use Rattle.merging.specs.Merging.{size_of, moves_of, named_by, field_of, charge_of, beside_tree}
use Rattle.merging.specs.declared.Kind.{Kind}

-- ---- a number of the first, or else one of the second that moved

-- what may be there is a number under the limit
abbrev pub Small : ℕ → Option ℕ → Type 0
Small limit o = (n : ℕ) → o ≡ some n → n < limit

-- a word that is not absent is a number under the limit
pub present_small : (limit : ℕ) {w : ℕ} (o : Option ℕ) → Small limit o → w ≡ word o → (w ≡ absent → ⊥) → w < limit
present_small limit {w} o small said other = small w (present_word o said other)

-- an absent one is none
pub absent_none : {limit w : ℕ} (o : Option ℕ) → limit < absent → Small limit o → w ≡ word o → w ≡ absent → o ≡ none
absent_none o fits small said at = absent_word o (λ n e. omega (arith, small n e)) said at

-- The words X of records of one kind, at one place: each is of the first's number, or else of the number that the second has there for the record
-- that moved to it, moved too. Numbers in the records are under one limit, the records' own under another.
pub record Joins (X : ℕ → ℕ) (mine other from to : ℕ → Option ℕ) (limit size : ℕ) : Type 0 where
  pub fits : limit < absent
  pub room : size < absent
  pub mine_small : (i : ℕ) → Small limit (mine i)
  pub other_small : (i : ℕ) → Small limit (other i)
  pub from_small : (i : ℕ) → Small size (from i)
  pub says : (i : ℕ) → X i ≡ word (or_else (mine i) (from i >>= other >>= to))

module _ {X : ℕ → ℕ} {mine other from to : ℕ → Option ℕ} {limit size : ℕ} (j : Joins X mine other from to limit size) (i : ℕ) {own : ℕ}
    (said : own ≡ word (mine i)) where
  -- the first's own
  pub own_word : (own ≡ absent → ⊥) → own ≡ X i
  unfolding word
  own_word present = sym (j.says i ∙ rw (present_word (mine i) said present))

  module _ {d : ℕ} (off : own ≡ absent) (came : d ≡ word (from i)) where
    -- none moved there
    pub none_word : d ≡ absent → absent ≡ X i
    unfolding word
    none_word at =
        sym (j.says i ∙ rw (absent_none (mine i) j.fits (j.mine_small i) said off, absent_none (from i) j.room (j.from_small i) came at))

    -- the number of the one that moved there
    pub from_under : (d ≡ absent → ⊥) → d < size
    from_under present = present_small size (from i) (j.from_small i) came present

    -- its word, and that moved
    pub other_under : {w : ℕ} → w ≡ word (other d) → (w ≡ absent → ⊥) → w < limit
    other_under {w} told present = present_small limit (other d) (j.other_small d) told present

    pub moved_number : {w r : ℕ} {list : List ℕ} → (d ≡ absent → ⊥) → w ≡ word (other d) → Tells limit to list
        → r ≡ cond (eqb w absent) absent (get_or list w 0) → r ≡ X i
    unfolding word
    moved_number {w} {r} {list} present told tells result =
        rw (j.says i) (rw (absent_none (mine i) j.fits (j.mine_small i) said off, present_word (from i) came present) (result ∙ go (equal_or_not w absent)))
      where
        go : (w ≡ absent) ⊎ (w ≡ absent → ⊥) → cond (eqb w absent) absent (get_or list w 0) ≡ word (other d >>= to)
        go (inl at) = rw (eq-eqb w absent at, absent_none (other d) j.fits (j.other_small d) told at)
        go (inr not) = rw (ne_eqb w absent not, present_word (other d) told not) (tells.word w (other_under told not))

-- ---- machines and nodes

-- there are fewer numbers than the word for absent
pub size_fits : (kind : Kind) → size_of kind < absent
size_fits Kind.Machines = omega arith
size_fits Kind.Nodes = omega arith

-- the number at a place of a record, if there is one
abbrev pub number_at : Kind → Tree → ℕ → ℕ → Option ℕ
number_at Kind.Machines t m zero = t.holder m
number_at Kind.Machines t m (suc k) = t.start m
number_at Kind.Nodes t n zero = t.owner n
number_at Kind.Nodes t n (suc k) = t.below n

pub machine_number_lem : (t : Tree) (m k : ℕ) → machine_field t m k ≡ word (number_at Kind.Machines t m k)
machine_number_lem t m zero = refl
machine_number_lem t m (suc k) = refl

pub node_number_lem : (t : Tree) (n k : ℕ) → k < 2 → node_field t n k ≡ word (number_at Kind.Nodes t n k)
node_number_lem t n zero h = refl
node_number_lem t n (suc zero) h = refl
node_number_lem t n (suc (suc k)) h = absurd (omega arith)

pub number_at_lem : (kind : Kind) (t : Tree) (i k : ℕ) → k < 2 → field_of kind t i k ≡ word (number_at kind t i k)
number_at_lem Kind.Machines t m k h = machine_number_lem t m k
number_at_lem Kind.Nodes t n k h = node_number_lem t n k h

number_small : (kind : Kind) (t : Tree) → Sound t → (i k : ℕ) → Small (size_of (named_by kind)) (number_at kind t i k)
number_small Kind.Machines t s m zero n e = (holder_range t s m n e).1
number_small Kind.Machines t s m (suc k) n e = (start_range t s m n e).1
number_small Kind.Nodes t s n zero m e = (owner_range t s n m e).1
number_small Kind.Nodes t s n (suc k) m e = (below_range t s n m e).1

-- a number that moved, and one that came back, is under the limit
pub from_small : (limit : ℕ) (p q : ℕ → Bool) (k : ℕ) → Small limit ((rising limit p q).from k)
unfolding rising
from_small limit p q k d e = (moved_some limit q p k e).1.range

pub to_small : (limit : ℕ) (p q : ℕ → Bool) (d : ℕ) → Small limit ((rising limit p q).to d)
unfolding rising
to_small limit p q d k e = (moved_some limit p q d e).1.range

-- the two trees beside each other join them
module _ (first second : List ℕ) where
  beside_says : (kind : Kind) (s k i : ℕ) → k < 2
      → field_of kind (beside_tree first second s) i k
      ≡ word
      (or_else (number_at kind (tree_of first) i k)
      ((moves_of kind first second).from i >>= (λ d. number_at kind (tree_of second) d k) >>= (moves_of (named_by kind) first second).to))
  unfolding beside renumbered
  beside_says Kind.Machines s zero m h = refl
  beside_says Kind.Machines s (suc k) m h = refl
  beside_says Kind.Nodes s zero n h = refl
  beside_says Kind.Nodes s (suc zero) n h = refl
  beside_says Kind.Nodes s (suc (suc k)) n h = absurd (omega arith)

pub joins : (kind : Kind) {first second : List ℕ} → WellFormed first → WellFormed second → (s k : ℕ) → k < 2
    → Joins (λ i. field_of kind (beside_tree first second s) i k) (λ i. number_at kind (tree_of first) i k) (λ i. number_at kind (tree_of second) i k)
    (moves_of kind first second).from (moves_of (named_by kind) first second).to (size_of (named_by kind)) (size_of kind)
joins kind {first} {second} wf ws s k h =
    record {
      fits = size_fits (named_by kind);
      room = size_fits kind;
      mine_small = λ i. number_small kind (tree_of first) wf.sound i k;
      other_small = λ i. number_small kind (tree_of second) ws.sound i k;
      from_small = from_small (size_of kind) _ _;
      says = λ i. beside_says first second kind s k i h;
    }

-- ---- holds and leaving costs

-- The numbers X that are the first's and, added to it, what the second has for the record that moved there: one of the two is 0. All are small.
pub record Sums (X mine other : ℕ → ℕ) (from : ℕ → Option ℕ) (size : ℕ) : Type 0 where
  pub room : size < absent
  pub mine_small : (i : ℕ) → mine i < costs
  pub other_small : (i : ℕ) → other i < costs
  pub from_small : (i : ℕ) → Small size (from i)
  pub says : (i : ℕ) → X i ≡ mine i + option 0 other (from i)

module _ {X mine other : ℕ → ℕ} {from : ℕ → Option ℕ} {size : ℕ} (j : Sums X mine other from size) (i : ℕ) {own d : ℕ}
    (said : own ≡ mine i) (came : d ≡ word (from i)) where
  -- none moved there: the first's own
  pub sum_own : d ≡ absent → own ≡ X i
  sum_own at = rw (j.says i, absent_none (from i) j.room (j.from_small i) came at) (omega (arith, said))

  module _ (present : d ≡ absent → ⊥) where
    -- the number of the one that did
    pub sum_from : d < size
    sum_from = present_small size (from i) (j.from_small i) came present

    module _ {v : ℕ} (told : v ≡ other d) where
      -- its own beside the first's, a number that a word has room for
      pub sum_fits : own + v < 2 ^ 32
      sum_fits = omega (arith, said, told, j.mine_small i, j.other_small d)

      pub sum_moved : own + v ≡ X i
      sum_moved = rw (j.says i, present_word (from i) came present) (omega (arith, said, told))

charge_small : (kind : Kind) {ws : List ℕ} → WellFormed ws → (i : ℕ) → charge_of kind (tree_of ws) i < costs
charge_small Kind.Machines w m = w.sound.leave_range m
charge_small Kind.Nodes w n = omega (arith, w.sound.hold_range n)

charge_says : (first second : List ℕ) (kind : Kind) (s i : ℕ) → charge_of kind (beside_tree first second s) i
    ≡ charge_of kind (tree_of first) i + option 0 (charge_of kind (tree_of second)) ((moves_of kind first second).from i)
unfolding beside renumbered
charge_says first second Kind.Machines s m = refl
charge_says first second Kind.Nodes s n = refl

pub sums : (kind : Kind) {first second : List ℕ} → WellFormed first → WellFormed second → (s : ℕ)
    → Sums (charge_of kind (beside_tree first second s)) (charge_of kind (tree_of first)) (charge_of kind (tree_of second)) (moves_of kind first second).from
    (size_of kind)
sums kind {first} {second} wf ws s =
    record {
      room = size_fits kind;
      mine_small = charge_small kind wf;
      other_small = charge_small kind ws;
      from_small = from_small (size_of kind) _ _;
      says = charge_says first second kind s;
    }
