-- The stream, piece by piece, as it is stored: what is written of one node, from the words of a book.
-- Assumes nothing.
use mathlib.Core.Path.{◌≡◌, refl, sym, ◌∙◌, ap}
use mathlib.Core.Bool.{Bool, true, false, cond, not, ◌&&◌}
use mathlib.Core.Option.{Option, none, some}
use mathlib.Core.List.{[], List, ◌∷◌, ◌++◌}
use Prim.Native.Nat.{ℕ, suc, ◌+◌, ◌*◌, ◌≤◌, ◌<◌}
use native.Mathlib.Numerals.{add-one}
use native.Mathlib.Omega.{arith}
use lib.Dec.{eqb}
use lib.ListN.{length, length-append}
use borrow.Author.Tests.{eq-eqb, ne_eqb}
use Rattle.definitions.specs.Basics.{option, joined}
use Rattle.definitions.specs.Limits.{machines, nodes, commands, levels}
use Rattle.definitions.specs.Tree.{Tree, Transition, UsedNode, Sound, on_hold, level}
use Rattle.definitions.specs.Edit.{is_start}
use Rattle.definitions.specs.Book.{word}
use Rattle.definitions.specs.Write.{pair, written_begin, written_add, written_refine, written_arrow, written_hold, written_leave, written}
use Rattle.definitions.proofs.Words.{start_range}
use Rattle.storing.proofs.Pieces.{joined_short}
use Rattle.writing.specs.Meaning.{written_level, written_arrows}

-- ---- what may be absent, as a list

-- at most as long as what is there
option_short : {A B : Type 0} (w : ℕ) (f : A → List B) (o : Option A) → ((a : A) → length (f a) ≤ w) → length (option [] f o) ≤ w
option_short w f none h = omega arith
option_short w f (some a) h = h a

-- the same for a test
cond_short : {B : Type 0} (w : ℕ) (b : Bool) (xs ys : List B) → length xs ≤ w → length ys ≤ w → length (cond b xs ys) ≤ w
cond_short w true xs ys h k = h
cond_short w false xs ys h k = k

-- empty where what is there is empty
option_empty : {A B : Type 0} (f : A → List B) (o : Option A) → ((a : A) → f a ≡ []) → option [] f o ≡ []
option_empty f none h = refl
option_empty f (some a) h = h a

-- ---- what is written of one node

module _ (t : Tree) (l n : ℕ) where
  -- add: nothing for a node that is not in use
  pub add_unused : t.owner n ≡ none → written_add t l n ≡ []
  unfolding written_add
  add_unused e = rw e

  -- nothing for one at another level
  pub add_other : (level t n ≡ l → ⊥) → written_add t l n ≡ []
  unfolding written_add
  add_other other = rw (ne_eqb (level t n) l other) (option_empty (λ m. []) (t.owner n) (λ m. refl))

  module _ {m f : ℕ} (own : t.owner n ≡ some m) (st : t.start m ≡ some f) (here : level t n ≡ l) where
    -- nothing for a start node
    pub add_start : f ≡ n → written_add t l n ≡ []
    unfolding written_add
    add_start first = rw (own, st, eq-eqb f n first, eq-eqb (level t n) l here)

    -- and else its bytes
    pub add_node : (f ≡ n → ⊥) → 0x11 ∷ m ∷ pair n ≡ written_add t l n
    unfolding written_add
    add_node other = sym (rw (own, st, ne_eqb f n other, eq-eqb (level t n) l here))

  -- refine: nothing for a plain node
  pub refine_plain : t.below n ≡ none → written_refine t l n ≡ []
  unfolding written_refine
  refine_plain e = rw e

  -- nothing for one at another level
  pub refine_other : (level t n ≡ l → ⊥) → written_refine t l n ≡ []
  unfolding written_refine
  refine_other other =
      rw (ne_eqb (level t n) l other)
      (option_empty (λ m. option [] (λ f. []) (t.start m)) (t.below n) (λ m. option_empty (λ f. []) (t.start m) (λ f. refl)))

  -- and else its bytes
  pub refine_node : {m f : ℕ} → t.below n ≡ some m → t.start m ≡ some f → level t n ≡ l
      → 0x12 ∷ (pair n ++ m ∷ pair f) ≡ written_refine t l n
  unfolding written_refine
  refine_node {m} {f} bel st here = sym (rw (bel, st, eq-eqb (level t n) l here))

-- arrow: nothing where there is no transition
pub arrow_none : (t : Tree) (n x : ℕ) → t.transition n x ≡ none → written_arrow t n x ≡ []
unfolding written_arrow
arrow_none t n x e = rw e

-- and else its bytes
pub arrow_node : (t : Tree) (n x : ℕ) {a : Transition} → t.transition n x ≡ some a
    → 0x14 ∷ (pair n ++ x ∷ (pair a.target ++ pair a.cost)) ≡ written_arrow t n x
unfolding written_arrow
arrow_node t n x e = sym (rw e)

-- begin: the root and its start node
pub begin_root : (t : Tree) {f : ℕ} → t.start t.root ≡ some f → 0x10 ∷ t.root ∷ pair f ≡ written_begin t
unfolding written_begin
begin_root t e = sym (rw e)

-- an add has at most 4 bytes
pub add_short : (t : Tree) (l n : ℕ) → length (written_add t l n) ≤ 4
unfolding written_add
add_short t l n =
    option_short 4 (λ m. cond (eqb (level t n) l && not (is_start t n)) (0x11 ∷ m ∷ pair n) []) (t.owner n)
    (λ m. cond_short 4 (eqb (level t n) l && not (is_start t n)) (0x11 ∷ m ∷ pair n) [] (omega arith) (omega arith))

-- a refine at most 6
pub refine_short : (t : Tree) (l n : ℕ) → length (written_refine t l n) ≤ 6
unfolding written_refine
refine_short t l n =
    option_short 6 (λ m. option [] (λ f. cond (eqb (level t n) l) (0x12 ∷ (pair n ++ m ∷ pair f)) []) (t.start m)) (t.below n)
    (λ m.
    option_short 6 (λ f. cond (eqb (level t n) l) (0x12 ∷ (pair n ++ m ∷ pair f)) []) (t.start m)
    (λ f. cond_short 6 (eqb (level t n) l) (0x12 ∷ (pair n ++ m ∷ pair f)) [] (omega arith) (omega arith)))

-- an arrow at most 8
pub arrow_short : (t : Tree) (n x : ℕ) → length (written_arrow t n x) ≤ 8
unfolding written_arrow
arrow_short t n x =
    option_short 8 (λ a. 0x14 ∷ (pair n ++ x ∷ (pair a.target ++ pair a.cost))) (t.transition n x) (λ a. omega arith)

-- a hold at most 4
pub hold_short : (t : Tree) (n : ℕ) → length (written_hold t n) ≤ 4
unfolding written_hold
hold_short t n = cond_short 4 (on_hold t n) (0x1A ∷ (pair n ++ 1 ∷ [])) [] (omega arith) (omega arith)

-- a node that is held, and one that is not
pub hold_node : (t : Tree) (n : ℕ) {h : ℕ} → h ≡ t.hold n → h ≡ 1 → 0x1A ∷ (pair n ++ 1 ∷ []) ≡ written_hold t n
unfolding written_hold
hold_node t n says one = rw (← says, one)

pub hold_none : (t : Tree) (n : ℕ) {h : ℕ} → h ≡ t.hold n → (h ≡ 1 → ⊥) → written_hold t n ≡ []
unfolding written_hold
hold_none t n {h} says other = rw (← says, ne_eqb h 1 other)

-- a leave at most 4
pub leave_short : (t : Tree) (m : ℕ) → length (written_leave t m) ≤ 4
unfolding written_leave
leave_short t m = cond_short 4 (eqb (t.leave m) 0) [] (0x1B ∷ m ∷ pair (t.leave m)) (omega arith) (omega arith)

-- a machine whose leaving is charged, and one that is left for nothing
pub leave_machine : (t : Tree) (m : ℕ) {v : ℕ} → v ≡ t.leave m → (v ≡ 0 → ⊥) → 0x1B ∷ m ∷ pair v ≡ written_leave t m
unfolding written_leave
leave_machine t m {v} says charged = rw (← says, ne_eqb v 0 charged)

pub leave_none : (t : Tree) (m : ℕ) {v : ℕ} → v ≡ t.leave m → v ≡ 0 → written_leave t m ≡ []
unfolding written_leave
leave_none t m says free = rw (← says, free)

-- the adds of a level
pub adds_short : (t : Tree) (l : ℕ) → length (joined nodes (written_add t l)) ≤ nodes * 4
adds_short t l = joined_short 4 nodes (written_add t l) (add_short t l)

-- the refines of a level
refines_short : (t : Tree) (l : ℕ) → length (joined nodes (written_refine t l)) ≤ nodes * 6
refines_short t l = joined_short 6 nodes (written_refine t l) (refine_short t l)

-- a level
pub level_short : (t : Tree) (l : ℕ) → length (written_level t l) ≤ 2560
level_short t l = rw length-append (omega (arith, adds_short t (suc l), refines_short t (suc l)))

-- the arrows of a node
pub arrows_short : (t : Tree) (n : ℕ) → length (written_arrows t n) ≤ 128
arrows_short t n = omega (arith, joined_short 8 commands (written_arrow t n) (arrow_short t n))

-- one level, as the loop counts them
pub level_pieces : (t : Tree) (l : ℕ) → joined nodes (written_add t (l + 1)) ++ joined nodes (written_refine t (l + 1)) ≡ written_level t l
level_pieces t l = rw add-one

-- ---- the words of machines in use

-- the word of what is there
told : (o : Option ℕ) {a w : ℕ} → o ≡ some a → w ≡ word o → o ≡ some w
unfolding word
told o {a} {w} there e = there ∙ ap some (sym (e ∙ ap word there))

-- a node that holds a machine is in use
pub refined_used : {t : Tree} → Sound t → {n m : ℕ} → t.below n ≡ some m → UsedNode t n
refined_used s {n} {m} bel = s.holder_used m n (s.below_held n m bel)

module _ {t : Tree} (s : Sound t) {n m w : ℕ} where
  -- the start node of the machine that a node belongs to
  pub start_of_owner : t.owner n ≡ some m → w ≡ word (t.start m) → t.start m ≡ some w
  start_of_owner own e = told (t.start m) (s.owner_used n m own).1 e

  -- the start node of the machine that a node holds
  pub start_of_below : t.below n ≡ some m → w ≡ word (t.start m) → t.start m ≡ some w
  start_of_below bel e = told (t.start m) (s.held_used m n (s.below_held n m bel)).1 e

-- ---- the whole stream

-- the root is in range
pub root_range : {t : Tree} → Sound t → {m : ℕ} → m ≡ t.root → m < machines
root_range {t} s e = let (f, st) = s.root_used in rw e (start_range t s t.root f st).0

-- its start node, from the words
pub root_start : {t : Tree} → Sound t → {m f : ℕ} → m ≡ t.root → f ≡ word (t.start m) → t.start t.root ≡ some f
root_start {t} s e w = told (t.start t.root) s.root_used.1 (w ∙ ap (λ (k : ℕ). word (t.start k)) e)

-- all levels
pub levels_short : (t : Tree) → length (joined levels (written_level t)) ≤ levels * 2560
levels_short t = joined_short 2560 levels (written_level t) (level_short t)

-- all transitions
pub all_arrows_short : (t : Tree) → length (joined nodes (written_arrows t)) ≤ nodes * 128
all_arrows_short t = joined_short 128 nodes (written_arrows t) (arrows_short t)

-- all holds
pub all_holds_short : (t : Tree) → length (joined nodes (written_hold t)) ≤ nodes * 4
all_holds_short t = joined_short 4 nodes (written_hold t) (hold_short t)

-- what follows begin: the levels, the transitions, the holds, the leaving costs
abbrev rest : Tree → List ℕ
rest t =
    joined levels (written_level t)
    ++ (joined nodes (written_arrows t) ++ (joined nodes (written_hold t) ++ joined machines (written_leave t)))

pub whole_stream : (t : Tree) {m f : ℕ} → m ≡ t.root → t.start t.root ≡ some f → (0x10 ∷ m ∷ pair f) ++ rest t ≡ written t
unfolding written
whole_stream t {m} {f} e st =
    ap (λ (k : ℕ). (0x10 ∷ k ∷ pair f) ++ rest t) e ∙ ap (λ (b : List ℕ). b ++ rest t) (begin_root t st)
