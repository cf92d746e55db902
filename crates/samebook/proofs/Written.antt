-- The stream that Write gives, place by place: what stands at each place, and how a law of its pieces becomes one of the whole.
-- Assumes nothing.
use mathlib.Core.Path.{◌≡◌, refl, sym, subst}
use mathlib.Core.Bool.{Bool, true, false}
use mathlib.Core.Option.{Option, none, some}
use mathlib.Core.List.{[], List, ◌∷◌, ◌++◌}
use Prim.Native.Nat.{ℕ, zero, suc, ◌+◌, ◌*◌, ◌<◌}
use native.Mathlib.Nat.{add-zero, add-suc, zero-lt-suc}
use native.Mathlib.Omega.{arith}
use lib.Dec.{eqb}
use borrow.Author.Tests.{eqb-true, eqb-false}
use Rattle.definitions.specs.Basics.{is_at, joined}
use Rattle.definitions.specs.Limits.{machines, nodes, commands, levels}
use Rattle.definitions.specs.Tree.{Tree, Transition, Sound, on_hold, level}
use Rattle.definitions.specs.Write.{pair, written_begin, written_add, written_refine, written_arrow, written_hold, written_leave, written}
use Rattle.definitions.proofs.Options.{none_some, some_same, true_false, is_at_true, is_at_some}
use Rattle.definitions.proofs.Words.{hold_zero}
use Rattle.samebook.proofs.Clock.{add_at, refine_at, arrow_at, hold_at, leave_at, after_begin, after_levels, after_arrows, after_holds, after_all}

-- ---- what stands at a place

-- an add: of a node that belongs to a machine of the level and is not its start
pub data AddCase (t : Tree) (l n : ℕ) : Type 0 where
  no_add : written_add t l n ≡ [] → ((m : ℕ) → t.owner n ≡ some m → (t.start m ≡ some n → ⊥) → level t n ≡ l → ⊥) → AddCase t l n
  one_add : {m : ℕ} → written_add t l n ≡ 0x11 ∷ m ∷ pair n → t.owner n ≡ some m → (t.start m ≡ some n → ⊥)
      → level t n ≡ l → AddCase t l n

pub add_case : (t : Tree) (l n : ℕ) → AddCase t l n
unfolding written_add
add_case t l n = owned (t.owner n) refl
  where
    tested : (m : ℕ) → t.owner n ≡ some m → (b c : Bool) → eqb (level t n) l ≡ b → is_at (t.start m) n ≡ c → AddCase t l n
    tested m own false c at first = no_add (rw (own, at)) (λ p e other here. eqb-false (level t n) l at here)
    tested m own true true at first =
        no_add (rw (own, at, first)) (λ p e other here. other (rw (some_same own e) at (is_at_true (t.start m) n first)))
    tested m own true false at first =
        one_add {m = m} (rw (own, at, first)) own (λ e. true_false (is_at_some n n e refl) first) (eqb-true (level t n) l at)

    owned : (o : Option ℕ) → t.owner n ≡ o → AddCase t l n
    owned none e = no_add (rw e) (λ m own other at. none_some e own)
    owned (some m) e = tested m e (eqb (level t n) l) (is_at (t.start m) n) refl refl

-- a refine: of a node that holds a machine and stands at the level
pub data RefineCase (t : Tree) (l n : ℕ) : Type 0 where
  no_refine : written_refine t l n ≡ [] → ((b : ℕ) → t.below n ≡ some b → level t n ≡ l → ⊥) → RefineCase t l n
  one_refine : {b f : ℕ} → written_refine t l n ≡ 0x12 ∷ (pair n ++ b ∷ pair f) → t.below n ≡ some b → t.start b ≡ some f
      → level t n ≡ l → RefineCase t l n

pub refine_case : {t : Tree} → Sound t → (l n : ℕ) → RefineCase t l n
unfolding written_refine
refine_case {t} s l n = holding (t.below n) refl
  where
    tested : (b f : ℕ) → t.below n ≡ some b → t.start b ≡ some f → (c : Bool) → eqb (level t n) l ≡ c → RefineCase t l n
    tested b f holds first false at = no_refine (rw (holds, first, at)) (λ m e here. eqb-false (level t n) l at here)
    tested b f holds first true at =
        one_refine {b = b} {f = f} (rw (holds, first, at)) holds first (eqb-true (level t n) l at)

    holding : (o : Option ℕ) → t.below n ≡ o → RefineCase t l n
    holding none e = no_refine (rw e) (λ b holds at. none_some e holds)
    holding (some b) e =
        let (f, first) = s.held_used b n (s.below_held n b e) in
        tested b f e first (eqb (level t n) l) refl

-- an arrow: of a node and a command that have a transition
pub data ArrowCase (t : Tree) (n x : ℕ) : Type 0 where
  no_arrow : written_arrow t n x ≡ [] → t.transition n x ≡ none → ArrowCase t n x
  one_arrow : {a : Transition} → written_arrow t n x ≡ 0x14 ∷ (pair n ++ x ∷ (pair a.target ++ pair a.cost))
      → t.transition n x ≡ some a → ArrowCase t n x

pub arrow_case : (t : Tree) (n x : ℕ) → ArrowCase t n x
unfolding written_arrow
arrow_case t n x = drawn (t.transition n x) refl
  where
    drawn : (o : Option Transition) → t.transition n x ≡ o → ArrowCase t n x
    drawn none e = no_arrow (rw e) e
    drawn (some a) e = one_arrow {a = a} (rw e) e

-- a hold: of a node that is held
pub data HoldCase (t : Tree) (n : ℕ) : Type 0 where
  no_hold : written_hold t n ≡ [] → t.hold n ≡ 0 → HoldCase t n
  one_hold : written_hold t n ≡ 0x1A ∷ (pair n ++ 1 ∷ []) → t.hold n ≡ 1 → HoldCase t n

pub hold_case : {t : Tree} → Sound t → (n : ℕ) → HoldCase t n
unfolding written_hold
hold_case {t} s n = tested (on_hold t n) refl
  where
    tested : (b : Bool) → on_hold t n ≡ b → HoldCase t n
    tested true e = one_hold (rw e) (eqb-true (t.hold n) 1 e)
    tested false e = no_hold (rw e) (hold_zero t s n e)

-- a leave: of a machine that it costs something to leave
pub data LeaveCase (t : Tree) (m : ℕ) : Type 0 where
  no_leave : written_leave t m ≡ [] → t.leave m ≡ 0 → LeaveCase t m
  one_leave : written_leave t m ≡ 0x1B ∷ m ∷ pair (t.leave m) → (t.leave m ≡ 0 → ⊥) → LeaveCase t m

pub leave_case : (t : Tree) (m : ℕ) → LeaveCase t m
unfolding written_leave
leave_case t m = tested (eqb (t.leave m) 0) refl
  where
    tested : (b : Bool) → eqb (t.leave m) 0 ≡ b → LeaveCase t m
    tested true e = no_leave (rw e) (eqb-true (t.leave m) 0 e)
    tested false e = one_leave (rw e) (eqb-false (t.leave m) 0 e)

-- ---- from the pieces to the whole

-- what follows begin
unfoldable pub body : Tree → List ℕ
body t =
    joined levels (λ l. joined nodes (written_add t (suc l)) ++ joined nodes (written_refine t (suc l)))
    ++ (joined nodes (λ n. joined commands (written_arrow t n)) ++ (joined nodes (written_hold t) ++ joined machines (written_leave t)))

-- the stream is begin and the body
pub written_parts : (t : Tree) {f : ℕ} → t.start t.root ≡ some f → written t ≡ 0x10 ∷ t.root ∷ (pair f ++ body t)
unfolding written written_begin body
written_parts t first = rw first

-- a relation between two places and the bytes between them that holds of no bytes, and of two pieces in a row if of each
pub record Piecewise (R : ℕ → List ℕ → ℕ → Type 0) : Type 0 where
  pub empty : (a : ℕ) → R a [] a
  pub both : (a b c : ℕ) (xs ys : List ℕ) → R a xs b → R b ys c → R a (xs ++ ys) c

module _ {R : ℕ → List ℕ → ℕ → Type 0} (r : Piecewise R) where
  -- it holds of lists one after the other if of each
  joined_all : (k : ℕ) (f : ℕ → List ℕ) (g : ℕ → ℕ) → ((i : ℕ) → i < k → R (g i) (f i) (g (suc i))) → R (g 0) (joined k f) (g k)
  unfolding joined
  joined_all zero f g each = r.empty (g 0)
  joined_all (suc k) f g each =
      r.both (g 0) (g 1) (g (suc k)) (f 0) (joined k (λ i. f (suc i))) (each 0 (zero-lt-suc k))
      (joined_all k (λ i. f (suc i)) (λ i. g (suc i)) (λ i small. each (suc i) (omega arith)))

  -- in particular where each takes one place, from place a
  joined_ones : (k a : ℕ) (f : ℕ → List ℕ) → ((i : ℕ) → i < k → R (a + i) (f i) (suc (a + i))) → R a (joined k f) (a + k)
  joined_ones k a f each =
      subst (λ (b : ℕ). R b (joined k f) (a + k)) (add-zero a)
      (joined_all k f (λ i. a + i) (λ i small. subst (R (a + i) (f i)) (sym (add-suc a i)) (each i small)))

  -- and so of the whole body, if of what stands at each place
  pub body_all : (t : Tree)
      → ((l i : ℕ) → l < levels → i < nodes → R (add_at (suc l) i) (written_add t (suc l) i) (suc (add_at (suc l) i)))
      → ((l i : ℕ) → l < levels → i < nodes → R (refine_at (suc l) i) (written_refine t (suc l) i) (suc (refine_at (suc l) i)))
      → ((n x : ℕ) → n < nodes → x < commands → R (arrow_at n x) (written_arrow t n x) (suc (arrow_at n x)))
      → ((n : ℕ) → n < nodes → R (hold_at n) (written_hold t n) (suc (hold_at n)))
      → ((m : ℕ) → m < machines → R (leave_at m) (written_leave t m) (suc (leave_at m)))
      → R after_begin (body t) after_all
  unfolding body
  body_all t adds refines arrows holds leaves =
      r.both after_begin after_levels after_all
      (joined levels (λ l. joined nodes (written_add t (suc l)) ++ joined nodes (written_refine t (suc l))))
      (joined nodes (λ n. joined commands (written_arrow t n)) ++ (joined nodes (written_hold t) ++ joined machines (written_leave t)))
      (joined_all levels (λ l. joined nodes (written_add t (suc l)) ++ joined nodes (written_refine t (suc l))) (λ l. suc l * 512)
      (λ l high.
      r.both (suc l * 512) (suc l * 512 + 256) (suc (suc l) * 512) (joined nodes (written_add t (suc l)))
      (joined nodes (written_refine t (suc l)))
      (joined_ones nodes (suc l * 512) (written_add t (suc l)) (λ i small. adds l i high small))
      (subst (R (suc l * 512 + 256) (joined nodes (written_refine t (suc l)))) (omega arith)
      (joined_ones nodes (suc l * 512 + 256) (written_refine t (suc l)) (λ i small. refines l i high small)))))
      (r.both after_levels after_arrows after_all (joined nodes (λ n. joined commands (written_arrow t n)))
      (joined nodes (written_hold t) ++ joined machines (written_leave t))
      (joined_all nodes (λ n. joined commands (written_arrow t n)) (λ n. 4608 + n * 16)
      (λ n small.
      subst (R (4608 + n * 16) (joined commands (written_arrow t n))) (omega arith)
      (joined_ones commands (4608 + n * 16) (written_arrow t n) (λ x known. arrows n x small known))))
      (r.both after_arrows after_holds after_all (joined nodes (written_hold t)) (joined machines (written_leave t))
      (joined_ones nodes after_arrows (written_hold t) holds) (joined_ones machines after_holds (written_leave t) leaves)))
