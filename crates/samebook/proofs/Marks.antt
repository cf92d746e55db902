-- Rows as an opening has them, every machine in use marked and all blank: begin leaves such rows whatever they were, and the
-- commands that Write gives after it keep them so. Assumes nothing.
use mathlib.Core.Path.{◌≡◌, refl}
use mathlib.Core.Bool.{Bool, true, false, cond, not, ◌&&◌, ◌||◌, or-true}
use mathlib.Core.Option.{Option, none, some}
use Prim.Native.Nat.{ℕ}
use lib.Dec.{eqb}
use borrow.Author.Tests.{eq-eqb}
use Rattle.definitions.specs.Basics.{option, unless, is_some}
use Rattle.definitions.specs.Tree.{Tree, used_machine, over}
use Rattle.definitions.specs.Sheet.{Rows}
use Rattle.definitions.specs.Stream.{Edit, begin, add, refine, arrow, hold, leave}
use Rattle.definitions.specs.Edit.{single, with_transition, edited, touches, with_stale, edited_rows}
use Rattle.definitions.specs.Open.{open_rows}
use Rattle.definitions.proofs.Words.{same_rows}
use Rattle.definitions.proofs.Commands.{unless_none}
use Rattle.samebook.proofs.Taken.{StaysOpen}

-- a test that follows from another adds nothing to it
and_follows : (a : Bool) {b : Bool} → (a ≡ true → b ≡ true) → (a && b) ≡ a
and_follows true h = h refl
and_follows false h = refl

-- begin leaves one machine, marked, and blanks all
pub begin_opens : (t : Tree) (r : Rows) (m n : ℕ) → edited_rows t (begin m n) r ≡ open_rows (edited t (begin m n))
unfolding edited edited_rows touches single with_stale open_rows
begin_opens t r m n =
    same_rows (edited_rows t (begin m n) r) (open_rows (edited t (begin m n))) (λ p. mark (eqb p m) (r.stale p))
    (λ p x. machine (eqb p m) (r.exit p x)) (λ p x. machine (eqb p m) (r.last p x)) (λ k. node (eqb k n) (r.cost k))
    (λ k. node (eqb k n) (r.before k)) (λ k. node (eqb k n) (r.by k))
  where
    mark : (b c : Bool) → (is_some (cond b (some n) none) && (b || c)) ≡ is_some (cond b (some n) none)
    mark true c = refl
    mark false c = refl

    machine : (b : Bool) (v : Option ℕ) → unless (not (is_some (cond b (some n) none)) || b) v ≡ none
    machine true v = refl
    machine false v = refl

    node : (b : Bool) (v : Option ℕ) → unless (option true (λ p. eqb p m) (cond b (some m) none)) v ≡ none
    node true v = rw (eq-eqb m m refl)
    node false v = refl

-- an edit that touches the machines that it brings keeps rows as an opening has them
stays_open : (t : Tree) (e : Edit) → ((p : ℕ) → used_machine (edited t e) p ≡ true → (touches t e p || used_machine t p) ≡ true)
    → StaysOpen t e
unfolding edited_rows with_stale open_rows
stays_open t e brought =
    same_rows (edited_rows t e (open_rows t)) (open_rows (edited t e)) (λ p. and_follows (used_machine (edited t e) p) (brought p))
    (λ p x. unless_none (not (used_machine (edited t e) p) || touches t e p))
    (λ p x. unless_none (not (used_machine (edited t e) p) || touches t e p))
    (λ k. unless_none (option true (touches t e) ((edited t e).owner k)))
    (λ k. unless_none (option true (touches t e) ((edited t e).owner k)))
    (λ k. unless_none (option true (touches t e) ((edited t e).owner k)))

-- add
pub add_opens : (t : Tree) (m n : ℕ) → StaysOpen t (add m n)
unfolding edited
add_opens t m n = stays_open t (add m n) (λ p used. rw used (or-true (touches t (add m n) p)))

-- refine
pub refine_opens : (t : Tree) (n m s : ℕ) → StaysOpen t (refine n m s)
unfolding edited touches
refine_opens t n m s = stays_open t (refine n m s) (λ p used. brought (eqb p m) (over t p n) (t.start p) used)
  where
    brought : (b c : Bool) (o : Option ℕ) → is_some (cond b (some s) o) ≡ true → (b || c || is_some o) ≡ true
    brought true c o e = refl
    brought false c o e = rw e (or-true c)

-- arrow
pub arrow_opens : (t : Tree) (n x v c : ℕ) → StaysOpen t (arrow n x v c)
unfolding edited with_transition
arrow_opens t n x v c = stays_open t (arrow n x v c) (λ p used. rw used (or-true (touches t (arrow n x v c) p)))

-- hold
pub hold_opens : (t : Tree) (n b : ℕ) → StaysOpen t (hold n b)
unfolding edited
hold_opens t n b = stays_open t (hold n b) (λ p used. rw used (or-true (touches t (hold n b) p)))

-- leave
pub leave_opens : (t : Tree) (m c : ℕ) → StaysOpen t (leave m c)
unfolding edited
leave_opens t m c = stays_open t (leave m c) (λ p used. rw used (or-true (touches t (leave m c) p)))
