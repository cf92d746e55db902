-- Of a table at most one tree comes, and so of every opening (document 02, W-208). Assumes nothing.
use mathlib.Core.Path.{◌≡◌, refl, sym, ◌∙◌, ap}
use mathlib.Core.Bool.{Bool, true, false, cond}
use mathlib.Core.Option.{Option, none, some}
use mathlib.Core.List.{List}
use Prim.Native.Nat.{ℕ, zero, suc, ◌<◌}
use native.Mathlib.Omega.{arith}
use Rattle.definitions.specs.Tree.{Tree, Transition, Sound}
use Rattle.definitions.specs.Book.{number}
use Rattle.definitions.specs.Edit.{is_start}
use Rattle.definitions.specs.Open.{row_count, cell, NextLower, Neighbour, Claimed, fresh, ladder, table, ComesOne}
use Rattle.definitions.proofs.Options.{none_some, is_at_true, is_at_some}
use Rattle.definitions.proofs.Words.{under_some, same_tree}
use Rattle.definitions.proofs.Path.{Deep, at_root, under, deep}

-- two options that hold the same values are one
pub same_option : {A : Type 0} (o p : Option A) → ((a : A) → o ≡ some a → p ≡ some a) → ((a : A) → p ≡ some a → o ≡ some a) → o ≡ p
same_option none none there back = refl
same_option none (some b) there back = back b refl
same_option (some a) p there back = sym (there a refl)

-- 1 is for a test that holds
pub marked : (b : Bool) → ◌≡◌ {A = ℕ} (cond b 1 0) 1 → b ≡ true
marked true e = refl
marked false e = absurd (omega arith)

-- a start node of a tree is one by its own record
pub starts_own : (t : Tree) {m s : ℕ} → t.owner s ≡ some m → t.start m ≡ some s → is_start t s ≡ true
starts_own t {m} {s} own e = rw own (is_at_some s s e refl)

pub own_starts : (t : Tree) {m s : ℕ} → t.owner s ≡ some m → is_start t s ≡ true → t.start m ≡ some s
own_starts t {m} {s} own e = is_at_true (t.start m) s (rw own at e)

module _ (rows : List ℕ) (t u : Tree) (one : Claimed rows t) (two : Claimed rows u) where
  owners : (n : ℕ) → t.owner n ≡ u.owner n
  owners n = one.owner n ∙ sym (two.owner n)

  belows : (n : ℕ) → t.below n ≡ u.below n
  belows n = one.below n ∙ sym (two.below n)

  -- what leads to a neighbour in one leads there in the other
  lower_there : (n v : ℕ) → NextLower t n v → NextLower u n v
  lower_there n v next =
      let (m, own) = next.in_use in
      record {
        lower = next.lower;
        in_use = (m, sym (owners n) ∙ own);
        same = sym (owners v) ∙ next.same ∙ owners n;
        between = λ j above under e. next.between j above under (owners j ∙ e ∙ sym (owners n));
      }

  neighbour_there : (n x v : ℕ) → Neighbour t n x v → Neighbour u n x v
  neighbour_there n zero v next = lower_there n v next
  neighbour_there n (suc zero) v next = lower_there v n next
  neighbour_there n (suc (suc x)) v next = next

  transition_there : (n x : ℕ) (a : Transition) → t.transition n x ≡ some a → u.transition n x ≡ some a
  transition_there n x a e =
      let (next, cost) = one.leads n x a e in
      two.reaches n x a.target (neighbour_there n x a.target next)
      ∙ ap (λ (c : ℕ). some (record { target = a.target; cost = c })) (sym cost)

  module _ (s : Sound t) (z : Sound u) where
    start_there : (m f : ℕ) → t.start m ≡ some f → u.start m ≡ some f
    start_there m f e =
        let own : t.owner f ≡ some m = s.start_owned m f e in
        let row : f < row_count rows = (under_some (row_count rows) f (number (cell rows f 0)) (sym (one.owner f) ∙ own)).0 in
        let said : cell rows f 2 ≡ 1 = one.start f row ∙ ap (λ (b : Bool). cond b 1 0) (starts_own t own e) in
        own_starts u (sym (owners f) ∙ own) (marked (is_start u f) (sym (two.start f row) ∙ said))

    holder_there : (m n : ℕ) → t.holder m ≡ some n → u.holder m ≡ some n
    holder_there m n e = z.below_held n m (sym (belows n) ∙ s.held_below m n e)

-- the rows claim one transition of a node for a command
pub transitions_one : (rows : List ℕ) (t u : Tree) → Claimed rows t → Claimed rows u → (n x : ℕ) → t.transition n x ≡ u.transition n x
transitions_one rows t u one two n x =
    same_option (t.transition n x) (u.transition n x) (transition_there rows t u one two n x) (transition_there rows u t two one n x)

-- of a table comes one tree
module _ (rows : List ℕ) (t u : Tree) (one : Claimed rows t) (s : Sound t) (two : Claimed rows u) (z : Sound u) where
  roots : t.root ≡ u.root
  roots =
      let (f, e) = s.root_used in
      go (deep z (start_there rows t u one two s z t.root f e)).2
    where
      go : {k : ℕ} → Deep u t.root k → t.root ≡ u.root
      go (at_root e) = e
      go (under {h = h} up own way) = absurd (none_some s.root_free (holder_there rows u t two one z s t.root h up))

  table_one : t ≡ u
  table_one =
      same_tree t u roots (owners rows t u one two) (belows rows t u one two)
      (λ m. same_option (t.start m) (u.start m) (start_there rows t u one two s z m) (start_there rows u t two one z s m))
      (λ m. same_option (t.holder m) (u.holder m) (holder_there rows t u one two s z m) (holder_there rows u t two one z s m))
      (transitions_one rows t u one two)
      (λ n. one.hold n ∙ sym (two.hold n)) (λ m. one.leave m ∙ sym (two.leave m))

-- and so of every opening
pub comes_one : ComesOne
comes_one fresh t u one two = one ∙ sym two
comes_one ladder t u one two = one ∙ sym two
comes_one (table rows) t u (one, s) (two, z) = table_one rows t u one s two z
