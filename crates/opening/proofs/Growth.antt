-- The rows of a table written one after the other: the tree of the first n rows, with what row n says written, is the tree of n + 1 rows.
-- Assumes nothing.
use mathlib.Core.Path.{◌≡◌, refl, sym, ◌∙◌, ap, fun_ext}
use mathlib.Core.Logic.{⊎_elim}
use mathlib.Core.Bool.{Bool, true, false, cond, ◌&&◌, and-true, and-false}
use mathlib.Core.Option.{Option, none, some}
use mathlib.Core.List.{List}
use Prim.Native.Nat.{ℕ, zero, suc, ◌≤◌, ◌<◌}
use native.Mathlib.Omega.{arith}
use lib.Dec.{eqb, ltb}
use borrow.Author.Tests.{ltb-true, ltb-false, lt-ltb, le-ltb, eq-eqb, ne_eqb}
use Rattle.definitions.specs.Basics.{is_at, put}
use Rattle.definitions.specs.Limits.{machines, nodes, absent}
use Rattle.definitions.specs.Tree.{Tree, Transition, with_owner, with_below}
use Rattle.definitions.specs.Book.{word, number, under, tree_of}
use Rattle.definitions.specs.Edit.{with_transition}
use Rattle.definitions.specs.Open.{cell}
use Rattle.opening.specs.Rows.{last_under, row_owner, row_below, row_start, next_lower, neighbour, linked, grown}
use Rattle.definitions.proofs.Options.{equal_or_not, put_same, put_other, bind_some, is_at_some, is_at_other}
use Rattle.definitions.proofs.Words.{under_in}
use Rattle.book.specs.Fields.{Holds}
use Rattle.opening.specs.Writes.{with_held, with_started, with_links}
use Rattle.opening.proofs.Last.{last_pass, last_skip, last_under_lem}
use Rattle.opening.proofs.Reading.{says}

-- ---- one row more

-- past the limit nothing is there
pub under_out : {A : Type 0} (k n : ℕ) (o : Option A) → k ≤ n → under k n o ≡ none
unfolding under
under_out k n o h = rw (le-ltb n k h)

-- nor is there what is not there, under any limit
pub under_none : {A : Type 0} (k n : ℕ) → under {A = A} k n none ≡ none
unfolding under
under_none {A} k n = go (ltb n k)
  where
    go : (b : Bool) → ◌≡◌ {A = Option A} (cond b none none) none
    go true = refl
    go false = refl

-- what the first k rows say, with what row k says, is what the first k + 1 rows say
under_more : {A : Type 0} (f : ℕ → Option A) (k n : ℕ) → put (λ i. under k i (f i)) k (f k) n ≡ under (suc k) n (f n)
unfolding under
under_more f k n =
    ⊎_elim (λ e. rw (eq-eqb n k e, lt-ltb n (suc k) (omega arith)) (ap f (sym e)))
    (λ other. rw (ne_eqb n k other) (go other (ltb n k) refl)) (equal_or_not n k)
  where
    go : (n ≡ k → ⊥) → (b : Bool) → ltb n k ≡ b → cond b (f n) none ≡ cond (ltb n (suc k)) (f n) none
    go other true e = rw (lt-ltb n (suc k) (omega (arith, ltb-true n k e)))
    go other false e = rw (le-ltb n (suc k) (omega (arith, ltb-false n k e, other)))

-- what is read under a limit is the same where it is so below the limit
under_same : {A : Type 0} (limit i : ℕ) (o p : Option A) → (i < limit → o ≡ p) → under limit i o ≡ under limit i p
unfolding under
under_same limit i o p same = go (ltb i limit) refl
  where
    go : (b : Bool) → ltb i limit ≡ b → cond b o none ≡ cond b p none
    go true e = same (ltb-true i limit e)
    go false e = refl

-- the last of the first k nodes that claim a machine
abbrev claims : (ℕ → ℕ → Bool) → ℕ → ℕ → Option ℕ
claims P k m = under machines m (last_under k (λ j. P j m))

-- node n, where it claims machine w, is the last of the first n + 1 that claim w
claim : (n w : ℕ) (b : Bool) (P : ℕ → ℕ → Bool) → ((p : ℕ) → p < machines → P n p ≡ (b && eqb w p))
    → (m : ℕ) → cond (b && ltb w machines) (put (claims P n) w (some n)) (claims P n) m ≡ claims P (suc n) m
claim n w b P here m = go b refl (ltb w machines) refl
  where
    -- machine m has the one that it had, where node n does not claim it
    same : (m < machines → P n m ≡ false) → claims P n m ≡ claims P (suc n) m
    same e =
        under_same machines m (last_under n (λ j. P j m)) (last_under (suc n) (λ j. P j m)) (λ hm. sym (last_skip n (λ j. P j m) (e hm)))

    go : (c : Bool) → b ≡ c → (d : Bool) → ltb w machines ≡ d → cond (c && d) (put (claims P n) w (some n)) (claims P n) m ≡ claims P (suc n) m
    go false eb d ed = same (λ hm. here m hm ∙ ap (λ (c : Bool). c && eqb w m) eb)
    go true eb false ed =
        same (λ hm. here m hm ∙ ap (λ (c : Bool). c && eqb w m) eb ∙ ne_eqb w m (λ e. omega (arith, ltb-false w machines ed)))
    go true eb true ed =
        let hw : w < machines = ltb-true w machines ed in
        let mine : P n w ≡ true = here w hw ∙ ap (λ (c : Bool). c && eqb w w) eb ∙ eq-eqb w w refl in
        ⊎_elim
        (λ e.
        rw e
        (put_same (claims P n) w (some n)
        ∙ sym (under_in machines w (last_under (suc n) (λ j. P j w)) hw ∙ last_pass n (λ j. P j w) mine)))
        (λ other.
        put_other (claims P n) w (some n) m other
        ∙ same (λ hm. here m hm ∙ ap (λ (c : Bool). c && eqb w m) eb ∙ ne_eqb w m (λ e. other (sym e))))
        (equal_or_not m w)

-- ---- the transitions between a node and its next lower node

-- the next lower node is lower
lower_under : (rows : List ℕ) (n w : ℕ) → next_lower rows n ≡ some w → w < n
unfolding next_lower
lower_under rows n w e =
    let found = bind_some (row_owner rows n) (λ m. last_under n (λ j. is_at (row_owner rows j) m)) e in
    last_under_lem n (λ j. is_at (row_owner rows j) found.0) w found.2

-- what a node has for a command, where v is put at node n and x
grid_put : {A : Type 0} (f : ℕ → ℕ → A) (n x : ℕ) (v : A) (m y : ℕ) → put f n (put (f n) x v) m y ≡ cond (eqb m n && eqb y x) v (f m y)
grid_put f n x v m y = ⊎_elim (λ e. rw (eq-eqb m n e, e)) (λ other. rw (ne_eqb m n other)) (equal_or_not m n)

-- transitions f with those between node n and its lower node l
abbrev joined : (ℕ → ℕ → Option Transition) → ℕ → ℕ → ℕ → ℕ → Option Transition
joined f n l =
    let up : ℕ → ℕ → Option Transition = put f n (put (f n) 0 (neighbour (some l))) in
    put up l (put (up l) 1 (neighbour (some n)))

-- what they are for a node and a command
joined_at : (f : ℕ → ℕ → Option Transition) (n l m x : ℕ)
    → joined f n l m x ≡ cond (eqb m l && eqb x 1) (neighbour (some n)) (cond (eqb m n && eqb x 0) (neighbour (some l)) (f m x))
joined_at f n l m x =
    grid_put (put f n (put (f n) 0 (neighbour (some l)))) l 1 (neighbour (some n)) m x
    ∙ ap (cond (eqb m l && eqb x 1) (neighbour (some n))) (grid_put f n 0 (neighbour (some l)) m x)

module _ (rows : List ℕ) (n : ℕ) where
  -- another node goes down as it did
  lower_kept : (m : ℕ) → (m ≡ n → ⊥) → linked rows n m 0 ≡ linked rows (suc n) m 0
  unfolding linked
  lower_kept m other =
      ap neighbour (sym (put_other (λ i. under n i (next_lower rows i)) n (next_lower rows n) m other) ∙ under_more (next_lower rows) n m)

  -- node n goes down to its next lower node
  lower_new : (m : ℕ) → m ≡ n → linked rows (suc n) m 0 ≡ neighbour (next_lower rows n)
  unfolding linked
  lower_new m at = ap neighbour (under_in (suc n) m (next_lower rows m) (omega arith) ∙ ap (next_lower rows) at)

  -- where there is no lower node the transitions are as they were
  unlinked : next_lower rows n ≡ none → (m x : ℕ) → linked rows n m x ≡ linked rows (suc n) m x
  unfolding linked
  unlinked e m zero =
      ⊎_elim (λ at. ap neighbour (under_out n m (next_lower rows m) (omega arith) ∙ sym e) ∙ sym (lower_new m at)) (lower_kept m)
      (equal_or_not m n)
  unlinked e m (suc zero) = ap neighbour (sym (last_skip n (λ v. is_at (next_lower rows v) m) (rw e)))
  unlinked e m (suc (suc x)) = refl

  -- and else those between the two nodes are put
  relinked : (w : ℕ) → next_lower rows n ≡ some w → (m x : ℕ) → joined (linked rows n) n w m x ≡ linked rows (suc n) m x
  unfolding linked
  relinked w e m zero =
      joined_at (linked rows n) n w m 0
      ∙ rw (and-false (eqb m w), and-true (eqb m n))
      (⊎_elim (λ at. rw (eq-eqb m n at) (ap neighbour (sym e) ∙ sym (lower_new m at)))
      (λ other. rw (ne_eqb m n other) (lower_kept m other)) (equal_or_not m n))
  relinked w e m (suc zero) =
      let p : ℕ → Bool = λ v. is_at (next_lower rows v) m in
      joined_at (linked rows n) n w m 1
      ∙ rw (and-false (eqb m n), and-true (eqb m w))
      (⊎_elim (λ at. rw (eq-eqb m w at) (ap neighbour (sym (last_pass n p (is_at_some w m e (sym at))))))
      (λ other. rw (ne_eqb m w other) (ap neighbour (sym (last_skip n p (is_at_other w m e (λ a. other (sym a)))))))
      (equal_or_not m w))
  relinked w e m (suc (suc x)) =
      joined_at (linked rows n) n w m (suc (suc x))
      ∙ rw (ne_eqb (suc (suc x)) 1 (omega arith), ne_eqb (suc (suc x)) 0 (omega arith), and-false (eqb m w), and-false (eqb m n))

-- ---- a row is written

-- a tree that has no root yet, no hold and no leaving cost, of its fields
abbrev rootless : (owner below start holder : ℕ → Option ℕ) → (ℕ → ℕ → Option Transition) → Tree
rootless owner below start holder transition =
    record {
      root = absent;
      owner = owner;
      below = below;
      start = start;
      holder = holder;
      transition = transition;
      hold = λ n. 0;
      leave = λ m. 0;
    }

-- a store into a book that holds t makes of it the tree that f makes of t, said otherwise
holds_on : {ws after : List ℕ} {t u : Tree} (f : Tree → Tree) → f t ≡ u → Holds ws t → Holds after (f (tree_of ws)) → Holds after u
holds_on f same first second = record { length = second.length; tree = second.tree ∙ ap f first.tree ∙ same }

-- a choice between values of a function is the function's value at the choice
cond_of : {A B : Type 0} (f : A → B) (b : Bool) (x y : A) → cond b (f x) (f y) ≡ f (cond b x y)
cond_of f true x y = refl
cond_of f false x y = refl

module _ (rows : List ℕ) where
  -- the fields of the first k rows
  abbrev owners : ℕ → ℕ → Option ℕ
  owners k n = under k n (row_owner rows n)

  abbrev belows : ℕ → ℕ → Option ℕ
  belows k n = under k n (row_below rows n)

  abbrev starts : ℕ → ℕ → Option ℕ
  starts = claims (λ n m. row_start rows n && is_at (row_owner rows n) m)

  abbrev holders : ℕ → ℕ → Option ℕ
  holders = claims (λ n m. is_at (row_below rows n) m)

  module _ (n : ℕ) (hn : n < nodes) where
    -- the owner that row n says is written
    owner_row : (b s h : ℕ → Option ℕ) (x : ℕ → ℕ → Option Transition) (w : ℕ) → w ≡ cell rows n 0
        → with_owner (rootless (owners n) b s h x) n (number w) ≡ rootless (owners (suc n)) b s h x
    unfolding row_owner
    owner_row b s h x w e = rw e (ap (λ f. rootless f b s h x) (fun_ext (under_more (row_owner rows) n)))

    -- the machine below
    below_row : (o s h : ℕ → Option ℕ) (x : ℕ → ℕ → Option Transition) (w : ℕ) → w ≡ cell rows n 1
        → with_below (rootless o (belows n) s h x) n (number w) ≡ rootless o (belows (suc n)) s h x
    unfolding row_below
    below_row o s h x w e = rw e (ap (λ f. rootless o f s h x) (fun_ext (under_more (row_below rows) n)))

    -- node n as the holder of that machine
    holder_row : (o b s : ℕ → Option ℕ) (x : ℕ → ℕ → Option Transition) (w : ℕ) → w ≡ cell rows n 1
        → with_held (rootless o b s (holders n) x) n w ≡ rootless o b s (holders (suc n)) x
    unfolding with_held row_below
    holder_row o b s x w e =
        cond_of (λ f. rootless o b s f x) (ltb w machines) (put (holders n) w (some n)) (holders n)
        ∙ ap (λ f. rootless o b s f x)
        (fun_ext (claim n w true (λ j m. is_at (row_below rows j) m) (λ m hm. rw (← e) (says w m (omega arith)))))

    -- node n as the start of its machine
    start_row : (o b h : ℕ → Option ℕ) (x : ℕ → ℕ → Option Transition) (w v : ℕ) → w ≡ cell rows n 0 → v ≡ cell rows n 2
        → with_started (rootless o b (starts n) h x) n w v ≡ rootless o b (starts (suc n)) h x
    unfolding with_started row_owner row_start
    start_row o b h x w v e f =
        cond_of (λ g. rootless o b g h x) (eqb v 1 && ltb w machines) (put (starts n) w (some n)) (starts n)
        ∙ ap (λ g. rootless o b g h x)
        (fun_ext
        (claim n w (eqb v 1) (λ j m. row_start rows j && is_at (row_owner rows j) m)
        (λ m hm. rw (← e, ← f) (ap (◌&&◌ (eqb v 1)) (says w m (omega arith))))))

    -- the transitions between node n and its next lower node
    link_row : (o b s h : ℕ → Option ℕ) (w : ℕ) → w ≡ word (next_lower rows n)
        → with_links (rootless o b s h (linked rows n)) n w ≡ rootless o b s h (linked rows (suc n))
    unfolding with_links with_transition word
    link_row o b s h w e = go (next_lower rows n) refl
      where
        go : (l : Option ℕ) → next_lower rows n ≡ l → with_links (rootless o b s h (linked rows n)) n w ≡ rootless o b s h (linked rows (suc n))
        go none f = rw (e, f) (ap (rootless o b s h) (fun_ext λ m. fun_ext λ x. unlinked rows n f m x))
        go (some l) f =
            rw (e, f, lt-ltb l nodes (omega (arith, lower_under rows n l f)))
            (ap (rootless o b s h) (fun_ext λ m. fun_ext λ x. relinked rows n l f m x))

    -- row n is written, one field or two after the other
    pub row_written : (o b s l : ℕ) {w₀ w₁ w₂ w₃ w₄ w₅ : List ℕ} → o ≡ cell rows n 0 → b ≡ cell rows n 1 → s ≡ cell rows n 2
        → l ≡ word (next_lower rows n) → Holds w₀ (grown rows n absent) → Holds w₁ (with_owner (tree_of w₀) n (number o))
        → Holds w₂ (with_below (tree_of w₁) n (number b)) → Holds w₃ (with_held (tree_of w₂) n b) → Holds w₄ (with_started (tree_of w₃) n o s)
        → Holds w₅ (with_links (tree_of w₄) n l) → Holds w₅ (grown rows (suc n) absent)
    unfolding grown
    row_written o b s l eo eb es el begun owner below holder start link =
        let h₁ = holds_on (λ t. with_owner t n (number o)) (owner_row (belows n) (starts n) (holders n) (linked rows n) o eo) begun owner in
        let h₂ = holds_on (λ t. with_below t n (number b)) (below_row (owners (suc n)) (starts n) (holders n) (linked rows n) b eb) h₁ below in
        let h₃ = holds_on (λ t. with_held t n b) (holder_row (owners (suc n)) (belows (suc n)) (starts n) (linked rows n) b eb) h₂ holder in
        let h₄ =
        holds_on (λ t. with_started t n o s) (start_row (owners (suc n)) (belows (suc n)) (holders (suc n)) (linked rows n) o s eo es) h₃ start in
        holds_on (λ t. with_links t n l) (link_row (owners (suc n)) (belows (suc n)) (starts (suc n)) (holders (suc n)) l el) h₄ link
