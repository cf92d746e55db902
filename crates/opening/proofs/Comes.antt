-- The tree that is filled from a table's rows is the one that comes of the table, where one does (document 02, W-208). Assumes nothing.
use mathlib.Core.Path.{◌≡◌, refl, sym, ◌∙◌, ap, ap₂}
use mathlib.Core.Logic.{⊎_elim}
use mathlib.Core.Bool.{Bool, true, false, cond, not, ◌&&◌}
use mathlib.Core.Option.{Option, none, some}
use mathlib.Core.List.{List}
use Prim.Native.Nat.{ℕ, zero, suc, ◌<◌}
use native.Mathlib.Omega.{arith}
use lib.Dec.{eqb}
use borrow.Author.Tests.{eq-eqb, eqb-true, not-true}
use Rattle.definitions.specs.Basics.{option, is_some, is_at}
use Rattle.definitions.specs.Limits.{machines, absent}
use Rattle.definitions.specs.Tree.{Tree, Transition, Sound, used_machine}
use Rattle.definitions.specs.Book.{word, number, under}
use Rattle.definitions.specs.Edit.{is_start}
use Rattle.definitions.specs.Open.{row_count, cell, NextLower, Neighbour, Claimed}
use Rattle.definitions.proofs.Options.{bind_some, present, none_some, some_same, true_false, is_some_true, is_some_false, is_at_true, is_at_some, and_true}
use Rattle.definitions.proofs.Commands.{not_true_false}
use Rattle.definitions.proofs.Words.{under_in, under_some, under_is, same_tree}
use Rattle.definitions.proofs.Path.{Deep, at_root, deep}
use Rattle.definitions.proofs.Tables.{marked, starts_own, own_starts, transitions_one}
use Rattle.opening.specs.Rows.{last_under, row_owner, row_below, row_start, next_lower, neighbour, linked, grown, free, root_of, row_tree}
use Rattle.opening.proofs.Last.{last_found, last_is, last_only, last_none}

-- a neighbour's transition costs 1
neighbour_some : (o : Option ℕ) {a : Transition} → neighbour o ≡ some a → (o ≡ some a.target) × (a.cost ≡ 1)
unfolding neighbour
neighbour_some o {a} e =
    let (v, there, same) = bind_some o (λ v. some (record { target = v; cost = 1 })) e in
    let made : ◌≡◌ {A = Transition} (record { target = v; cost = 1 }) a = some_same refl same in
    (there ∙ ap (λ (b : Transition). some b.target) made, sym (ap (λ (b : Transition). b.cost) made))

-- a number that the only row which passes a test says
only : (k limit i : ℕ) (p : ℕ → Bool) (o : Option ℕ) → ((n : ℕ) → o ≡ some n → (n < k) × (p n ≡ true)) → ((n : ℕ) → n < k → p n ≡ true → o ≡ some n)
    → ((n : ℕ) → o ≡ some n → i < limit) → under limit i (last_under k p) ≡ o
only k limit i p o there back inside =
    under_is limit i (last_under k p) o
    (λ small.
    ⊎_elim (λ empty. last_none k p (λ j under. not_true_false (λ passes. none_some empty (back j under passes))) ∙ sym empty)
    (λ (n, e). let (low, passes) = there n e in last_only k n p low passes (λ j under too. some_same (back j under too) e) ∙ sym e) (present o))
    inside

module _ (rows : List ℕ) where
  -- the owner of a node is its row's
  row_owner_lem : (n m : ℕ) → n < row_count rows → row_owner rows n ≡ some m → (row_tree rows).owner n ≡ some m
  unfolding row_tree grown
  row_owner_lem n m small e = under_in (row_count rows) n (row_owner rows n) small ∙ e

  owner_row : (n m : ℕ) → (row_tree rows).owner n ≡ some m → (n < row_count rows) × (row_owner rows n ≡ some m)
  unfolding row_tree grown
  owner_row n m e = under_some (row_count rows) n (row_owner rows n) e

  -- the next lower node in the rows is that of the tree
  lower_leads : (n v : ℕ) → n < row_count rows → next_lower rows n ≡ some v → NextLower (row_tree rows) n v
  unfolding next_lower
  lower_leads n v small e =
      let (m, own, last) = bind_some (row_owner rows n) (λ m. last_under n (λ j. is_at (row_owner rows j) m)) e in
      let (lower, passes, others) = last_found n (λ j. is_at (row_owner rows j) m) v last in
      let here = row_owner_lem n m small own in
      record {
        lower = lower;
        in_use = (m, here);
        same = row_owner_lem v m (omega arith) (is_at_true (row_owner rows v) m passes) ∙ sym here;
        between = λ j above under same.
            true_false (is_at_some m m (owner_row j m (same ∙ here)).1 refl) (others j above under);
      }

  leads_lower : (n v : ℕ) → NextLower (row_tree rows) n v → (n < row_count rows) × (next_lower rows n ≡ some v)
  unfolding next_lower
  leads_lower n v next =
      let (m, here) = next.in_use in
      let (small, own) = owner_row n m here in (
        small,
        rw own
            (last_is n v (λ j. is_at (row_owner rows j) m) next.lower (is_at_some m m (owner_row v m (next.same ∙ here)).1 refl)
            (λ j above under. not_true_false (λ passes.
            next.between j above under (row_owner_lem j m (omega arith) (is_at_true (row_owner rows j) m passes) ∙ sym here)))),
      )

  -- a node is the next lower one of one node alone
  higher_one : (n v w : ℕ) → NextLower (row_tree rows) v n → NextLower (row_tree rows) w n → v < w → ⊥
  higher_one n v w one two below = two.between v one.lower below (sym one.same ∙ two.same)

  leads : (n x : ℕ) (a : Transition) → (row_tree rows).transition n x ≡ some a → Neighbour (row_tree rows) n x a.target × (a.cost ≡ 1)
  unfolding row_tree grown linked
  leads n zero a e =
      let (there, cost) = neighbour_some (under (row_count rows) n (next_lower rows n)) e in
      let (small, lower) = under_some (row_count rows) n (next_lower rows n) there in
      (lower_leads n a.target small lower, cost)
  leads n (suc zero) a e =
      let p : ℕ → Bool = λ v. is_at (next_lower rows v) n in
      let (there, cost) = neighbour_some (last_under (row_count rows) p) e in
      let (small, passes, others) = last_found (row_count rows) p a.target there in
      (lower_leads a.target n small (is_at_true (next_lower rows a.target) n passes), cost)
  leads n (suc (suc x)) a e = absurd (none_some refl e)

  links : (n x v : ℕ) → Neighbour (row_tree rows) n x v → (row_tree rows).transition n x ≡ some (record { target = v; cost = 1 })
  unfolding row_tree grown linked neighbour
  links n zero v next =
      let (small, lower) = leads_lower n v next in
      ap neighbour (under_in (row_count rows) n (next_lower rows n) small ∙ lower)
  links n (suc zero) v next =
      let (small, lower) = leads_lower v n next in
      let p : ℕ → Bool = λ w. is_at (next_lower rows w) n in
      ap neighbour
      (last_is (row_count rows) v p small (is_at_some n n lower refl)
      (λ j above under. not_true_false (λ passes.
      absurd (higher_one n v j next (lower_leads j n under (is_at_true (next_lower rows j) n passes)) above))))
  links n (suc (suc x)) v next = absurd next

  -- it has all that the rows claim where the starts are right
  pub rows_claimed : ((n : ℕ) → n < row_count rows → cell rows n 2 ≡ cond (is_start (row_tree rows) n) 1 0) → Claimed rows (row_tree rows)
  unfolding row_tree grown row_owner row_below
  rows_claimed right =
      record {
        owner = λ n. refl;
        below = λ n. refl;
        start = right;
        leads = leads;
        reaches = links;
        hold = λ n. refl;
        leave = λ m. refl;
      }

  -- a tree that comes of the rows: what it says of a node is in the row, and what the row says is so in the tree
  module _ (t : Tree) (has : Claimed rows t) (sound : Sound t) where
    owner_told : (n m : ℕ) → t.owner n ≡ some m → (n < row_count rows) × (row_owner rows n ≡ some m)
    unfolding row_owner
    owner_told n m e = under_some (row_count rows) n (number (cell rows n 0)) (sym (has.owner n) ∙ e)

    told_owner : (n m : ℕ) → n < row_count rows → row_owner rows n ≡ some m → t.owner n ≡ some m
    unfolding row_owner
    told_owner n m small e = has.owner n ∙ under_in (row_count rows) n (number (cell rows n 0)) small ∙ e

    below_told : (n m : ℕ) → t.below n ≡ some m → (n < row_count rows) × (row_below rows n ≡ some m)
    unfolding row_below
    below_told n m e = under_some (row_count rows) n (number (cell rows n 1)) (sym (has.below n) ∙ e)

    told_below : (n m : ℕ) → n < row_count rows → row_below rows n ≡ some m → t.below n ≡ some m
    unfolding row_below
    told_below n m small e = has.below n ∙ under_in (row_count rows) n (number (cell rows n 1)) small ∙ e

    -- machine m's start node is the one row of m that has 1 for a start
    start_told : (m s : ℕ) → t.start m ≡ some s → (s < row_count rows) × ((row_start rows s && is_at (row_owner rows s) m) ≡ true)
    unfolding row_start
    start_told m s e =
        let own = sound.start_owned m s e in
        let (small, row) = owner_told s m own in
        let one : cell rows s 2 ≡ 1 = has.start s small ∙ ap (λ (b : Bool). cond b 1 0) (starts_own t own e) in
        (small, rw (eq-eqb (cell rows s 2) 1 one) (is_at_some m m row refl))

    told_start : (m s : ℕ) → s < row_count rows → (row_start rows s && is_at (row_owner rows s) m) ≡ true → t.start m ≡ some s
    unfolding row_start
    told_start m s small e =
        let (one, row) = and_true (eqb (cell rows s 2) 1) (is_at (row_owner rows s) m) e in
        own_starts t (told_owner s m small (is_at_true (row_owner rows s) m row))
        (marked (is_start t s) (sym (has.start s small) ∙ eqb-true (cell rows s 2) 1 one))

    starts : (m : ℕ) → (row_tree rows).start m ≡ t.start m
    unfolding row_tree grown
    starts m =
        let p : ℕ → Bool = λ n. row_start rows n && is_at (row_owner rows n) m in
        only (row_count rows) machines m p (t.start m) (start_told m) (told_start m) (λ s e. sound.machine_range m s e)

    holders : (m : ℕ) → (row_tree rows).holder m ≡ t.holder m
    unfolding row_tree grown
    holders m =
        let p : ℕ → Bool = λ n. is_at (row_below rows n) m in
        only (row_count rows) machines m p (t.holder m)
        (λ n e. let (small, row) = below_told n m (sound.held_below m n e) in (small, is_at_some m m row refl))
        (λ n small e. sound.below_held n m (told_below n m small (is_at_true (row_below rows n) m e)))
        (λ n e. let (s, used) = sound.held_used m n e in sound.machine_range m s used)

    -- the one machine in use that no node holds is the root
    free_root : (m : ℕ) → free t m ≡ true → m ≡ t.root
    unfolding free
    free_root m e =
        let (used, unheld) = and_true (used_machine t m) (not (is_some (t.holder m))) e in
        let (s, start) = is_some_true (t.start m) used in
        go (deep sound start).2 (is_some_false (t.holder m) (not-true (is_some (t.holder m)) unheld))
      where
        go : {k : ℕ} → Deep t m k → t.holder m ≡ none → m ≡ t.root
        go (at_root e) unheld = e
        go (Deep.under held own way) unheld = absurd (none_some unheld held)

    root_free : free t t.root ≡ true
    unfolding free
    root_free = rw (sound.root_used.1, sound.root_free)

    roots : (row_tree rows).root ≡ t.root
    unfolding row_tree grown root_of free word
    roots =
        let filled = grown rows (row_count rows) absent in
        let alike : (m : ℕ) → free filled m ≡ free t m =
        λ m. ap₂ (λ (o h : Option ℕ). is_some o && not (is_some h)) (starts m) (holders m)
        in
        ap word
        (last_only machines t.root (free filled) (sound.machine_range t.root sound.root_used.0 sound.root_used.1)
        (alike t.root ∙ root_free) (λ j small passes. free_root j (sym (alike j) ∙ passes)))

    -- the filled tree is that tree
    pub comes_rows : row_tree rows ≡ t
    unfolding row_tree grown row_owner row_below
    comes_rows =
        same_tree (row_tree rows) t roots (λ n. sym (has.owner n)) (λ n. sym (has.below n)) starts holders
        (transitions_one rows (row_tree rows) t (rows_claimed right) has) (λ n. sym (has.hold n)) (λ m. sym (has.leave m))
      where
        right : (n : ℕ) → n < row_count rows → cell rows n 2 ≡ cond (is_start (row_tree rows) n) 1 0
        right n small =
            has.start n small
            ∙ ap₂ (λ (o : Option ℕ) (f : ℕ → Option ℕ). cond (option false (λ m. is_at (f m) n) o) 1 0) (has.owner n) (λ i m. sym (starts m) i)
