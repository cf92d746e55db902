-- The trees of the openings: what each field of a ladder says at each number, and that the trees are sound. Assumes nothing.
use mathlib.Core.Path.{◌≡◌, refl, sym, ap}
use mathlib.Core.Logic.{◌⊎◌, inl, inr, ⊎_elim}
use mathlib.Core.Bool.{Bool, true, false, ◌&&◌}
use mathlib.Core.Option.{Option, none, some}
use Prim.Native.Nat.{ℕ, zero, suc, ◌+◌, ◌*◌, ◌-◌, ◌/◌, ◌%◌, ◌≤◌, ◌<◌}
use native.Mathlib.Omega.{arith}
use lib.Dec.{ltb}
use borrow.Author.Tests.{ltb-true, lt-ltb}
use Rattle.definitions.specs.Tree.{Tree, Transition, Sound}
use Rattle.definitions.specs.Open.{fresh_tree, ladder_machines, given, ladder_below, ladder_holder, ladder_transition, ladder_of}
use Rattle.definitions.specs.Open.{Opening, fresh, ladder, table, ComesOf}
use Rattle.definitions.proofs.Options.{none_some, some_same, equal_or_not, and_true}
use Rattle.definitions.proofs.Path.{Deep, at_root, under}
use Rattle.definitions.proofs.Kept.{single_sound, deep_climbs}

-- ---- fresh

-- the tree of Open fresh is sound
pub fresh_sound : Sound fresh_tree
unfolding fresh_tree
fresh_sound = single_sound (record { machine_range = omega arith; node_range = omega arith })

-- ---- the fields of a ladder of c machines

-- a value that is given: the test holds
pub given_some : {A : Type 0} (b : Bool) (a : A) {c : A} → given b a ≡ some c → (b ≡ true) × (a ≡ c)
given_some true a e = (refl, some_same refl e)
given_some false a e = absurd (none_some refl e)

-- a number given under a limit
pub given_below : (i limit a : ℕ) {c : ℕ} → given (ltb i limit) a ≡ some c → (i < limit) × (a ≡ c)
given_below i limit a e = let (small, same) = given_some (ltb i limit) a e in (ltb-true i limit small, same)

-- and the other way
below_given : (i limit a : ℕ) {c : ℕ} → i < limit → a ≡ c → given (ltb i limit) a ≡ some c
below_given i limit a small same = rw (lt-ltb i limit small) (ap {B = Option ℕ} some same)

-- how many machines stand in the first k + 1 levels
reach : ℕ → ℕ
reach zero = 1
reach (suc k) = 2 * reach k + 1

-- the six levels of a ladder hold 63 machines
six_levels : reach 5 ≡ ladder_machines
unfolding reach
six_levels = refl

module _ (c : ℕ) where
  -- node n belongs to machine n / 3
  pub ladder_owner : (n m : ℕ) → (ladder_of c).owner n ≡ some m → (n < 3 * c) × (n / 3 ≡ m)
  unfolding ladder_of
  ladder_owner n m e = given_below n (3 * c) (n / 3) e

  -- every node under 3 c does
  pub owner_ladder : (n m : ℕ) → n < 3 * c → n / 3 ≡ m → (ladder_of c).owner n ≡ some m
  unfolding ladder_of
  owner_ladder n m small same = below_given n (3 * c) (n / 3) small same

  -- the start of machine m is node 3m + 1
  pub ladder_start : (m s : ℕ) → (ladder_of c).start m ≡ some s → (m < c) × (3 * m + 1 ≡ s)
  unfolding ladder_of
  ladder_start m s e = given_below m c (3 * m + 1) e

  -- for every machine under c
  pub start_ladder : (m s : ℕ) → m < c → 3 * m + 1 ≡ s → (ladder_of c).start m ≡ some s
  unfolding ladder_of
  start_ladder m s small same = below_given m c (3 * m + 1) small same

  -- machine p + 1 is held by node 3 (p / 2) + 2 (p % 2)
  pub ladder_holder_lem : (m n : ℕ) → (ladder_of c).holder m ≡ some n
      → (p : ℕ) × (m ≡ suc p) × (m < c) × (n ≡ 3 * (p / 2) + 2 * (p % 2))
  unfolding ladder_of ladder_holder
  ladder_holder_lem zero n e = absurd (none_some refl e)
  ladder_holder_lem (suc p) n e =
      let (small, same) = given_below (suc p) c (3 * (p / 2) + 2 * (p % 2)) e in
      (p, refl, small, sym same)

  -- if it is under c
  pub holder_ladder : (p n : ℕ) → suc p < c → n ≡ 3 * (p / 2) + 2 * (p % 2) → (ladder_of c).holder (suc p) ≡ some n
  unfolding ladder_of ladder_holder
  holder_ladder p n small same = below_given (suc p) c (3 * (p / 2) + 2 * (p % 2)) small (sym same)

  -- node 3q holds machine 2q + 1, and node 3q + 2 machine 2q + 2
  pub ladder_below_lem : (n m : ℕ) → (ladder_of c).below n ≡ some m
      → (m < c) × (((n % 3 ≡ 0) × (m ≡ 2 * (n / 3) + 1)) ⊎ ((n % 3 ≡ 2) × (m ≡ 2 * (n / 3) + 2)))
  unfolding ladder_of ladder_below
  ladder_below_lem n m e = go (n % 3) refl
    where
      go : (k : ℕ) → n % 3 ≡ k
          → (m < c) × (((n % 3 ≡ 0) × (m ≡ 2 * (n / 3) + 1)) ⊎ ((n % 3 ≡ 2) × (m ≡ 2 * (n / 3) + 2)))
      go zero z =
          let (small, same) = given_below (2 * (n / 3) + 1) c (2 * (n / 3) + 1) (rw z at e) in
          (omega arith, inl (z, sym same))
      go (suc zero) z = absurd (none_some refl (rw z at e))
      go (suc (suc k)) z =
          let (small, same) = given_below (2 * (n / 3) + 2) c (2 * (n / 3) + 2) (rw z at e) in
          (omega arith, inr (omega arith, sym same))

  -- the first node of a machine holds one, if that is under c
  pub below_first : (n m : ℕ) → m < c → n % 3 ≡ 0 → m ≡ 2 * (n / 3) + 1 → (ladder_of c).below n ≡ some m
  unfolding ladder_of ladder_below
  below_first n m small z same = rw z (below_given (2 * (n / 3) + 1) c (2 * (n / 3) + 1) (omega arith) (sym same))

  -- and so does the last
  pub below_last : (n m : ℕ) → m < c → n % 3 ≡ 2 → m ≡ 2 * (n / 3) + 2 → (ladder_of c).below n ≡ some m
  unfolding ladder_of ladder_below
  below_last n m small z same = rw z (below_given (2 * (n / 3) + 2) c (2 * (n / 3) + 2) (omega arith) (sym same))

  -- the transitions of a node go to its neighbours in the machine, at cost 1: back for command 0, on for command 1
  pub ladder_transition_lem : (n x : ℕ) (a : Transition) → (ladder_of c).transition n x ≡ some a
      → (n < 3 * c) × (a.cost ≡ 1)
      × (((x ≡ 0) × (0 < n % 3) × (a.target ≡ n - 1)) ⊎ ((x ≡ 1) × (n % 3 < 2) × (a.target ≡ n + 1)))
  unfolding ladder_of ladder_transition
  ladder_transition_lem n zero a e =
      let (tests, same) = given_some (ltb 0 (n % 3) && ltb n (3 * c)) (record { target = n - 1; cost = 1 }) e in
      let (side, small) = and_true (ltb 0 (n % 3)) (ltb n (3 * c)) tests in (
        ltb-true n (3 * c) small,
        ap (λ (b : Transition). b.cost) (sym same),
        inl (refl, ltb-true 0 (n % 3) side, ap (λ (b : Transition). b.target) (sym same)),
      )
  ladder_transition_lem n (suc zero) a e =
      let (tests, same) = given_some (ltb (n % 3) 2 && ltb n (3 * c)) (record { target = n + 1; cost = 1 }) e in
      let (side, small) = and_true (ltb (n % 3) 2) (ltb n (3 * c)) tests in (
        ltb-true n (3 * c) small,
        ap (λ (b : Transition). b.cost) (sym same),
        inr (refl, ltb-true (n % 3) 2 side, ap (λ (b : Transition). b.target) (sym same)),
      )
  ladder_transition_lem n (suc (suc x)) a e = absurd (none_some refl e)

  -- the root is machine 0
  ladder_root : (ladder_of c).root ≡ 0
  unfolding ladder_of
  ladder_root = refl

  -- and no node holds it
  ladder_free : (ladder_of c).holder (ladder_of c).root ≡ none
  unfolding ladder_of ladder_holder
  ladder_free = refl

  -- these machines are at most k below the root
  ladder_deep : (k m : ℕ) → m < reach k → m < c → (j : ℕ) × (j ≤ k) × Deep (ladder_of c) m j
  unfolding reach
  ladder_deep zero m near small = (0, omega arith, at_root {m = m} (omega (arith, ladder_root)))
  ladder_deep (suc k) zero near small = (0, omega arith, at_root (sym ladder_root))
  ladder_deep (suc k) (suc p) near small =
      let (j, low, way) = ladder_deep k (p / 2) (omega arith) (omega arith) in
      let n : ℕ = 3 * (p / 2) + 2 * (p % 2) in
      (suc j, omega arith, under (holder_ladder p n small refl) (owner_ladder n (p / 2) (omega arith) (omega arith)) way)

  -- no node of the ladder is held
  ladder_open : (n : ℕ) → (ladder_of c).hold n ≡ 0
  unfolding ladder_of
  ladder_open n = refl

  -- and leaving a machine of it costs nothing
  ladder_left : (m : ℕ) → (ladder_of c).leave m ≡ 0
  unfolding ladder_of
  ladder_left m = refl

  -- a ladder of at most 63 machines is sound: it has six levels at most
  pub ladder_sound : 1 ≤ c → c ≤ ladder_machines → Sound (ladder_of c)
  ladder_sound some_machine few =
      record {
        root_used = (1, start_ladder (ladder_of c).root 1 (omega (arith, ladder_root)) (omega (arith, ladder_root)));
        root_free = ladder_free;
        machine_range = λ m s e. omega (arith, ladder_start m s e);
        node_range = λ n m e. omega (arith, ladder_owner n m e);
        owner_used = λ n m e. let (small, same) = ladder_owner n m e in (3 * m + 1, start_ladder m (3 * m + 1) (omega arith) refl);
        start_owned = λ m s e. let (small, same) = ladder_start m s e in owner_ladder s m (omega arith) (omega arith);
        below_held = λ n m e. let (small, sides) = ladder_below_lem n m e in held n m small sides;
        held_below = λ m n e. let (p, next, small, same) = ladder_holder_lem m n e in down m n p next small same;
        holder_used = λ m n e. let (p, next, small, same) = ladder_holder_lem m n e in (n / 3, owner_ladder n (n / 3) (omega arith) refl);
        held_used = λ m n e. let (p, next, small, same) = ladder_holder_lem m n e in (3 * m + 1, start_ladder m (3 * m + 1) small refl);
        transition_range = λ n x a e.
            let (small, one, sides) = ladder_transition_lem n x a e in
            ⊎_elim (λ back. omega arith) (λ on. omega arith) sides;
        transition_owned = λ n x a e.
            let (small, one, sides) = ladder_transition_lem n x a e in (
              n / 3,
              owner_ladder n (n / 3) small refl,
              ⊎_elim (λ back. owner_ladder a.target (n / 3) (omega arith) (omega arith))
                  (λ on. owner_ladder a.target (n / 3) (omega arith) (omega arith)) sides,
            );
        hold_range = λ n. rw (ladder_open n) (omega arith);
        hold_used = λ n e. absurd (omega (arith, ladder_open n));
        hold_start = λ m s e. ladder_open s;
        leave_range = λ m. rw (ladder_left m) (omega arith);
        leave_used = λ m e. ladder_left m;
        leave_root = ladder_left (ladder_of c).root;
        climbs = λ m s e.
            let (small, same) = ladder_start m s e in
            let (j, low, way) = ladder_deep 5 m (omega (arith, six_levels)) small in
            (j, omega arith, deep_climbs way);
      }
    where
      held : (n m : ℕ) → m < c → ((n % 3 ≡ 0) × (m ≡ 2 * (n / 3) + 1)) ⊎ ((n % 3 ≡ 2) × (m ≡ 2 * (n / 3) + 2))
          → (ladder_of c).holder m ≡ some n
      held n zero small (inl first) = absurd (omega arith)
      held n (suc p) small (inl first) = holder_ladder p n small (omega arith)
      held n zero small (inr last) = absurd (omega arith)
      held n (suc p) small (inr last) = holder_ladder p n small (omega arith)

      down : (m n p : ℕ) → m ≡ suc p → m < c → n ≡ 3 * (p / 2) + 2 * (p % 2) → (ladder_of c).below n ≡ some m
      down m n p next small same =
          let machine : n / 3 ≡ p / 2 = omega arith in
          ⊎_elim (λ even. below_first n m small (omega arith) (omega arith)) (λ odd. below_last n m small (omega arith) (omega arith))
          (equal_or_not (p % 2) 0)

-- the tree that comes of an opening is sound
pub comes_sound : (o : Opening) (t : Tree) → ComesOf o t → Sound t
comes_sound fresh t e = rw e fresh_sound
comes_sound ladder t e = rw e (ladder_sound ladder_machines (omega arith) (omega arith))
comes_sound (table rows) t (claimed, sound) = sound
