-- One tree hung below a node of another's root, where no number is in use in both: each tree's fields are as they were, but for that node and the
-- root that it holds, and the whole is sound. Assumes nothing.
use mathlib.Core.Path.{◌≡◌, refl, sym, ◌∙◌, ap}
use mathlib.Core.Logic.{◌⊎◌, inl, inr, ⊎_elim}
use mathlib.Core.Option.{Option, none, some}
use Prim.Native.Nat.{ℕ, ◌+◌, ◌<◌}
use native.Mathlib.Omega.{arith}
use Rattle.definitions.specs.Basics.{or_else}
use Rattle.definitions.specs.Limits.{levels}
use Rattle.definitions.specs.Tree.{Tree, Transition, Sound}
use Rattle.definitions.specs.Edit.{with_held}
use Rattle.definitions.specs.Merge.{beside}
use Rattle.definitions.proofs.Options.{present, none_some, put_same, put_other}
use Rattle.definitions.proofs.Lists.{no_value}
use Rattle.definitions.proofs.Path.{Deep, at_root, under, root_holder}
use Rattle.definitions.proofs.Words.{unused_below, unused_hold, unused_holder, unused_transition}
use Rattle.definitions.proofs.Kept.{put_some, Stays, climbs_onto, climbs_kept}

-- ---- a value, or another

-- the first, where there is no second
or_first : {A : Type 0} (o : Option A) {p : Option A} → p ≡ none → or_else o p ≡ o
or_first none e = e
or_first (some a) e = refl

-- the second, where there is no first
or_second : {A : Type 0} {o : Option A} (p : Option A) → o ≡ none → or_else o p ≡ p
or_second p e = rw e

-- neither
or_none : {A : Type 0} (o p : Option A) → or_else o p ≡ none → (o ≡ none) × (p ≡ none)
or_none none p e = (refl, e)
or_none (some a) p e = absurd (none_some e refl)

-- one of the two
or_some : {A : Type 0} (o p : Option A) {a : A} → or_else o p ≡ some a → (o ≡ some a) ⊎ (p ≡ some a)
or_some none p e = inr e
or_some (some b) p e = inl e

-- ---- the tree

-- tree t with tree u below its node b
abbrev pub hung : Tree → Tree → ℕ → Tree
hung t u b = with_held (beside t u) b u.root

-- both are sound, no number is in use in both, and b is a plain node of t's root
pub record Hangs (t u : Tree) (b : ℕ) : Type 0 where
  pub first_sound : Sound t
  pub second_sound : Sound u
  pub nodes_apart : (n i j : ℕ) → t.owner n ≡ some i → u.owner n ≡ some j → ⊥
  pub machines_apart : (m f g : ℕ) → t.start m ≡ some f → u.start m ≡ some g → ⊥
  pub node : t.owner b ≡ some t.root
  pub plain : t.below b ≡ none

module _ {t u : Tree} {b : ℕ} (h : Hangs t u b) where
  -- what the tree says of a node of t is what t says, but for what b holds
  module _ {n m : ℕ} (own : t.owner n ≡ some m) where
    unowned : u.owner n ≡ none
    unowned = no_value (u.owner n) (λ j there. h.nodes_apart n m j own there)

    pub first_owner : (hung t u b).owner n ≡ t.owner n
    unfolding beside
    first_owner = or_first (t.owner n) unowned

    pub first_below : (n ≡ b → ⊥) → (hung t u b).below n ≡ t.below n
    unfolding beside
    first_below other = put_other (beside t u).below b (some u.root) n other ∙ or_first (t.below n) (unused_below u h.second_sound n unowned)

    pub first_transition : (x : ℕ) → (hung t u b).transition n x ≡ t.transition n x
    unfolding beside
    first_transition x = or_first (t.transition n x) (unused_transition u h.second_sound n x unowned)

    pub first_hold : (hung t u b).hold n ≡ t.hold n
    unfolding beside
    first_hold = omega (arith, unused_hold u h.second_sound n unowned)

  -- and of a machine of t
  module _ {m f : ℕ} (used : t.start m ≡ some f) where
    unstarted : u.start m ≡ none
    unstarted = no_value (u.start m) (λ g there. h.machines_apart m f g used there)

    pub first_start : (hung t u b).start m ≡ t.start m
    unfolding beside
    first_start = or_first (t.start m) unstarted

    pub first_holder : (hung t u b).holder m ≡ t.holder m
    unfolding beside
    first_holder =
        put_other (beside t u).holder u.root (some b) m (λ same. none_some unstarted (ap u.start same ∙ h.second_sound.root_used.1))
        ∙ or_first (t.holder m) (unused_holder u h.second_sound m unstarted)

    pub first_leave : (hung t u b).leave m ≡ t.leave m
    unfolding beside
    first_leave = omega (arith, h.second_sound.leave_used m unstarted)

  -- what it says of a node of u is what u says
  module _ {n m : ℕ} (own : u.owner n ≡ some m) where
    new_node : t.owner n ≡ none
    new_node = no_value (t.owner n) (λ i here. h.nodes_apart n i m here own)

    pub second_owner : (hung t u b).owner n ≡ u.owner n
    unfolding beside
    second_owner = or_second (u.owner n) new_node

    pub second_below : (hung t u b).below n ≡ u.below n
    unfolding beside
    second_below =
        put_other (beside t u).below b (some u.root) n (λ same. none_some new_node (ap t.owner same ∙ h.node))
        ∙ or_second (u.below n) (unused_below t h.first_sound n new_node)

    pub second_transition : (x : ℕ) → (hung t u b).transition n x ≡ u.transition n x
    unfolding beside
    second_transition x = or_second (u.transition n x) (unused_transition t h.first_sound n x new_node)

    pub second_hold : (hung t u b).hold n ≡ u.hold n
    unfolding beside
    second_hold = omega (arith, unused_hold t h.first_sound n new_node)

  -- and of a machine of u, but for what holds its root
  module _ {m f : ℕ} (used : u.start m ≡ some f) where
    new_machine : t.start m ≡ none
    new_machine = no_value (t.start m) (λ g here. h.machines_apart m g f here used)

    pub second_start : (hung t u b).start m ≡ u.start m
    unfolding beside
    second_start = or_second (u.start m) new_machine

    pub second_holder : (m ≡ u.root → ⊥) → (hung t u b).holder m ≡ u.holder m
    unfolding beside
    second_holder other =
        put_other (beside t u).holder u.root (some b) m other ∙ or_second (u.holder m) (unused_holder t h.first_sound m new_machine)

    pub second_leave : (hung t u b).leave m ≡ u.leave m
    unfolding beside
    second_leave = omega (arith, h.first_sound.leave_used m new_machine)

  -- node b holds u's root
  hung_below : (hung t u b).below b ≡ some u.root
  hung_below = put_same (beside t u).below b (some u.root)

  pub hung_holder : (hung t u b).holder u.root ≡ some b
  hung_holder = put_same (beside t u).holder u.root (some b)

  -- ---- so all that both have stays

  first_owners : Stays t.owner (hung t u b).owner
  first_owners n m e = first_owner e ∙ e

  first_starts : Stays t.start (hung t u b).start
  first_starts m f e = first_start e ∙ e

  first_belows : Stays t.below (hung t u b).below
  first_belows n m e =
      let own = h.first_sound.holder_used m n (h.first_sound.below_held n m e) in
      first_below own.1 (λ same. none_some h.plain (ap t.below (sym same) ∙ e)) ∙ e

  first_holders : Stays t.holder (hung t u b).holder
  first_holders m n e = first_holder (h.first_sound.held_used m n e).1 ∙ e

  second_owners : Stays u.owner (hung t u b).owner
  second_owners n m e = second_owner e ∙ e

  second_starts : Stays u.start (hung t u b).start
  second_starts m f e = second_start e ∙ e

  second_belows : Stays u.below (hung t u b).below
  second_belows n m e = second_below (h.second_sound.holder_used m n (h.second_sound.below_held n m e)).1 ∙ e

  second_holders : Stays u.holder (hung t u b).holder
  second_holders m n e = second_holder (h.second_sound.held_used m n e).1 (λ same. root_holder h.second_sound same e) ∙ e

  -- ---- and nothing else is there

  owner_cases : (n m : ℕ) → (hung t u b).owner n ≡ some m → (t.owner n ≡ some m) ⊎ (u.owner n ≡ some m)
  unfolding beside
  owner_cases n m e = or_some (t.owner n) (u.owner n) e

  start_cases : (m f : ℕ) → (hung t u b).start m ≡ some f → (t.start m ≡ some f) ⊎ (u.start m ≡ some f)
  unfolding beside
  start_cases m f e = or_some (t.start m) (u.start m) e

  below_cases : (n m : ℕ) → (hung t u b).below n ≡ some m
      → ((n ≡ b) × (u.root ≡ m)) ⊎ ((t.below n ≡ some m) ⊎ (u.below n ≡ some m))
  unfolding beside
  below_cases n m e =
      ⊎_elim inl (λ old. inr (or_some (t.below n) (u.below n) old)) (put_some (beside t u).below b u.root n e)

  holder_cases : (m n : ℕ) → (hung t u b).holder m ≡ some n
      → ((m ≡ u.root) × (b ≡ n)) ⊎ ((t.holder m ≡ some n) ⊎ (u.holder m ≡ some n))
  unfolding beside
  holder_cases m n e =
      ⊎_elim inl (λ old. inr (or_some (t.holder m) (u.holder m) old)) (put_some (beside t u).holder u.root b m e)

  transition_cases : (n x : ℕ) (a : Transition) → (hung t u b).transition n x ≡ some a
      → (t.transition n x ≡ some a) ⊎ (u.transition n x ≡ some a)
  unfolding beside
  transition_cases n x a e = or_some (t.transition n x) (u.transition n x) e

  -- a hold is one tree's or the other's
  hold_cases : (n : ℕ) → (((m : ℕ) × (t.owner n ≡ some m)) × ((hung t u b).hold n ≡ t.hold n)) ⊎ ((hung t u b).hold n ≡ u.hold n)
  unfolding beside
  hold_cases n =
      ⊎_elim (λ new. inr (omega (arith, unused_hold t h.first_sound n new))) (λ own. inl (own, first_hold own.1)) (present (t.owner n))

  -- and so is a leaving cost
  leave_cases : (m : ℕ) → ((hung t u b).leave m ≡ t.leave m) ⊎ ((hung t u b).leave m ≡ u.leave m)
  unfolding beside
  leave_cases m =
      ⊎_elim (λ new. inr (omega (arith, h.first_sound.leave_used m new))) (λ used. inl (first_leave used.1)) (present (t.start m))

  -- the whole is sound, if no machine of u comes too deep
  pub hung_sound : ((m f k : ℕ) → u.start m ≡ some f → Deep u m k → k + 1 < levels) → Sound (hung t u b)
  unfolding beside
  hung_sound room =
      let st = h.first_sound in
      let su = h.second_sound in
      let (f, root) = st.root_used in
      let (g, under_root) = su.root_used in
      record {
        root_used = (f, first_starts t.root f root);
        root_free = first_holder root ∙ st.root_free;
        machine_range = λ m i e. ⊎_elim (st.machine_range m i) (su.machine_range m i) (start_cases m i e);
        node_range = λ n m e. ⊎_elim (st.node_range n m) (su.node_range n m) (owner_cases n m e);
        owner_used = λ n m e.
            ⊎_elim (λ old. let (i, used) = st.owner_used n m old in (i, first_starts m i used))
            (λ new. let (i, used) = su.owner_used n m new in (i, second_starts m i used)) (owner_cases n m e);
        start_owned = λ m i e.
            ⊎_elim (λ old. first_owners i m (st.start_owned m i old)) (λ new. second_owners i m (su.start_owned m i new)) (start_cases m i e);
        below_held = λ n m e.
            ⊎_elim (λ here. rw (here.0, ← here.1) hung_holder)
            (⊎_elim (λ old. first_holders m n (st.below_held n m old)) (λ new. second_holders m n (su.below_held n m new)))
            (below_cases n m e);
        held_below = λ m n e.
            ⊎_elim (λ here. rw (here.0, ← here.1) hung_below)
            (⊎_elim (λ old. first_belows n m (st.held_below m n old)) (λ new. second_belows n m (su.held_below m n new)))
            (holder_cases m n e);
        holder_used = λ m n e.
            ⊎_elim (λ here. (t.root, rw (← here.1) (first_owners b t.root h.node)))
            (⊎_elim (λ old. let (p, own) = st.holder_used m n old in (p, first_owners n p own))
            (λ new. let (p, own) = su.holder_used m n new in (p, second_owners n p own)))
            (holder_cases m n e);
        held_used = λ m n e.
            ⊎_elim (λ here. (g, rw here.0 (second_starts u.root g under_root)))
            (⊎_elim (λ old. let (i, used) = st.held_used m n old in (i, first_starts m i used))
            (λ new. let (i, used) = su.held_used m n new in (i, second_starts m i used)))
            (holder_cases m n e);
        transition_range = λ n x a e. ⊎_elim (st.transition_range n x a) (su.transition_range n x a) (transition_cases n x a e);
        transition_owned = λ n x a e.
            ⊎_elim
            (λ old. let (p, here, there) = st.transition_owned n x a old in (p, first_owners n p here, first_owners a.target p there))
            (λ new. let (p, here, there) = su.transition_owned n x a new in (p, second_owners n p here, second_owners a.target p there))
            (transition_cases n x a e);
        hold_range = λ n.
            ⊎_elim (λ old. omega (arith, old.1, st.hold_range n)) (λ new. omega (arith, new, su.hold_range n)) (hold_cases n);
        hold_used = λ n e.
            ⊎_elim (λ old. let (m, own) = old.0 in (m, first_owners n m own))
            (λ new. let (m, own) = su.hold_used n (sym new ∙ e) in (m, second_owners n m own)) (hold_cases n);
        hold_start = λ m i e.
            ⊎_elim (λ old. first_hold (st.start_owned m i old) ∙ st.hold_start m i old)
            (λ new. second_hold (su.start_owned m i new) ∙ su.hold_start m i new) (start_cases m i e);
        leave_range = λ m.
            ⊎_elim (λ old. omega (arith, old, st.leave_range m)) (λ new. omega (arith, new, su.leave_range m)) (leave_cases m);
        leave_used = λ m e.
            let (old, new) = or_none (t.start m) (u.start m) e in
            omega (arith, st.leave_used m old, su.leave_used m new);
        leave_root = first_leave root ∙ st.leave_root;
        climbs = λ m i e.
            ⊎_elim (climbs_kept st (hung t u b) refl first_holders first_owners m i)
            (climbs_onto su (under {h = b} hung_holder (first_owners b t.root h.node) (at_root refl)) second_holders second_owners room m i)
            (start_cases m i e);
      }
