-- A tree that is read out of words is sound exactly where its root fits and every machine and every node fits. Assumes nothing.
use mathlib.Core.Path.{◌≡◌, refl, ◌∙◌, ap}
use mathlib.Core.Logic.{◌↔◌, ◌⊎◌, inl, inr, ⊎_elim}
use mathlib.Core.Option.{some}
use Prim.Native.Nat.{ℕ, ◌≤◌, ◌<◌}
use native.Mathlib.Omega.{arith}
use Rattle.definitions.specs.Limits.{machines, nodes, commands, costs, blank}
use Rattle.definitions.specs.Tree.{Tree, Transition, Sound}
use Rattle.definitions.specs.Book.{transition_word}
use Rattle.definitions.proofs.Options.{none_some, some_same, equal_or_not, less_or_not, present}
use Rattle.book.proofs.Said.{Within}
use Rattle.wellformed.specs.Fits.{RootFits, LeaveFits, MachinesFit, HoldFits, NodesFit}

-- a tree that is read out of words speaks so of machines, nodes and commands, and its costs are in range
pub record Read (t : Tree) : Type 0 where
  pub owner : (n : ℕ) → Within nodes n (t.owner n)
  pub below : (n : ℕ) → Within nodes n (t.below n)
  pub start : (m : ℕ) → Within machines m (t.start m)
  pub holder : (m : ℕ) → Within machines m (t.holder m)
  pub transition : (n x : ℕ) (a : Transition) → t.transition n x ≡ some a
      → (n < nodes) × (x < commands) × (a.cost < costs) × (transition_word (some a) ≡ blank → ⊥)
  pub hold : (n : ℕ) → nodes ≤ n → t.hold n ≡ 0
  pub leave : (m : ℕ) → machines ≤ m → t.leave m ≡ 0

-- the root, every machine and every node fit
abbrev pub AllFit : Tree → Type 0
AllFit t = RootFits t × MachinesFit t × NodesFit t

-- a hold of a sound tree fits
hold_fits : {t : Tree} → Sound t → (n : ℕ) → HoldFits t n
hold_fits {t} s n =
    ⊎_elim
    (λ one.
    let (m, own) = s.hold_used n one in
    inr (one, (m, own, λ first. omega (arith, s.hold_start m n first))))
    (λ other. inl (omega (arith, s.hold_range n))) (equal_or_not (t.hold n) 1)

-- a hold that fits is 0 or 1
hold_small : (h : ℕ) {P : Type 0} → (h ≡ 0) ⊎ ((h ≡ 1) × P) → h < 2
hold_small h fit = ⊎_elim (λ zero_hold. omega arith) (λ one. omega (arith, one.0)) fit

-- and where it is 1 the rest is so
hold_one : (h : ℕ) {P : Type 0} → (h ≡ 0) ⊎ ((h ≡ 1) × P) → h ≡ 1 → P
hold_one h fit one = ⊎_elim (λ zero_hold. absurd (omega arith)) (λ rest. rest.1) fit

-- a leaving cost of a sound tree fits
leave_fits : {t : Tree} → Sound t → (m : ℕ) → LeaveFits t m
leave_fits {t} s m =
    ⊎_elim inl
    (λ charged.
    inr (
      s.leave_range m,
      ⊎_elim (λ unused. absurd (charged (s.leave_used m unused))) (λ used. used) (present (t.start m)),
      λ same. charged (ap t.leave same ∙ s.leave_root),
    ))
    (equal_or_not (t.leave m) 0)

-- a sound tree fits
fits : {t : Tree} → Sound t → AllFit t
fits {t} s = (
  record { used = s.root_used; free = s.root_free },
  λ m h.
      record {
        start = λ f e. (s.start_owned m f e, s.climbs m f e);
        holder = λ n e. (s.held_below m n e, s.holder_used m n e, s.held_used m n e);
        leave = leave_fits s m;
      },
  λ n h.
      record { owner = s.owner_used n; below = s.below_held n; hold = hold_fits s n; transitions = λ x l. s.transition_owned n x },
)

-- a tree that is read out of words and fits is sound
sound : {t : Tree} → Read t → AllFit t → Sound t
sound {t} l (root, machine, node) =
    record {
      root_used = root.used;
      root_free = root.free;
      machine_range = λ m s e. (l.start m s e).0;
      node_range = λ n m e. (l.owner n m e).0;
      owner_used = λ n m e. (node n (l.owner n m e).0).owner m e;
      start_owned = λ m s e. ((machine m (l.start m s e).0).start s e).0;
      below_held = λ n m e. (node n (l.below n m e).0).below m e;
      held_below = λ m n e. ((machine m (l.holder m n e).0).holder n e).0;
      holder_used = λ m n e. ((machine m (l.holder m n e).0).holder n e).1;
      held_used = λ m n e. ((machine m (l.holder m n e).0).holder n e).2;
      transition_range = λ n x a e. let r = l.transition n x a e in (r.1, r.2);
      transition_owned =
          λ n x a e.
          let r = l.transition n x a e in
          (node n r.0).transitions x r.1 a e;
      hold_range = λ n. hold_small (t.hold n) (hold n);
      hold_used = λ n one. let (m, own, other) = hold_one (t.hold n) (hold n) one in (m, own);
      hold_start = λ m s e.
          ⊎_elim (λ free. free)
          (λ rest.
          let (p, own, other) = rest.1 in
          absurd (other (ap t.start (some_same own ((machine m (l.start m s e).0).start s e).0) ∙ e))) (hold s);
      leave_range = λ m. ⊎_elim (λ free. omega (arith, free)) (λ rest. rest.0) (leave m);
      leave_used = λ m e. ⊎_elim (λ free. free) (λ rest. absurd (none_some e rest.1.1)) (leave m);
      leave_root = ⊎_elim (λ free. free) (λ rest. absurd (rest.2 refl)) (leave t.root);
      climbs = λ m s e. ((machine m (l.start m s e).0).start s e).1;
    }
  where
    leave : (m : ℕ) → LeaveFits t m
    leave m = ⊎_elim (λ small. (machine m small).leave) (λ past. inl (l.leave m past)) (less_or_not m machines)

    hold : (n : ℕ) → HoldFits t n
    hold n = ⊎_elim (λ small. (node n small).hold) (λ past. inl (l.hold n past)) (less_or_not n nodes)

-- so the two are one
pub sound_fits : {t : Tree} → Read t → Sound t ↔ AllFit t
sound_fits l = (fits, sound l)
