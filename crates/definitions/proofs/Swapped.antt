-- Whether two trees are alike but for what is below a node, by one computed test. Assumes nothing.
use mathlib.Core.Path.{◌≡◌, refl, sym, ◌∙◌, ap, ap₂}
use mathlib.Core.Logic.{⊎_elim}
use mathlib.Core.Bool.{Bool, true, false, cond, ◌&&◌}
use mathlib.Core.Option.{Option, none, some}
use Prim.Native.Nat.{ℕ, ◌≤◌, ◌<◌}
use native.Mathlib.Omega.{arith}
use lib.Dec.{eqb}
use borrow.Author.Tests.{eqb-true}
use Rattle.definitions.specs.Basics.{unless}
use Rattle.definitions.specs.Limits.{machines, nodes, commands}
use Rattle.definitions.specs.Tree.{Tree, Transition, Sound}
use Rattle.definitions.specs.Edit.{held_within}
use Rattle.definitions.specs.Replaced.{beneath, pruned}
use Rattle.definitions.proofs.Options.{true_false, and_true, less_or_not}
use Rattle.definitions.proofs.Words.{same_tree, unused_below, unused_hold, unused_transition, unused_holder}
use Rattle.definitions.proofs.Lists.{no_value}
use Rattle.definitions.proofs.Tests.{all_below, all_below_lem}

-- ---- the test

unfoldable pub same_number : Option ℕ → Option ℕ → Bool
same_number none none = true
same_number none (some b) = false
same_number (some a) none = false
same_number (some a) (some b) = eqb a b

pub same_number_lem : (o p : Option ℕ) → same_number o p ≡ true → o ≡ p
unfolding same_number
same_number_lem none none e = refl
same_number_lem none (some b) e = absurd (true_false e refl)
same_number_lem (some a) none e = absurd (true_false e refl)
same_number_lem (some a) (some b) e = ap some (eqb-true a b e)

unfoldable pub same_transition : Option Transition → Option Transition → Bool
same_transition none none = true
same_transition none (some b) = false
same_transition (some a) none = false
same_transition (some a) (some b) = eqb a.target b.target && eqb a.cost b.cost

same_transition_lem : (o p : Option Transition) → same_transition o p ≡ true → o ≡ p
unfolding same_transition
same_transition_lem none none e = refl
same_transition_lem none (some b) e = absurd (true_false e refl)
same_transition_lem (some a) none e = absurd (true_false e refl)
same_transition_lem (some a) (some b) e =
    let (target, cost) = and_true (eqb a.target b.target) (eqb a.cost b.cost) e in
    ap₂ (λ (v c : ℕ). some (record { target = v; cost = c })) (eqb-true a.target b.target target) (eqb-true a.cost b.cost cost)

-- whether two trees say the same of node d, of machine m
unfoldable pub same_node : Tree → Tree → ℕ → Bool
same_node t u d =
    same_number (t.owner d) (u.owner d)
    && (same_number (t.below d) (u.below d)
    && (eqb (t.hold d) (u.hold d) && all_below commands (λ x. same_transition (t.transition d x) (u.transition d x))))

unfoldable pub same_machine : Tree → Tree → ℕ → Bool
same_machine t u m = same_number (t.start m) (u.start m) && (same_number (t.holder m) (u.holder m) && eqb (t.leave m) (u.leave m))

-- the whole test
unfoldable pub alike_test : Tree → Tree → ℕ → Bool
alike_test t u n =
    eqb t.root u.root && (all_below nodes (same_node (pruned t n) (pruned u n)) && all_below machines (same_machine (pruned t n) (pruned u n)))

-- ---- what is not in range is empty

nothing : {A : Type 0} (b : Bool) {o : Option A} → o ≡ none → unless b o ≡ none
nothing true e = refl
nothing false e = e

no_number : (b : Bool) {c : ℕ} → c ≡ 0 → cond b 0 c ≡ 0
no_number true e = refl
no_number false e = e

module _ {t : Tree} (sound : Sound t) (n : ℕ) where
  far_owner : (d : ℕ) → nodes ≤ d → t.owner d ≡ none
  far_owner d far = no_value (t.owner d) (λ m e. omega (arith, sound.node_range d m e, far))

  far_start : (m : ℕ) → machines ≤ m → t.start m ≡ none
  far_start m far = no_value (t.start m) (λ s e. omega (arith, sound.machine_range m s e, far))

  far_node : (d : ℕ) → nodes ≤ d → ((pruned t n).owner d ≡ none) × ((pruned t n).below d ≡ none) × ((pruned t n).hold d ≡ 0) × ((x : ℕ) → (pruned t n).transition d x ≡ none)
  unfolding pruned
  far_node d far =
      let off = far_owner d far in (
        nothing (beneath t n d) off,
        nothing (eqb d n) (nothing (beneath t n d) (unused_below t sound d off)),
        no_number (beneath t n d) (unused_hold t sound d off),
        λ x. nothing (beneath t n d) (unused_transition t sound d x off),
      )

  far_machine : (m : ℕ) → machines ≤ m → ((pruned t n).start m ≡ none) × ((pruned t n).holder m ≡ none) × ((pruned t n).leave m ≡ 0)
  unfolding pruned
  far_machine m far =
      let off = far_start m far in (
        nothing (held_within t n m) off,
        nothing (held_within t n m) (unused_holder t sound m off),
        no_number (held_within t n m) (sound.leave_used m off),
      )

  far_command : (d x : ℕ) → commands ≤ x → (pruned t n).transition d x ≡ none
  unfolding pruned
  far_command d x far = nothing (beneath t n d) (no_value (t.transition d x) (λ a e. omega (arith, (sound.transition_range d x a e).0, far)))

-- ---- so trees that pass the test are alike

module _ {t u : Tree} (sound : Sound t) (sound_too : Sound u) (n : ℕ) (passes_it : alike_test t u n ≡ true) where
  abbrev p : Tree
  p = pruned t n

  abbrev q : Tree
  q = pruned u n

  root_tested : t.root ≡ u.root
  unfolding alike_test
  root_tested = eqb-true t.root u.root (and_true (eqb t.root u.root) (all_below nodes (same_node p q) && all_below machines (same_machine p q)) passes_it).0

  nodes_tested : (all_below nodes (same_node p q) ≡ true) × (all_below machines (same_machine p q) ≡ true)
  unfolding alike_test
  nodes_tested =
      and_true (all_below nodes (same_node p q)) (all_below machines (same_machine p q))
      (and_true (eqb t.root u.root) (all_below nodes (same_node p q) && all_below machines (same_machine p q)) passes_it).1

  -- what the test says of a node in range, and of a machine
  node_same : (d : ℕ) → d < nodes
      → (p.owner d ≡ q.owner d) × (p.below d ≡ q.below d) × (p.hold d ≡ q.hold d) × ((x : ℕ) → x < commands → p.transition d x ≡ q.transition d x)
  unfolding same_node
  node_same d small =
      let rows = all_below commands (λ x. same_transition (p.transition d x) (q.transition d x)) in
      let hold = eqb (p.hold d) (q.hold d) in
      let below = same_number (p.below d) (q.below d) in
      let (a, rest) = and_true (same_number (p.owner d) (q.owner d)) (below && (hold && rows)) (all_below_lem nodes (same_node p q) nodes_tested.0 d small) in
      let (b, last) = and_true below (hold && rows) rest in
      let (c, e) = and_true hold rows last in (
        same_number_lem (p.owner d) (q.owner d) a,
        same_number_lem (p.below d) (q.below d) b,
        eqb-true (p.hold d) (q.hold d) c,
        λ x range. same_transition_lem (p.transition d x) (q.transition d x) (all_below_lem commands (λ y. same_transition (p.transition d y) (q.transition d y)) e x range),
      )

  machine_same : (m : ℕ) → m < machines → (p.start m ≡ q.start m) × (p.holder m ≡ q.holder m) × (p.leave m ≡ q.leave m)
  unfolding same_machine
  machine_same m small =
      let leave = eqb (p.leave m) (q.leave m) in
      let holder = same_number (p.holder m) (q.holder m) in
      let (a, rest) = and_true (same_number (p.start m) (q.start m)) (holder && leave) (all_below_lem machines (same_machine p q) nodes_tested.1 m small) in
      let (b, c) = and_true holder leave rest in
      (same_number_lem (p.start m) (q.start m) a, same_number_lem (p.holder m) (q.holder m) b, eqb-true (p.leave m) (q.leave m) c)

  -- in range by the test, and out of it all is empty
  each_one : (limit : ℕ) {A : Type 0} (f : Tree → ℕ → A) (i : ℕ) → (i < limit → f p i ≡ f q i) → (limit ≤ i → f p i ≡ f q i) → f p i ≡ f q i
  each_one limit f i near far = ⊎_elim near far (less_or_not i limit)

  transition_same : (d x : ℕ) → p.transition d x ≡ q.transition d x
  transition_same d x =
      ⊎_elim
      (λ near.
      ⊎_elim (λ small. (node_same d small).3 x near) (λ far. (far_node sound n d far).3 x ∙ sym ((far_node sound_too n d far).3 x)) (less_or_not d nodes))
      (λ far. far_command sound n d x far ∙ sym (far_command sound_too n d x far))
      (less_or_not x commands)

  root_pruned : p.root ≡ q.root
  unfolding pruned
  root_pruned = root_tested

  pub tested_alike : pruned t n ≡ pruned u n
  tested_alike =
      same_tree p q root_pruned
      (λ d. each_one nodes (λ w. w.owner) d (λ s. (node_same d s).0) (λ f. (far_node sound n d f).0 ∙ sym (far_node sound_too n d f).0))
      (λ d. each_one nodes (λ w. w.below) d (λ s. (node_same d s).1) (λ f. (far_node sound n d f).1 ∙ sym (far_node sound_too n d f).1))
      (λ m. each_one machines (λ w. w.start) m (λ s. (machine_same m s).0) (λ f. (far_machine sound n m f).0 ∙ sym (far_machine sound_too n m f).0))
      (λ m. each_one machines (λ w. w.holder) m (λ s. (machine_same m s).1) (λ f. (far_machine sound n m f).1 ∙ sym (far_machine sound_too n m f).1))
      transition_same
      (λ d. each_one nodes (λ w. w.hold) d (λ s. (node_same d s).2) (λ f. (far_node sound n d f).2 ∙ sym (far_node sound_too n d f).2))
      (λ m. each_one machines (λ w. w.leave) m (λ s. (machine_same m s).2) (λ f. (far_machine sound n m f).2 ∙ sym (far_machine sound_too n m f).2))
