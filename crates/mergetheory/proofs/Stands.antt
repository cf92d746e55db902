-- A tree that stands in another at the numbers to which its machines and nodes move: from what the fields are there, least costs are the same.
-- Assumes nothing.
use mathlib.Core.Path.{◌≡◌, ◌∙◌, ap, subst₂}
use mathlib.Core.Logic.{⊎_elim}
use mathlib.Core.Bool.{true}
use mathlib.Core.Option.{Option, none, some}
use Prim.Native.Nat.{ℕ}
use lib.Dec.{eqb}
use Rattle.definitions.specs.Basics.{◌>>=◌, option}
use Rattle.definitions.specs.Tree.{Tree, Transition, Sound, is_state, on_hold}
use Rattle.definitions.specs.Step.{counting}
use Rattle.definitions.specs.Costs.{LeastCost}
use Rattle.definitions.specs.Merge.{moved_transition, SameCosts}
use Rattle.definitions.proofs.Options.{present, some_same, decided}
use Rattle.definitions.proofs.Path.{counting_is, counting_some, counting_shut, counting_none, root_holder}
use Rattle.definitions.proofs.Tests.{state_parts}
use Rattle.mergetheory.proofs.Embedded.{Embeds, embedded_state, embedded_cost, unembedded_cost}

-- the number to which a number moves
abbrev pub goes_to : (ℕ → Option ℕ) → ℕ → ℕ
goes_to to n = option 0 (λ k. k) (to n)

-- a number that moves goes there
pub goes_there : (to : ℕ → Option ℕ) (n : ℕ) {k : ℕ} → to n ≡ some k → to n ≡ some (goes_to to n)
goes_there to n e = rw e

-- Nodes of tree t move by one function and machines by another. Tree w says of the number of a node or machine in use what t says of the node
-- or machine, moved; only t's root, which nothing holds in t, is held in w by a node of w's root, one without transitions.
pub record Stands (t w : Tree) (node machine : ℕ → Option ℕ) : Type 0 where
  pub node_to : {n m : ℕ} → t.owner n ≡ some m → node n ≡ some (goes_to node n)
  pub machine_to : {m f : ℕ} → t.start m ≡ some f → machine m ≡ some (goes_to machine m)
  pub one : {n i k : ℕ} → node n ≡ some k → node i ≡ some k → n ≡ i
  pub owner : {n m : ℕ} → t.owner n ≡ some m → w.owner (goes_to node n) ≡ (t.owner n >>= machine)
  pub below : {n m : ℕ} → t.owner n ≡ some m → w.below (goes_to node n) ≡ (t.below n >>= machine)
  pub transition : {n m : ℕ} → t.owner n ≡ some m → (x : ℕ) → w.transition (goes_to node n) x ≡ (t.transition n x >>= moved_transition node)
  pub hold : {n m : ℕ} → t.owner n ≡ some m → w.hold (goes_to node n) ≡ t.hold n
  pub start : {m f : ℕ} → t.start m ≡ some f → w.start (goes_to machine m) ≡ (t.start m >>= node)
  pub holder : {m f : ℕ} → t.start m ≡ some f → (m ≡ t.root → ⊥) → w.holder (goes_to machine m) ≡ (t.holder m >>= node)
  pub leave : {m f : ℕ} → t.start m ≡ some f → w.leave (goes_to machine m) ≡ t.leave m
  pub apart : {m f : ℕ} → t.start m ≡ some f → goes_to machine m ≡ w.root → ⊥
  pub top : ℕ
  pub held : w.holder (goes_to machine t.root) ≡ some top
  pub top_owner : w.owner top ≡ some w.root
  pub top_free : (x : ℕ) → w.transition top x ≡ none

-- ---- what follows

module _ {t w : Tree} (st : Sound t) {node machine : ℕ → Option ℕ} (s : Stands t w node machine) where
  -- the transition that counts for a command at a node's number: a target is held in both or in neither
  counts_there : {n m : ℕ} → t.owner n ≡ some m → (x : ℕ) → counting w (goes_to node n) x ≡ (counting t n x >>= moved_transition node)
  counts_there {n} own x = ⊎_elim absent there (present (t.transition n x))
    where
      absent : t.transition n x ≡ none → counting w (goes_to node n) x ≡ (counting t n x >>= moved_transition node)
      absent e = counting_none w (goes_to node n) x (s.transition own x ∙ rw e) ∙ rw (counting_none t n x e)

      there : (a : Transition) × (t.transition n x ≡ some a) → counting w (goes_to node n) x ≡ (counting t n x >>= moved_transition node)
      there (a, e) =
          let (m, here, target) = st.transition_owned n x a e in
          let b : Transition = record { target = goes_to node a.target; cost = a.cost } in
          let has : w.transition (goes_to node n) x ≡ some b = s.transition own x ∙ rw (e, s.node_to target) in
          let held : on_hold w b.target ≡ on_hold t a.target = ap (λ (h : ℕ). eqb h 1) (s.hold target) in
          ⊎_elim
          (λ shut. counting_shut w (goes_to node n) x b has (held ∙ shut) ∙ rw (counting_shut t n x a e shut))
          (λ free. counting_some w (goes_to node n) x b has (held ∙ free) ∙ rw (counting_some t n x a e free, s.node_to target))
          (decided (on_hold t a.target))

  -- the tree is embedded
  stands_embeds : Embeds t w (goes_to node) (goes_to machine)
  stands_embeds =
      record {
        owner = λ n m own. s.owner own ∙ rw own (s.machine_to (st.owner_used n m own).1);
        plain = λ n m own e. s.below own ∙ rw e;
        below = λ n m e.
            let held = st.below_held n m e in
            s.below (st.holder_used m n held).1 ∙ rw e (s.machine_to (st.held_used m n held).1);
        start = λ m f e. s.start e ∙ rw e (s.node_to (st.start_owned m f e));
        holder = λ m n e.
            s.holder (st.held_used m n e).1 (λ same. root_holder st same e) ∙ rw e (s.node_to (st.holder_used m n e).1);
        counts = λ n x a e.
            let (m, own, there) = st.transition_owned n x a (counting_is t n x a e) in
            counts_there own x ∙ rw (e, s.node_to there);
        counts_not = λ n m x own e. counts_there own x ∙ rw e;
        leaves = λ m n e. s.leave (st.held_used m n e).1;
        apart = λ m f e. s.apart e;
        one = λ n m k j own other same. s.one (s.node_to own ∙ ap {B = Option ℕ} some same) (s.node_to other);
        top = s.top;
        held = s.held;
        top_owner = s.top_owner;
        top_free = λ x. counting_none w s.top x (s.top_free x);
      }

  -- a state's number
  state_to : (n : ℕ) → is_state t n ≡ true → node n ≡ some (goes_to node n)
  state_to n e = s.node_to (state_parts t n e).1

  -- and so costs are the same
  pub stands_same : Sound w → SameCosts t w node
  stands_same sw =
      record {
        state = λ n e. (goes_to node n, state_to n e, embedded_state st sw stands_embeds n e);
        there = λ a b c d o sa sb ac bd least.
            subst₂ (λ (i j : ℕ). LeastCost w i j o) (some_same (state_to a sa) ac) (some_same (state_to b sb) bd)
            (embedded_cost st sw stands_embeds a b o sa sb least);
        back = λ a b c d o sa sb ac bd least.
            unembedded_cost st sw stands_embeds a b o sa sb
            (subst₂ (λ (i j : ℕ). LeastCost w i j o) (some_same ac (state_to a sa)) (some_same bd (state_to b sb)) least);
      }
