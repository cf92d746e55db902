-- One machine opened, with a distance for each of its nodes: what is asked for a potential (see Potential). With the costs of a filled row this bounds
-- the exit costs of the machine; with distances that are still to be written it bounds these. Assumes nothing.
use mathlib.Core.Path.{◌≡◌, refl, sym, ◌∙◌, subst}
use mathlib.Core.Bool.{Bool, true, false}
use mathlib.Core.Option.{Option, none, some}
use Prim.Native.Nat.{ℕ, ◌+◌, ◌≤◌}
use native.Mathlib.Omega.{arith}
use lib.Dec.{eqb}
use borrow.Author.Tests.{eq-eqb, ne_eqb, eqb-true}
use Rattle.definitions.specs.Tree.{Tree, Transition, Sound, parent}
use Rattle.definitions.specs.Step.{counting, found, climb, Arrival}
use Rattle.definitions.specs.Sheet.{Rows}
use Rattle.definitions.specs.Truth.{node_exit, move}
use Rattle.definitions.proofs.Path.{Inside, own, Enters, counting_owned, climb_own, climb_top, passed_found}
use Rattle.definitions.proofs.Inside.{inside_apart}
use Rattle.definitions.proofs.Local.{Relaxed, move_by}
use Rattle.definitions.proofs.Potential.{Shut, Lands, here, Frame, Potential, base, potential_enters}

-- machine m alone is opened
abbrev pub only : ℕ → ℕ → Bool
only m p = eqb p m

-- a node of an opened machine is one of m's
pub is_only : (t : Tree) (m : ℕ) {n p : ℕ} → t.owner n ≡ some p → only m p ≡ true → t.owner n ≡ some m
is_only t m {n} {p} own_n op = subst (λ (k : ℕ). t.owner n ≡ some k) (eqb-true p m op) own_n

-- machine m is not below a node inside it
pub only_shut : {t : Tree} → Sound t → {m n b : ℕ} → Inside t m n → t.below n ≡ some b → only m b ≡ false
only_shut s {m} {n} {b} i bel =
    let hold = s.below_held n b bel in
    let (g, used) = s.held_used b n hold in
    let first = s.start_owned b g used in
    ne_eqb b m (inside_apart s hold i (own first) first)

-- the transition that a climb in a node's own machine finds
own_found : (t : Tree) (m n x : ℕ) {u v c : ℕ} → t.owner n ≡ some m → climb t m n x ≡ found u v c → (o : Option Transition) → counting t n x ≡ o
    → (a : Transition) × (counting t n x ≡ some a) × (a.target ≡ v) × (a.cost ≡ c)
own_found t m n x own_n up none e = absurd (passed_found (climb_top t m n x own_n e) up)
own_found t m n x own_n up (some a) e =
    let same = sym (climb_own t m n x a e) ∙ up in
    (a, e, cc, cc)

-- every move inside machine m from a node with a distance is accounted for
abbrev pub MovesRelaxed : Tree → Rows → ℕ → (ℕ → Option ℕ) → Type 0
MovesRelaxed t r m distance =
    (n c x : ℕ) (b : Arrival) → t.owner n ≡ some m → distance n ≡ some c → move t r n x ≡ some b
    → (d : ℕ) × (distance b.node ≡ some d) × (d ≤ c + b.cost)

-- the machines just below m are filled
abbrev pub FilledUnder : Tree → Rows → ℕ → Type 0
FilledUnder t r m = (n b : ℕ) → t.owner n ≡ some m → t.below n ≡ some b → r.stale b ≡ false

module _ {t : Tree} (s : Sound t) (r : Rows) (relaxed : (p g : ℕ) → t.start p ≡ some g → r.stale p ≡ false → Relaxed t r p g)
    (filled_below : (p q : ℕ) → parent t p ≡ some q → r.stale q ≡ false → r.stale p ≡ false) (m : ℕ) (under : FilledUnder t r m)
    (distance : ℕ → Option ℕ) (moves : MovesRelaxed t r m distance) where
  only_moves : (q p d x u v c e : ℕ) → t.owner q ≡ some p → only m p ≡ true → Shut t (only m) q → distance q ≡ some d
      → climb t m q x ≡ found u v c → node_exit t r q x ≡ some e
      → (w : ℕ) × (p' : ℕ) × (d' : ℕ) × Lands t (only m) v w × (t.owner w ≡ some p') × (only m p' ≡ true) × (distance w ≡ some d') × (d' ≤ d + e + c)
  only_moves q p d x u v c e own_q op shut cost up exit =
      let own_m = is_only t m own_q op in
      let (a, has, target, price) = own_found t m q x own_m up (counting t q x) refl in
      let own_v : t.owner v ≡ some m = subst (λ (k : ℕ). t.owner k ≡ some m) target (counting_owned s q x a has own_m) in
      let (d', cost', le) = moves q d x _ own_m cost (move_by t r q x has exit) in
      let cost_v : distance v ≡ some d' = subst (λ (k : ℕ). distance k ≡ some d') target cost' in
      (v, m, d', here (λ b bel. only_shut s (own own_v) bel), own_v, eq-eqb m m refl, cost_v, omega (arith, price))

  pub only_frame : Frame t r m (only m) distance
  only_frame =
      record {
        sound = s;
        top_opened = eq-eqb m m refl;
        inside = λ n p own_n op. own (is_only t m own_n op);
        shut_below = λ n p b i own_n shut bel. only_shut s i bel;
        relaxed = relaxed;
        filled_below = filled_below;
        filled = λ n p b own_n op bel shut. under n b (is_only t m own_n op) bel;
        moves = only_moves;
      }

  -- the state where a node of m is entered has that node's distance as its potential
  pub only_potential : {n d e : ℕ} → t.owner n ≡ some m → distance n ≡ some d → Enters t n e → Potential t r (only m) distance e d
  only_potential own_n far en =
      potential_enters t r m (only m) distance only_frame (base own_n (eq-eqb m m refl) (λ b bel. only_shut s (own own_n) bel) far) en
