-- What is below a node: the node itself, and the nodes of the machines below it. Two nodes of one machine, and two positions of the
-- search, have nothing below them in common. Assumes nothing.
use mathlib.Core.Path.{◌≡◌, refl, sym, ◌∙◌, ap, subst}
use mathlib.Core.Bool.{Bool, true}
use mathlib.Core.Option.{some}
use Prim.Native.Nat.{ℕ, ◌≤◌}
use native.Mathlib.Omega.{arith}
use Rattle.definitions.specs.Tree.{Tree, Sound, level}
use Rattle.definitions.proofs.Options.{true_false}
use Rattle.definitions.proofs.Path.{parent_below, level_on, same_level}
use Rattle.definitions.proofs.Potential.{Shut}
use Rattle.plantheory.proofs.Landing.{Opening, Position}

-- node d is node n or below it
pub data Under (t : Tree) (n : ℕ) : ℕ → Type 0 where
  itself : {d : ℕ} → n ≡ d → Under t n d
  lower : {d m h : ℕ} → t.owner d ≡ some m → t.holder m ≡ some h → Under t n h → Under t n d

-- what is below a node is below every node that this one is below
pub under_trans : {t : Tree} {u v d : ℕ} → Under t u v → Under t v d → Under t u d
under_trans {t} {u} upper (itself same) = subst (Under t u) same upper
under_trans upper (lower own_d hold inner) = lower own_d hold (under_trans upper inner)

-- a node of the machine below a node is below that node
pub under_held : {t : Tree} {u b v d : ℕ} → t.holder b ≡ some u → t.owner v ≡ some b → Under t v d → Under t u d
under_held hold own_v inner = under_trans (lower own_v hold (itself refl)) inner

-- what is below a node is not at a higher level
under_level : {t : Tree} → Sound t → {n d : ℕ} → Under t n d → level t n ≤ level t d
under_level {t} s (itself same) = omega (arith, ap (level t) same)
under_level s (lower own_d hold inner) = omega (arith, level_on s own_d hold, under_level s inner)

-- Nodes of a kind are apart where two of them have a node below in common only if they are one.
abbrev pub Apart : Tree → (ℕ → Type 0) → Type 0
Apart t P = (u v d : ℕ) → P u → P v → Under t u d → Under t v d → u ≡ v

-- the nodes of one machine are apart
pub machine_apart : {t : Tree} → Sound t → (m : ℕ) → Apart t (λ n. t.owner n ≡ some m)
machine_apart {t} s m u v d own_u own_v (itself p) (itself q) = p ∙ sym q
machine_apart {t} s m u v d own_u own_v (itself p) (lower own_d hold inner) =
    absurd (omega (arith, same_level s own_u own_v, ap (level t) p, level_on s own_d hold, under_level s inner))
machine_apart {t} s m u v d own_u own_v (lower own_d hold inner) (itself q) =
    absurd (omega (arith, same_level s own_u own_v, ap (level t) q, level_on s own_d hold, under_level s inner))
machine_apart {t} s m u v d own_u own_v (lower {h = g} own_d hold inner) (lower {h = h} own_d' hold' inner') =
    let same : h ≡ g = cc in
    machine_apart s m u v g own_u own_v inner (subst (Under t v) same inner')

-- no opened machine is held by a node below a position
position_shut : {t : Tree} → Sound t → {opened : ℕ → Bool} → Opening t opened → {v h m : ℕ} → Shut t opened v → Under t v h
    → t.holder m ≡ some h → opened m ≡ true → ⊥
position_shut {t} s op {v} {h} {m} shut (itself same) hold yes_open =
    let held : t.holder m ≡ some v = cc in
    true_false yes_open (shut m (s.held_below m v held))
position_shut s op {h = h} {m = m} shut (lower {m = p} own_h hold' inner) hold yes_open =
    position_shut s op shut inner hold' (op.upward m p (parent_below s own_h (s.held_below m h hold)) yes_open)

-- the positions of the search are apart
pub position_apart : {t : Tree} → Sound t → {opened : ℕ → Bool} → Opening t opened → Apart t (Position t opened)
position_apart {t} s op u v d at_u at_v (itself p) (itself q) = p ∙ sym q
position_apart {t} s {opened} op u v d at_u at_v (itself p) (lower {m = m} own_d hold inner) =
    let own_u : t.owner d ≡ some at_u.machine = subst (λ (n : ℕ). t.owner n ≡ some at_u.machine) p at_u.owned in
    let same : at_u.machine ≡ m = cc in
    absurd (position_shut s op at_v.shut inner hold (subst (λ (i : ℕ). opened i ≡ true) same at_u.machine_opened))
position_apart {t} s {opened} op u v d at_u at_v (lower {m = m} own_d hold inner) (itself q) =
    let own_v : t.owner d ≡ some at_v.machine = subst (λ (n : ℕ). t.owner n ≡ some at_v.machine) q at_v.owned in
    let same : at_v.machine ≡ m = cc in
    absurd (position_shut s op at_u.shut inner hold (subst (λ (i : ℕ). opened i ≡ true) same at_v.machine_opened))
position_apart {t} s op u v d at_u at_v (lower {h = g} own_d hold inner) (lower {h = h} own_d' hold' inner') =
    let same : h ≡ g = cc in
    position_apart s op u v g at_u at_v inner (subst (Under t v) same inner')
