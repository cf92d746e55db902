-- Machines inside machines: a run with the transitions of machine b and below it is the same run seen from a machine above, and a
-- climb that finds nothing in b goes on from the node that holds b. Assumes nothing.
use mathlib.Core.Path.{◌≡◌, refl, sym, ◌∙◌, ap, subst}
use mathlib.Core.Option.{Option, none, some}
use Prim.Native.Nat.{ℕ, ◌+◌, ◌≤◌, ◌<◌}
use native.Mathlib.Omega.{arith}
use native.Mathlib.Nat.{zero-add, add_assoc}
use Rattle.definitions.specs.Tree.{Tree, Transition, Sound}
use Rattle.definitions.specs.Step.{counting, Climb, found, passed, past, climb}
use Rattle.definitions.proofs.Path.{Deep, at_root, under, root_holder, deep_unique, deep, Enters, plain, down, Inside, own, deeper, counting_owned, climb_own, climb_top, climb_on, passed_found, past_found}

-- a machine with a node inside it is in use, and so is the node
pub inside_owner : {t : Tree} {top n : ℕ} → Inside t top n → (m : ℕ) × (t.owner n ≡ some m)
inside_owner {top = top} (own o) = (top, o)
inside_owner (deeper {m = m} o other hold inner) = (m, o)

inside_used : {t : Tree} → Sound t → {top n : ℕ} → Inside t top n → (s : ℕ) × (t.start top ≡ some s)
inside_used s (own o) = s.owner_used _ _ o
inside_used s (deeper o other hold inner) = inside_used s inner

-- the machine of a node inside top is at least as deep as top
inside_deep : {t : Tree} → Sound t → {top n m j k : ℕ} → Inside t top n → t.owner n ≡ some m → Deep t m k → Deep t top j → j ≤ k
inside_deep {t} s {top} {n} {m} {j} {k} (own o) e d top_deep =
    let same : m ≡ top = cc in
    omega (arith, deep_unique s (subst (λ (i : ℕ). Deep t i k) same d) top_deep)
inside_deep {t} s {m = m} (deeper {m = p} {h = h} o other hold inner) e (at_root r) top_deep =
    let same : m ≡ p = cc in
    let held : t.holder m ≡ some h = rw same hold in
    absurd (root_holder s r held)
inside_deep {t} s {m = m} (deeper {m = p} {h = h} o other hold inner) e (under {h = g} {p = q} hg og d) top_deep =
    let same : m ≡ p = cc in
    let same_holder : g ≡ h = cc in
    let eh : t.owner h ≡ some q = rw (← same_holder) og in
    omega (arith, inside_deep s inner eh d top_deep)

-- a machine held by a node inside top is deeper than top
held_deep : {t : Tree} → Sound t → {top b u j k : ℕ} → t.holder b ≡ some u → Inside t top u → Deep t b k → Deep t top j → j < k
held_deep s hold upper (at_root e) top_deep = absurd (root_holder s e hold)
held_deep {t} s {u = u} hold upper (under {h = h} {p = p} eh eo d) top_deep =
    let same : u ≡ h = cc in
    let eu : t.owner u ≡ some p = rw same eo in
    omega (arith, inside_deep s upper eu d top_deep)

-- the machine of a node inside b, which a node inside top holds, is not top
pub inside_apart : {t : Tree} → Sound t → {top b u n m : ℕ} → t.holder b ≡ some u → Inside t top u → Inside t b n → t.owner n ≡ some m → m ≡ top → ⊥
inside_apart {t} s {top} {b} {u} {n} {m} hold upper lower e same =
    let (f, used) = inside_used s upper in
    let (j, small, top_deep) = deep s used in
    let (fb, used_b) = s.held_used b u hold in
    let (k, small_b, b_deep) = deep s used_b in
    let m_deep : Deep t m j = rw same top_deep in
    omega (arith, inside_deep s lower e m_deep b_deep, held_deep s hold upper b_deep top_deep)

-- a node of the machine of a node inside top is inside top
pub inside_sibling : {t : Tree} {top n w m : ℕ} → Inside t top n → t.owner n ≡ some m → t.owner w ≡ some m → Inside t top w
inside_sibling {t} {top} {w = w} (own o) e f =
    let there : t.owner w ≡ some top = cc in
    own there
inside_sibling {t} {w = w} (deeper {m = p} o other hold inner) e f =
    let there : t.owner w ≡ some p = cc in
    deeper there other hold inner

-- what is inside b, which a node inside top holds, is inside top
pub inside_wider : {t : Tree} → Sound t → {top b u n : ℕ} → t.holder b ≡ some u → Inside t top u → Inside t b n → Inside t top n
inside_wider s hold upper (own o) = deeper o (inside_apart s hold upper (own o) o) hold upper
inside_wider s {b = b} hold upper (deeper {n = n} {m = m} o other held inner) =
    deeper o (inside_apart s hold upper (deeper o other held inner) o) held (inside_wider s hold upper inner)

-- entering a node inside top ends inside top
pub enters_inside : {t : Tree} → Sound t → {top n e : ℕ} → Inside t top n → Enters t n e → Inside t top e
enters_inside s i (plain b) = i
enters_inside s {n = n} i (down {b = b} {f = f} bel st en) =
    enters_inside s (inside_wider s (s.below_held n b bel) i (own (s.start_owned b f st))) en

-- A climb from a node inside top, step by step: the node's own transition, or none and the node is top's, or none and the climb goes
-- on from the node that holds the machine.
pub data Climbs (t : Tree) (top x : ℕ) : ℕ → Climb → Type 0 where
  finds : {n : ℕ} (a : Transition) {k : Climb} → counting t n x ≡ some a → k ≡ found n a.target a.cost → Climbs t top x n k
  ends : {n : ℕ} {k : Climb} → t.owner n ≡ some top → counting t n x ≡ none → k ≡ passed 0 → Climbs t top x n k
  leaves : {n m h : ℕ} {k up : Climb} → t.owner n ≡ some m → (m ≡ top → ⊥) → t.holder m ≡ some h → counting t n x ≡ none
      → k ≡ past (t.leave m) up → Climbs t top x h up → Climbs t top x n k

climbs_top : {t : Tree} {top n : ℕ} (x : ℕ) (o : Option Transition) → counting t n x ≡ o → t.owner n ≡ some top → Climbs t top x n (climb t top n x)
climbs_top {t} {top} {n} x (some a) has e = finds a has (climb_own t top n x a has)
climbs_top {t} {top} {n} x none has e = ends e has (climb_top t top n x e has)

climbs_on : {t : Tree} → Sound t → {top n m h : ℕ} (x : ℕ) (o : Option Transition) → counting t n x ≡ o → t.owner n ≡ some m → (m ≡ top → ⊥)
    → t.holder m ≡ some h → Climbs t top x h (climb t top h x) → Climbs t top x n (climb t top n x)
climbs_on {t} s {top} {n} x (some a) has e other hold up = finds a has (climb_own t top n x a has)
climbs_on {t} s {top} {n} x none has e other hold up = leaves e other hold has (climb_on s top x e other hold has) up

pub climbs : {t : Tree} → Sound t → {top n : ℕ} (x : ℕ) → Inside t top n → Climbs t top x n (climb t top n x)
climbs {t} s {top} {n} x (own e) = climbs_top x (counting t n x) refl e
climbs {t} s {top} {n} x (deeper e other hold inner) = climbs_on s x (counting t n x) refl e other hold (climbs s x inner)

-- what a climb finds inside top leads inside top
found_by : {t : Tree} → Sound t → {top : ℕ} (x : ℕ) {n : ℕ} {k : Climb} → Climbs t top x n k → Inside t top n → {u v c : ℕ} → k ≡ found u v c → Inside t top v
found_by {t} s {top} x {n} (finds a has at) i {u} {v} e =
    let (m, o) = inside_owner i in
    let target : a.target ≡ v = cc in
    inside_sibling i o (subst (λ (w : ℕ). t.owner w ≡ some m) target (counting_owned s n x a has o))
found_by s x (ends o has at) i e = absurd (passed_found at e)
found_by s x (leaves o other hold has at up) (own o') e = absurd (other cc)
found_by {t} s {top} x (leaves {h = h} {up = k} o other hold has at up) (deeper {h = g} o' other' hold' inner) e =
    let same : g ≡ h = cc in
    let (d, upper, sum) = past_found _ k (sym at ∙ e) in
    found_by s x up (subst (Inside t top) same inner) upper

pub found_inside : {t : Tree} → Sound t → {top n u v c : ℕ} (x : ℕ) → Inside t top n → climb t top n x ≡ found u v c → Inside t top v
found_inside s x i e = found_by s x (climbs s x i) i e

-- ---- seen from above

-- what is found in b is found; where nothing is, b is left at cost l and the climb goes on as up
abbrev pub beyond : ℕ → Climb → Climb → Climb
beyond l up (found u v c) = found u v c
beyond l up (passed c) = past (c + l) up

pub past_past : (l k : ℕ) (c : Climb) → past l (past k c) ≡ past (l + k) c
past_past l k (found u v c) = ap (λ (d : ℕ). found u v d) (sym (add_assoc l k c))
past_past l k (passed c) = ap (λ (d : ℕ). passed d) (sym (add_assoc l k c))

past_beyond : (j l : ℕ) (up k : Climb) → past j (beyond l up k) ≡ beyond l up (past j k)
past_beyond j l up (found u v c) = refl
past_beyond j l up (passed c) = past_past j (c + l) up ∙ ap (λ (d : ℕ). past d up) (sym (add_assoc j c l))

-- a climb from a node inside b, which node h inside top holds, seen from top
climb_wider_by : {t : Tree} → Sound t → {top b h : ℕ} (x : ℕ) {n : ℕ} {k : Climb} → t.holder b ≡ some h → Inside t top h → Inside t b n → Climbs t b x n k
    → climb t top n x ≡ beyond (t.leave b) (climb t top h x) k
climb_wider_by {t} s {top} {b} {h} x {n} hold upper i (finds a has at) = climb_own t top n x a has ∙ sym (ap (beyond (t.leave b) (climb t top h x)) at)
climb_wider_by {t} s {top} {b} {h} x {n} hold upper i (ends o has at) =
    climb_on s top x o (inside_apart s hold upper i o) hold has
    ∙ ap (λ (l : ℕ). past l (climb t top h x)) (sym (zero-add (t.leave b)))
    ∙ sym (ap (beyond (t.leave b) (climb t top h x)) at)
climb_wider_by s x hold upper (own o') (leaves o other held has at up) = absurd (other cc)
climb_wider_by {t} s {top} {b} {h} x {n} hold upper (deeper {h = g'} o' other' held' inner) (leaves {m = m} {h = g} {up = k} o other held has at up) =
    let same : g' ≡ g = cc in
    climb_on s top x o (inside_apart s hold upper (deeper o' other' held' inner) o) held has
    ∙ ap (past (t.leave m)) (climb_wider_by s x hold upper (subst (Inside t b) same inner) up)
    ∙ past_beyond (t.leave m) (t.leave b) (climb t top h x) k
    ∙ sym (ap (beyond (t.leave b) (climb t top h x)) at)

pub climb_wider : {t : Tree} → Sound t → {top b h n : ℕ} (x : ℕ) → t.holder b ≡ some h → Inside t top h → Inside t b n
    → climb t top n x ≡ beyond (t.leave b) (climb t top h x) (climb t b n x)
climb_wider s x hold upper i = climb_wider_by s x hold upper i (climbs s x i)
