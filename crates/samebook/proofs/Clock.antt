-- The place of each command in the stream that Write gives, as one number: 512 numbers for each level, 256 for its nodes and then 256
-- for its refined nodes, after the eight levels 16 numbers for each node's transitions, then one for each node's hold, and last one for each machine's
-- leaving cost. Assumes nothing.
use mathlib.Core.Path.{◌≡◌, refl, ap, ◌∙◌}
use mathlib.Core.Logic.{◌⊎◌, inl, inr, ⊎_elim}
use mathlib.Core.Bool.{false, cond}
use mathlib.Core.Option.{Option, none, some}
use Prim.Native.Nat.{ℕ, suc, ◌+◌, ◌*◌, ◌≤◌, ◌<◌}
use native.Mathlib.Omega.{arith}
use borrow.Author.Tests.{ne_eqb}
use Rattle.definitions.specs.Basics.{option, is_at}
use Rattle.definitions.specs.Limits.{nodes, commands}
use Rattle.definitions.specs.Tree.{Tree, Sound, level}
use Rattle.definitions.proofs.Options.{present, none_some, some_same, equal_or_not, is_at_some}
use Rattle.definitions.proofs.Path.{level_on}
use Rattle.definitions.proofs.Words.{holder_range, below_range}
use Rattle.samebook.proofs.Levels.{root_or_held, level_range}

-- the places of node n among the adds and among the refines of level l, of node n and command x among the arrows,
-- of node n among the holds, and of machine m among the leaving costs
abbrev pub add_at : ℕ → ℕ → ℕ
add_at l n = l * 512 + n

abbrev pub refine_at : ℕ → ℕ → ℕ
refine_at l n = l * 512 + 256 + n

abbrev pub arrow_at : ℕ → ℕ → ℕ
arrow_at n x = 4608 + n * 16 + x

abbrev pub hold_at : ℕ → ℕ
hold_at n = 8704 + n

abbrev pub leave_at : ℕ → ℕ
leave_at m = 8960 + m

-- the places after begin, after the eight levels, after the arrows, after the holds, and after all
abbrev pub after_begin : ℕ
after_begin = 512

abbrev pub after_levels : ℕ
after_levels = 4608

abbrev pub after_arrows : ℕ
after_arrows = 8704

abbrev pub after_holds : ℕ
after_holds = 8960

abbrev pub after_all : ℕ
after_all = 9024

-- the place of the add and of the refine of node n, whether they are in the stream or not
unfoldable pub add_place : Tree → ℕ → ℕ
add_place t n = add_at (level t n) n

unfoldable pub refine_place : Tree → ℕ → ℕ
refine_place t n = refine_at (level t n) n

-- the place where a machine comes into use: at the refine of its holder; 0 for the root
unfoldable pub machine_place : Tree → ℕ → ℕ
machine_place t m = option 0 (refine_place t) (t.holder m)

-- the place where a node comes into use: with its machine if it is the start, and else at its add
unfoldable pub node_place : Tree → ℕ → ℕ
node_place t n = option 0 (λ m. cond (is_at (t.start m) n) (machine_place t m) (add_place t n)) (t.owner n)

-- a value is k or not
value_or_not : (o : Option ℕ) (k : ℕ) → (o ≡ some k) ⊎ (o ≡ some k → ⊥)
value_or_not none k = inr (none_some refl)
value_or_not (some n) k =
    ⊎_elim (λ e. inl (ap {B = Option ℕ} some e)) (λ other. inr (λ e. other (some_same refl e))) (equal_or_not n k)

-- where it is not, the test says so
is_at_not : (o : Option ℕ) (k : ℕ) → (o ≡ some k → ⊥) → is_at o k ≡ false
is_at_not none k h = refl
is_at_not (some n) k h = ne_eqb n k (λ e. h (ap {B = Option ℕ} some e))

-- a machine that no node holds, and one that a node holds
pub place_free : (t : Tree) {m : ℕ} → t.holder m ≡ none → machine_place t m ≡ 0
unfolding machine_place
place_free t free = rw free

pub place_held : (t : Tree) {m h : ℕ} → t.holder m ≡ some h → machine_place t m ≡ refine_place t h
unfolding machine_place
place_held t held = rw held

-- a node that is the start of its machine, and one that is not
pub place_start : (t : Tree) {n m : ℕ} → t.owner n ≡ some m → t.start m ≡ some n → node_place t n ≡ machine_place t m
unfolding node_place
place_start t {n} own first = rw (own, is_at_some n n first refl)

pub place_other : (t : Tree) {n m : ℕ} → t.owner n ≡ some m → (t.start m ≡ some n → ⊥) → node_place t n ≡ add_place t n
unfolding node_place
place_other t {n} {m} own other = rw (own, is_at_not (t.start m) n other)

-- how a node comes into use: as the root's start, as the start of a machine that a node holds, or added
data Comes (t : Tree) (n m : ℕ) : Type 0 where
  first : t.start m ≡ some n → node_place t n ≡ 0 → Comes t n m
  held : {h : ℕ} → t.start m ≡ some n → t.holder m ≡ some h → h < nodes → node_place t n ≡ refine_at (level t h) h → Comes t n m
  added : (t.start m ≡ some n → ⊥) → n < nodes → node_place t n ≡ add_at (level t n) n → Comes t n m

comes : {t : Tree} → Sound t → {n m : ℕ} → t.owner n ≡ some m → Comes t n m
unfolding add_place refine_place
comes {t} s {n} {m} own =
    ⊎_elim (λ start. starts start (t.holder m) refl)
    (λ other. added other (s.node_range n m own) (place_other t own other)) (value_or_not (t.start m) n)
  where
    starts : t.start m ≡ some n → (o : Option ℕ) → t.holder m ≡ o → Comes t n m
    starts start none e = first start (place_start t own start ∙ place_free t e)
    starts start (some h) e = held start e (holder_range t s m h e).1 (place_start t own start ∙ place_held t e)

-- ---- what is in use when

-- the machine of a node at level l is in use before the nodes of that level are added
pub machine_early : {t : Tree} → Sound t → {n m : ℕ} → t.owner n ≡ some m → machine_place t m < add_at (level t n) 0
unfolding refine_place
machine_early {t} s {n} {m} own =
    ⊎_elim (λ free. omega (arith, place_free t free, level_range s own))
    (λ up.
    let (h, e) = up in
    omega (arith, place_held t e, level_on s own e, holder_range t s m h e)) (present (t.holder m))

-- the nodes of a level are in use before those of them that are refined are refined
pub node_early : {t : Tree} → Sound t → {n m : ℕ} → t.owner n ≡ some m → node_place t n < refine_at (level t n) 0
unfolding refine_place
node_early {t} s {n} {m} own = go (comes s own)
  where
    go : Comes t n m → node_place t n < refine_at (level t n) 0
    go (first start at) = omega arith
    go (held start e small at) = omega (arith, level_on s own e)
    go (added other small at) = omega arith

-- all but the root and its start come at a level
pub machine_late : {t : Tree} → Sound t → {m f : ℕ} → t.start m ≡ some f → (m ≡ t.root → ⊥) → after_begin ≤ machine_place t m
unfolding refine_place
machine_late {t} s {m} used other =
    ⊎_elim (λ root. absurd (other root))
    (λ up.
    let (h, e) = up in
    let (p, own) = s.holder_used m h e in
    omega (arith, place_held t e, level_range s own)) (root_or_held s used)

pub node_late : {t : Tree} → Sound t → {n m : ℕ} → t.owner n ≡ some m → (t.start t.root ≡ some n → ⊥) → after_begin ≤ node_place t n
unfolding add_place
node_late {t} s {n} {m} own other =
    ⊎_elim
    (λ start.
    omega (arith, place_start t own start, machine_late s start (λ root. other (rw root at start))))
    (λ off. omega (arith, place_other t own off, level_range s own)) (value_or_not (t.start m) n)

pub refine_late : {t : Tree} → Sound t → {n b : ℕ} → t.below n ≡ some b → after_begin ≤ refine_place t n
unfolding refine_place
refine_late {t} s {n} {b} holds =
    let (m, own) = s.holder_used b n (s.below_held n b holds) in
    omega (arith, level_range s own)

-- all machines, nodes and refinements come before the transitions
pub machine_all : {t : Tree} → Sound t → {m f : ℕ} → t.start m ≡ some f → machine_place t m < after_levels
machine_all {t} s {m} {f} used =
    let own : t.owner f ≡ some m = s.start_owned m f used in
    omega (arith, machine_early s own, level_range s own)

pub node_all : {t : Tree} → Sound t → {n m : ℕ} → t.owner n ≡ some m → node_place t n < after_levels
node_all {t} s {n} {m} own = omega (arith, node_early s own, level_range s own)

pub refine_all : {t : Tree} → Sound t → {n b : ℕ} → t.below n ≡ some b → refine_place t n < after_levels
unfolding refine_place
refine_all {t} s {n} {b} holds =
    let (m, own) = s.holder_used b n (s.below_held n b holds) in
    omega (arith, s.node_range n m own, level_range s own)

-- ---- what comes at a place

-- at the place of node i among the adds of level l: that node, if it is not the start of its machine
pub node_at_add : {t : Tree} → Sound t → (l i : ℕ) → i < nodes → {n m : ℕ} → t.owner n ≡ some m → node_place t n ≡ add_at (suc l) i
    → (t.start m ≡ some n → ⊥) × (n ≡ i) × (level t n ≡ suc l)
node_at_add {t} s l i small {n} {m} own here = go (comes s own)
  where
    go : Comes t n m → (t.start m ≡ some n → ⊥) × (n ≡ i) × (level t n ≡ suc l)
    go (first start at) = absurd (omega arith)
    go (held start e less at) = absurd (omega arith)
    go (added other less at) = (other, omega arith, omega arith)

pub machine_at_add : {t : Tree} → Sound t → (l i : ℕ) → i < nodes → (m : ℕ) → machine_place t m ≡ add_at (suc l) i → ⊥
unfolding refine_place
machine_at_add {t} s l i small m here =
    ⊎_elim (λ free. omega (arith, place_free t free))
    (λ up. let (h, e) = up in omega (arith, place_held t e, holder_range t s m h e)) (present (t.holder m))

pub refine_at_add : {t : Tree} → Sound t → (l i : ℕ) → i < nodes → {n b : ℕ} → t.below n ≡ some b → refine_place t n ≡ add_at (suc l) i → ⊥
unfolding refine_place
refine_at_add {t} s l i small {n} {b} holds here = omega (arith, below_range t s n b holds)

-- at the place of node i among the refines of level l: that refinement, the machine that node i holds, and that machine's start
pub node_at_refine : {t : Tree} → Sound t → (l i : ℕ) → i < nodes → {n m : ℕ} → t.owner n ≡ some m
    → node_place t n ≡ refine_at (suc l) i → (t.start m ≡ some n) × (t.holder m ≡ some i) × (level t i ≡ suc l)
node_at_refine {t} s l i small {n} {m} own here = go (comes s own)
  where
    go : Comes t n m → (t.start m ≡ some n) × (t.holder m ≡ some i) × (level t i ≡ suc l)
    go (first start at) = absurd (omega arith)
    go (held {h = h} start e less at) =
        let same : h ≡ i = omega arith in
        let high : level t h ≡ suc l = omega arith in
        (start, rw same at e, rw same at high)
    go (added other less at) = absurd (omega arith)

pub machine_at_refine : {t : Tree} → Sound t → (l i : ℕ) → i < nodes → {m : ℕ} → machine_place t m ≡ refine_at (suc l) i
    → (t.holder m ≡ some i) × (level t i ≡ suc l)
unfolding refine_place
machine_at_refine {t} s l i small {m} here =
    ⊎_elim (λ free. absurd (omega (arith, place_free t free)))
    (λ up.
    let (h, e) = up in
    let same : h ≡ i = omega (arith, place_held t e, holder_range t s m h e) in
    let high : level t h ≡ suc l = omega (arith, place_held t e, holder_range t s m h e) in
    (rw same at e, rw same at high)) (present (t.holder m))

pub refine_at_refine : {t : Tree} → Sound t → (l i : ℕ) → i < nodes → {n b : ℕ} → t.below n ≡ some b
    → refine_place t n ≡ refine_at (suc l) i → (n ≡ i) × (level t n ≡ suc l)
unfolding refine_place
refine_at_refine {t} s l i small {n} {b} holds here = omega (arith, below_range t s n b holds)

-- at the place of node n and command x among the transitions: that one
pub arrow_at_arrow : (n x k y : ℕ) → x < commands → y < commands → arrow_at k y ≡ arrow_at n x → (k ≡ n) × (y ≡ x)
arrow_at_arrow n x k y small less here = omega arith
