-- The levels of the nodes of a sound tree. Assumes nothing.
use mathlib.Core.Path.{◌≡◌}
use mathlib.Core.Logic.{◌⊎◌, inl, inr, ⊎_elim}
use mathlib.Core.Option.{some}
use Prim.Native.Nat.{ℕ, zero, suc, ◌≤◌, ◌<◌}
use native.Mathlib.Omega.{arith}
use lib.ListN.{length}
use Rattle.definitions.specs.Limits.{levels}
use Rattle.definitions.specs.Tree.{Tree, Sound, above, path_f, path, level}
use Rattle.definitions.proofs.Options.{present}
use Rattle.definitions.proofs.Path.{Deep, at_root, under, deep, deep_small, deep_below, level_deep}

-- a machine in use is the root, or a node holds it
pub root_or_held : {t : Tree} → Sound t → {m s : ℕ} → t.start m ≡ some s → (m ≡ t.root) ⊎ ((h : ℕ) × (t.holder m ≡ some h))
root_or_held s used = go (deep s used).2
  where
    go : {t : Tree} {m k : ℕ} → Deep t m k → (m ≡ t.root) ⊎ ((h : ℕ) × (t.holder m ≡ some h))
    go (at_root e) = inl e
    go (under {h = h} held own way) = inr (h, held)

-- a node in use stands at one of the eight levels, and a refined one not at the lowest
pub level_range : {t : Tree} → Sound t → {n m : ℕ} → t.owner n ≡ some m → (0 < level t n) × (level t n ≤ levels)
level_range s {n} {m} own =
    let (f, used) = s.owner_used n m own in
    let (k, small, way) = deep s used in
    omega (arith, level_deep s own way)

pub level_refined : {t : Tree} → Sound t → {n m b : ℕ} → t.owner n ≡ some m → t.below n ≡ some b → level t n < levels
level_refined s {n} {m} {b} own holds =
    let (f, used) = s.owner_used n m own in
    let (k, small, way) = deep s used in
    let (g, lower) = s.held_used b n (s.below_held n b holds) in
    omega (arith, level_deep s own way, deep_small s lower (deep_below s own holds way))

-- a tree with fewer nodes above has no longer paths
path_f_less : (u t : Tree) → ((n h : ℕ) → above u n ≡ some h → above t n ≡ some h) → (k n : ℕ)
    → length (path_f k u n) ≤ length (path_f k t n)
unfolding path_f
path_f_less u t fewer zero n = omega arith
path_f_less u t fewer (suc k) n =
    ⊎_elim (λ top. rw top (omega arith))
    (λ up. let (h, e) = up in rw (e, fewer n h e) (omega (arith, path_f_less u t fewer k h))) (present (above u n))

-- and so no lower nodes
pub level_less : (u t : Tree) → ((n h : ℕ) → above u n ≡ some h → above t n ≡ some h) → (n : ℕ) → level u n ≤ level t n
unfolding level path
level_less u t fewer n = path_f_less u t fewer levels n
