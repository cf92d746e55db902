-- The way up and the way down in a sound tree: how deep a machine is, the path from a node to the root, entering a node, and the
-- climb. Fuel for eight levels is enough; after the laws of this file nobody looks at it. Assumes nothing.
use mathlib.Core.Path.{◌≡◌, refl, sym, ◌∙◌, ap, subst}
use mathlib.Core.Bool.{Bool, true, false, cond}
use mathlib.Core.Option.{Option, none, some}
use mathlib.Core.List.{[], List, ◌∷◌}
use Prim.Native.Nat.{ℕ, zero, suc, ◌+◌, ◌≤◌, ◌<◌}
use native.Mathlib.Omega.{arith}
use lib.ListN.{length}
use native.Mathlib.Nat.{not-suc-le-zero, le_of_suc-le-suc}
use Rattle.definitions.specs.Basics.{option, unless, is_at, iterate}
use Rattle.definitions.specs.Limits.{levels, commands}
use Rattle.definitions.specs.Tree.{Tree, Transition, Sound, on_hold, parent, above, path_f, path, level}
use Rattle.definitions.specs.Step.{enter_f, enter, counting, leaving_of, leaving_all, Climb, found, passed, past, first_of, look, climb, Lowest}
use Rattle.definitions.proofs.Options.{bind_some, some_same, unless_some, is_at_some, is_at_other}

-- machine m is k machines below the root
pub data Deep (t : Tree) : ℕ → ℕ → Type 0 where
  at_root : {m : ℕ} → m ≡ t.root → Deep t m 0
  under : {m h p k : ℕ} → t.holder m ≡ some h → t.owner h ≡ some p → Deep t p k → Deep t m (suc k)

-- a climb of k steps to the root
climbs_deep : (t : Tree) (k m : ℕ) → iterate (parent t) k m ≡ some t.root → Deep t m k
unfolding iterate parent
climbs_deep t zero m e = at_root (some_same refl e)
climbs_deep t (suc k) m e =
    let (p, ep, er) = bind_some (parent t m) (iterate (parent t) k) e in
    let (h, eh, eo) = bind_some (t.holder m) t.owner ep in
    under eh eo (climbs_deep t k p er)

-- the root has no holder
pub root_holder : {t : Tree} → Sound t → {m h : ℕ} → m ≡ t.root → t.holder m ≡ some h → ⊥
root_holder s e h = let z : ◌≡◌ {A = ℕ} 0 1 = cc s.root_free in omega arith

-- the number of machines above a machine is one number
pub deep_unique : {t : Tree} → Sound t → {m k j : ℕ} → Deep t m k → Deep t m j → k ≡ j
deep_unique s (at_root e) (at_root f) = refl
deep_unique s (at_root e) (under h o d) = absurd (root_holder s e h)
deep_unique s (under h o d) (at_root e) = absurd (root_holder s e h)
deep_unique {t} s (under {p = p} {k = k} h o d) (under {p = q} {k = j} i r e) =
    let same : q ≡ p = cc in
    ap suc (deep_unique s d (subst (λ (n : ℕ). Deep t n j) same e))

-- every machine in use is under at most seven others
pub deep : {t : Tree} → Sound t → {m f : ℕ} → t.start m ≡ some f → (k : ℕ) × (k < levels) × Deep t m k
deep {t} s {m} {f} e = let (k, small, way) = s.climbs m f e in (k, small, climbs_deep t k m way)

pub deep_small : {t : Tree} → Sound t → {m f k : ℕ} → t.start m ≡ some f → Deep t m k → k < levels
deep_small s e d = let (j, small, way) = deep s e in subst (λ (i : ℕ). i < levels) (deep_unique s way d) small

-- a machine below a node of m is one deeper than m
pub deep_below : {t : Tree} → Sound t → {n m b k : ℕ} → t.owner n ≡ some m → t.below n ≡ some b → Deep t m k → Deep t b (suc k)
deep_below s {n} {m} {b} own bel d = under (s.below_held n b bel) own d

-- the machine below a node of m has m for its parent
pub parent_below : {t : Tree} → Sound t → {n m b : ℕ} → t.owner n ≡ some m → t.below n ≡ some b → parent t b ≡ some m
unfolding parent
parent_below s {n} {m} {b} own bel = rw (s.below_held n b bel) own

-- ---- the path from a node to the root

-- more fuel than machines above changes nothing
path_f_enough : {t : Tree} → Sound t → {n m k : ℕ} → t.owner n ≡ some m → Deep t m k → (i j : ℕ) → k < i → k < j → path_f i t n ≡ path_f j t n
unfolding path_f above
path_f_enough s own d zero j hi hj = absurd (not-suc-le-zero hi)
path_f_enough s own d (suc i) zero hi hj = absurd (not-suc-le-zero hj)
path_f_enough {t} s {n} {m} own (at_root e) (suc i) (suc j) hi hj =
    let free : t.holder m ≡ none = cc s.root_free in
    rw (own, free)
path_f_enough {t} s {n} {m} own (under {h = h} eh eo d) (suc i) (suc j) hi hj =
    rw (own, eh) (ap (λ (l : List ℕ). n ∷ l) (path_f_enough s eo d i j (le_of_suc-le-suc hi) (le_of_suc-le-suc hj)))

-- the path from a node of the root
pub path_root : (t : Tree) {n m : ℕ} → t.owner n ≡ some m → t.holder m ≡ none → path t n ≡ n ∷ []
unfolding path path_f above
path_root t own free = rw (own, free)

path_f_on : {t : Tree} → Sound t → {n m h k : ℕ} → t.owner n ≡ some m → t.holder m ≡ some h → Deep t m k → (i : ℕ) → k < suc i
    → path_f (suc i) t n ≡ n ∷ path_f (suc i) t h
unfolding path_f above
path_f_on s own eh (at_root e) i small = absurd (root_holder s e eh)
path_f_on {t} s {n} {m} {h} own eh (under {h = g} {p = p} eg eo d) i small =
    let same : h ≡ g = cc in
    let own_h : t.owner h ≡ some p = rw same eo in
    rw (own, eh) (ap (λ (l : List ℕ). n ∷ l) (path_f_enough s own_h d i (suc i) (le_of_suc-le-suc small) (omega arith)))

-- the path from a node goes on from the node that holds its machine
pub path_on : {t : Tree} → Sound t → {n m h : ℕ} → t.owner n ≡ some m → t.holder m ≡ some h → path t n ≡ n ∷ path t h
unfolding path
path_on {t} s {n} {m} {h} own eh =
    let (f, used) = s.held_used m h eh in
    let (k, small, way) = deep s used in
    path_f_on s own eh way 7 small

-- ---- the level of a node's machine

-- it is one more than that of the node that holds the machine
pub level_on : {t : Tree} → Sound t → {n m h : ℕ} → t.owner n ≡ some m → t.holder m ≡ some h → level t n ≡ suc (level t h)
unfolding level
level_on s own hold = ap length (path_on s own hold)

-- it is one more than the number of machines above
pub level_deep : {t : Tree} → Sound t → {n m k : ℕ} → t.owner n ≡ some m → Deep t m k → level t n ≡ suc k
unfolding level
level_deep {t} s {n} {m} own (at_root e) =
    let free : t.holder m ≡ none = cc s.root_free in
    ap length (path_root t own free)
level_deep s own (under hold own_h d) = level_on s own hold ∙ ap suc (level_deep s own_h d)

-- it is at most 8
pub level_bound : {t : Tree} → Sound t → {n m : ℕ} → t.owner n ≡ some m → level t n ≤ levels
level_bound s {n} {m} own =
    let (f, used) = s.owner_used n m own in
    let (k, small, way) = deep s used in
    omega (arith, level_deep s own way)

-- the nodes of one machine are at one level
pub same_level : {t : Tree} → Sound t → {u v m : ℕ} → t.owner u ≡ some m → t.owner v ≡ some m → level t u ≡ level t v
same_level s {u} {m = m} own_u own_v =
    let (f, used) = s.owner_used u m own_u in
    let (k, small, way) = deep s used in
    level_deep s own_u way ∙ sym (level_deep s own_v way)

-- ---- entering a node

-- node n is entered at state f: by the start nodes of the machines below it
pub data Enters (t : Tree) : ℕ → ℕ → Type 0 where
  plain : {n : ℕ} → t.below n ≡ none → Enters t n n
  down : {n b f e : ℕ} → t.below n ≡ some b → t.start b ≡ some f → Enters t f e → Enters t n e

-- fuel for the levels that are left is enough
enter_f_enters : {t : Tree} → Sound t → {n m e : ℕ} → Enters t n e → t.owner n ≡ some m → {k : ℕ} → Deep t m k
    → (i : ℕ) → levels ≤ k + i → enter_f i t n ≡ some e
unfolding enter_f
enter_f_enters s (plain b) own d zero room = absurd (omega (arith, deep_small s (s.owner_used _ _ own).1 d))
enter_f_enters s (plain b) own d (suc i) room = rw b
enter_f_enters s (down b st en) own d zero room = absurd (omega (arith, deep_small s (s.owner_used _ _ own).1 d))
enter_f_enters {t} s (down {n = n} {b = m} {f = f} b st en) own {k} d (suc i) room =
    rw (b, st) (enter_f_enters s en (s.start_owned m f st) (deep_below s own b d) i (omega arith))

-- a node in use that is entered at e
pub enters_enter : {t : Tree} → Sound t → {n m e : ℕ} → Enters t n e → t.owner n ≡ some m → enter t n ≡ some e
unfolding enter
enters_enter {t} s {n} {m} en own =
    let (f, used) = s.owner_used n m own in
    let (k, small, way) = deep s used in
    enter_f_enters s en own way levels (omega arith)

-- every node in use is entered at some state
enters_next : {t : Tree} → Sound t → {n : ℕ} (o : Option ℕ) → t.below n ≡ o
    → ((b f : ℕ) → t.below n ≡ some b → t.start b ≡ some f → (e : ℕ) × Enters t f e) → (e : ℕ) × Enters t n e
enters_next s {n} none b lower = (n, plain b)
enters_next s {n} (some c) b lower =
    let (f, st) = s.held_used c n (s.below_held n c b) in
    let (e, en) = lower c f b st in
    (e, down b st en)

enters_deep : {t : Tree} → Sound t → {n m : ℕ} → t.owner n ≡ some m → {k : ℕ} → Deep t m k → (i : ℕ) → levels ≤ k + i
    → (e : ℕ) × Enters t n e
enters_deep s {n} {m} own d zero room = absurd (omega (arith, deep_small s (s.owner_used n m own).1 d))
enters_deep {t} s {n} {m} own {k} d (suc i) room =
    enters_next s (t.below n) refl
    (λ c f b st. enters_deep s (s.start_owned c f st) (deep_below s own b d) i (omega arith))

pub enters : {t : Tree} → Sound t → {n m : ℕ} → t.owner n ≡ some m → (e : ℕ) × Enters t n e
enters s {n} {m} own =
    let (f, used) = s.owner_used n m own in
    let (k, small, way) = deep s used in
    enters_deep s own way levels (omega arith)

-- a node in use is entered at e only where it is so
pub enter_enters : {t : Tree} → Sound t → {n m e : ℕ} → t.owner n ≡ some m → enter t n ≡ some e → Enters t n e
enter_enters {t} s {n} own e =
    let (f, en) = enters s own in
    subst (λ (g : ℕ). Enters t n g) (some_same (enters_enter s en own) e) en

-- a plain node is where it is entered, and a refined one is entered where the start node below it is
pub enter_plain : (t : Tree) (n : ℕ) → t.below n ≡ none → enter t n ≡ some n
unfolding enter enter_f
enter_plain t n b = rw b

pub enter_down : {t : Tree} → Sound t → {n m b f : ℕ} → t.owner n ≡ some m → t.below n ≡ some b → t.start b ≡ some f → enter t n ≡ enter t f
enter_down s {b = b} {f = f} own bel st =
    let first = s.start_owned b f st in
    let (e, en) = enters s first in
    enters_enter s (down bel st en) own ∙ sym (enters_enter s en first)

-- what is entered is a state in use
pub enters_state : {t : Tree} → Sound t → {n m e : ℕ} → Enters t n e → t.owner n ≡ some m → (p : ℕ) × (t.owner e ≡ some p) × (t.below e ≡ none)
enters_state s {n} {m} (plain b) own = (m, own, b)
enters_state s (down {b = b} {f = f} bel st en) own = enters_state s en (s.start_owned b f st)

-- ---- the climb

-- a transition whose target is not held counts; one whose target is held does not
pub counting_some : (t : Tree) (n x : ℕ) (a : Transition) → t.transition n x ≡ some a → on_hold t a.target ≡ false → counting t n x ≡ some a
unfolding counting
counting_some t n x a has free = rw (has, free)

pub counting_shut : (t : Tree) (n x : ℕ) (a : Transition) → t.transition n x ≡ some a → on_hold t a.target ≡ true → counting t n x ≡ none
unfolding counting
counting_shut t n x a has shut = rw (has, shut)

pub counting_none : (t : Tree) (n x : ℕ) → t.transition n x ≡ none → counting t n x ≡ none
unfolding counting
counting_none t n x e = rw e

-- and one that counts is one of its node's, and its target is not held
pub counting_parts : (t : Tree) (n x : ℕ) (a : Transition) → counting t n x ≡ some a → (t.transition n x ≡ some a) × (on_hold t a.target ≡ false)
unfolding counting
counting_parts t n x a e =
    let (b, has, left) = bind_some (t.transition n x) (λ b. unless (on_hold t b.target) (some b)) e in
    let (free, same) = unless_some (on_hold t b.target) (some b) left in
    (has ∙ same, ap (λ (o : Option Transition). option false (λ c. on_hold t c.target) o) (sym same) ∙ free)

pub counting_is : (t : Tree) (n x : ℕ) (a : Transition) → counting t n x ≡ some a → t.transition n x ≡ some a
counting_is t n x a e = (counting_parts t n x a e).0

-- so it is for a command, and stays in the machine of its node
pub counting_range : {t : Tree} → Sound t → (n x : ℕ) (a : Transition) → counting t n x ≡ some a → x < commands
counting_range {t} s n x a e = (s.transition_range n x a (counting_is t n x a e)).0

pub counting_owned : {t : Tree} → Sound t → (n x : ℕ) (a : Transition) {m : ℕ} → counting t n x ≡ some a → t.owner n ≡ some m → t.owner a.target ≡ some m
counting_owned {t} s n x a e own = let (p, ep, et) = s.transition_owned n x a (counting_is t n x a e) in cc

-- node n belongs to machine top or to a machine below it
pub data Inside (t : Tree) (top : ℕ) : ℕ → Type 0 where
  own : {n : ℕ} → t.owner n ≡ some top → Inside t top n
  deeper : {n m h : ℕ} → t.owner n ≡ some m → (m ≡ top → ⊥) → t.holder m ≡ some h → Inside t top h → Inside t top n

-- a node's own transition is found first
pub climb_own : (t : Tree) (top n x : ℕ) (a : Transition) → counting t n x ≡ some a → climb t top n x ≡ found n a.target a.cost
unfolding climb look path path_f
climb_own t top n x a e = rw e

-- a node of machine top that has none: nothing is found
pub climb_top : (t : Tree) (top n x : ℕ) → t.owner n ≡ some top → counting t n x ≡ none → climb t top n x ≡ passed 0
unfolding climb look path path_f
climb_top t top n x o e = rw (e, is_at_some top top o refl)

-- a node of another machine that has none: the climb goes on from the node that holds the machine, which is left
pub climb_on : {t : Tree} → Sound t → (top x : ℕ) {n m h : ℕ} → t.owner n ≡ some m → (m ≡ top → ⊥) → t.holder m ≡ some h
    → counting t n x ≡ none → climb t top n x ≡ past (t.leave m) (climb t top h x)
unfolding climb look
climb_on {t} s top x {n} {m} {h} o other eh e = rw (path_on s o eh, e, is_at_other m top o other, o)

-- nothing is found where the climb has passed
pub passed_found : {k : Climb} {l u v c : ℕ} → k ≡ passed l → k ≡ found u v c → ⊥
passed_found p q = let z : ◌≡◌ {A = ℕ} 0 1 = cc in omega arith

-- what is found past a machine was found, for what is left of the cost
pub past_found : (l : ℕ) (k : Climb) {u v c : ℕ} → past l k ≡ found u v c → (d : ℕ) × (k ≡ found u v d) × (l + d ≡ c)
past_found l (found u v d) e = (d, cc, cc)
past_found l (passed d) e = absurd (passed_found refl e)

-- what is found is the transition of a node, for a command, and its target belongs to the node's machine
pub record Found (t : Tree) (x u v : ℕ) : Type 0 where
  pub range : x < commands
  pub machine : ℕ
  pub node_owner : t.owner u ≡ some machine
  pub target_owner : t.owner v ≡ some machine

found_own : {t : Tree} → Sound t → (x w : ℕ) (a : Transition) → counting t w x ≡ some a → Found t x w a.target
found_own {t} s x w a has =
    let (m, ew, ev) = s.transition_owned w x a (counting_is t w x a has) in
    record { range = counting_range s w x a has; machine = m; node_owner = ew; target_owner = ev }

-- On a way up a transition for x is found: that of the lowest node which has one. Its target is v, and c its cost with that of leaving the
-- machines of the nodes below.
pub record FoundOn (t : Tree) (x : ℕ) (way : List ℕ) (u v c : ℕ) : Type 0 where
  pub lowest : Lowest t x way u
  pub leads : lowest.transition.target ≡ v
  pub costs : leaving_all t lowest.lower + lowest.transition.cost ≡ c

module _ (t : Tree) (x w : ℕ) (ns : List ℕ) {u v c : ℕ} where
  -- at the first node
  found_here : (a : Transition) → counting t w x ≡ some a → found w a.target a.cost ≡ found u v c → FoundOn t x (w ∷ ns) u v c
  found_here a has e =
      let at : w ≡ u = cc in
      let cost : a.cost ≡ c = cc in
      record {
        lowest =
            record {
              lower = [];
              upper = ns;
              on_the_way = ap (λ (n : ℕ). n ∷ ns) at;
              lower_none = tt;
              transition = a;
              counts = subst (λ (n : ℕ). counting t n x ≡ some a) at has;
            };
        leads = cc;
        costs = omega arith;
      }

  -- past it
  found_further : counting t w x ≡ none → (b : Bool) (k : Climb) → ((d : ℕ) → k ≡ found u v d → FoundOn t x ns u v d)
      → cond b (passed 0) (past (leaving_of t w) k) ≡ found u v c → FoundOn t x (w ∷ ns) u v c
  found_further has true k up e = absurd (passed_found refl e)
  found_further has false k up e =
      let (d, at, sum) = past_found (leaving_of t w) k e in
      let f = up d at in
      let l = f.lowest in
      record {
        lowest =
            record {
              lower = w ∷ l.lower;
              upper = l.upper;
              on_the_way = ap (λ (way : List ℕ). w ∷ way) l.on_the_way;
              lower_none = (has, l.lower_none);
              transition = l.transition;
              counts = l.counts;
            };
        leads = f.leads;
        costs = omega (arith, sum, f.costs);
      }

  -- wherever it is
  found_from : (o : Option Transition) → counting t w x ≡ o → (b : Bool) (k : Climb) → ((d : ℕ) → k ≡ found u v d → FoundOn t x ns u v d)
      → first_of w o (cond b (passed 0) (past (leaving_of t w) k)) ≡ found u v c → FoundOn t x (w ∷ ns) u v c
  found_from none has b k up e = found_further has b k up e
  found_from (some a) has b k up e = found_here a has e

look_found : (t : Tree) (top x : ℕ) (ns : List ℕ) {u v : ℕ} (c : ℕ) → look t top x ns ≡ found u v c → FoundOn t x ns u v c
unfolding look
look_found t top x [] c e = absurd (passed_found refl e)
look_found t top x (w ∷ ns) c e =
    found_from t x w ns (counting t w x) refl (is_at (t.owner w) top) (look t top x ns) (λ d f. look_found t top x ns d f) e

-- what a climb finds, it finds on the node's path
pub climb_on_path : (t : Tree) (top n x : ℕ) {u v c : ℕ} → climb t top n x ≡ found u v c → FoundOn t x (path t n) u v c
unfolding climb
climb_on_path t top n x {c = c} e = look_found t top x (path t n) c e

pub climb_found : {t : Tree} → Sound t → (top n x : ℕ) {u v c : ℕ} → climb t top n x ≡ found u v c → Found t x u v
climb_found {t} s top n x {u = u} e =
    let f = climb_on_path t top n x e in
    subst (λ (w : ℕ). Found t x u w) f.leads (found_own s x u f.lowest.transition f.lowest.counts)
