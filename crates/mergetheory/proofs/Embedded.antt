-- A tree that stands inside another at other numbers: its steps are the other's steps, and so least costs are the same, and "no way" is. Assumes
-- nothing.
use mathlib.Core.Path.{◌≡◌, refl, sym, ◌∙◌, ap, ap₂}
use mathlib.Core.Bool.{true}
use mathlib.Core.Option.{Option, none, some}
use mathlib.Core.List.{[], List, ◌∷◌}
use Prim.Native.Nat.{ℕ, ◌+◌}
use Rattle.definitions.specs.Basics.{◌>>=◌, Least}
use Rattle.definitions.specs.Tree.{Tree, Transition, Sound, UsedNode, is_state}
use Rattle.definitions.specs.Step.{counting, Climb, found, passed, past, climb, Arrival, run_by, follow, step_in, step, run, Moves}
use Rattle.definitions.specs.Costs.{LeastCost}
use Rattle.definitions.proofs.Options.{bind_some}
use Rattle.definitions.proofs.Path.{Enters, plain, down, enters_enter, enters, Inside, climb_own, climb_top, climb_on, climb_found}
use Rattle.definitions.proofs.Runs.{onto}
use Rattle.definitions.proofs.Inside.{Climbs, finds, ends, leaves, climbs, inside_owner}
use Rattle.definitions.proofs.Simple.{state_test, state_root, step_inside, run_states}
use Rattle.definitions.proofs.Tests.{state_parts}

-- tree t stands in tree u: node n of t at number f n, machine m of t at number g m. All of t's fields go along; t's root is held by a node of
-- u's root that has no transition that counts
pub record Embeds (t u : Tree) (f g : ℕ → ℕ) : Type 0 where
  pub owner : (n m : ℕ) → t.owner n ≡ some m → u.owner (f n) ≡ some (g m)
  pub plain : (n m : ℕ) → t.owner n ≡ some m → t.below n ≡ none → u.below (f n) ≡ none
  pub below : (n m : ℕ) → t.below n ≡ some m → u.below (f n) ≡ some (g m)
  pub start : (m s : ℕ) → t.start m ≡ some s → u.start (g m) ≡ some (f s)
  pub holder : (m n : ℕ) → t.holder m ≡ some n → u.holder (g m) ≡ some (f n)
  pub counts : (n x : ℕ) (a : Transition) → counting t n x ≡ some a → counting u (f n) x ≡ some (record { target = f a.target; cost = a.cost })
  pub counts_not : (n m x : ℕ) → t.owner n ≡ some m → counting t n x ≡ none → counting u (f n) x ≡ none
  pub leaves : (m n : ℕ) → t.holder m ≡ some n → u.leave (g m) ≡ t.leave m
  pub apart : (m s : ℕ) → t.start m ≡ some s → g m ≡ u.root → ⊥
  pub one : (n m k j : ℕ) → t.owner n ≡ some m → t.owner k ≡ some j → f n ≡ f k → n ≡ k
  pub top : ℕ
  pub held : u.holder (g t.root) ≡ some top
  pub top_owner : u.owner top ≡ some u.root
  pub top_free : (x : ℕ) → counting u top x ≡ none

-- ---- climbs and arrivals, at the other numbers

-- the second climb finds what the first does, at the other numbers and at the same cost; or both find nothing, at whatever cost
abbrev SameClimb : (ℕ → ℕ) → Climb → Climb → Type 0
SameClimb f (found n v c) k = k ≡ found (f n) (f v) c
SameClimb f (passed c) k = (d : ℕ) × (k ≡ passed d)

-- so it is after a machine was left at one cost in both
same_past : (f : ℕ → ℕ) (l : ℕ) (j k : Climb) → SameClimb f j k → SameClimb f (past l j) (past l k)
same_past f l (found n v c) k e = ap (past l) e
same_past f l (passed c) k (d, e) = (l + d, ap (past l) e)

-- an arrival at the other number
abbrev shifted_to : (ℕ → ℕ) → Arrival → Arrival
shifted_to f a = record { node = f a.node; cost = a.cost }

-- an arrival after another, at the other numbers
shifted_onto : (f : ℕ → ℕ) (a : Arrival) (o : Option Arrival)
    → (o >>= (λ b. some (shifted_to f b)) >>= λ b. some (onto (shifted_to f a) b)) ≡ (o >>= (λ b. some (onto a b)) >>= λ b. some (shifted_to f b))
shifted_onto f a none = refl
shifted_onto f a (some b) = refl

-- two properties of the same numbers have the same least number
same_least : (P Q : ℕ → Type 0) → ((c : ℕ) → P c → Q c) → ((c : ℕ) → Q c → P c) → (o : Option ℕ) → Least P o → Least Q o
same_least P Q to from none least = λ c q. least c (from c q)
same_least P Q to from (some c) least = (to c least.0, λ d q. least.1 d (from d q))

module _ {t u : Tree} (st : Sound t) (su : Sound u) {f g : ℕ → ℕ} (em : Embeds t u f g) where
  -- a state stays one
  pub embedded_state : (n : ℕ) → is_state t n ≡ true → is_state u (f n) ≡ true
  embedded_state n e = let (m, o, b) = state_parts t n e in state_test u (em.owner n m o) (em.plain n m o b)

  -- a node is entered at the same state
  embedded_enters : {n m e : ℕ} → Enters t n e → t.owner n ≡ some m → Enters u (f n) (f e)
  embedded_enters {n} {m} (plain b) o = plain (em.plain n m o b)
  embedded_enters {n} (down {b = b} {f = s} bel begins en) o =
      down (em.below n b bel) (em.start b s begins) (embedded_enters en (st.start_owned b s begins))

  -- a climb in the whole tree finds the same, or nothing in both
  embedded_climb : (x : ℕ) {n : ℕ} {k : Climb} → Climbs t t.root x n k → SameClimb f k (climb u u.root (f n) x)
  embedded_climb x {n} (finds a has at) = rw at (climb_own u u.root (f n) x _ (em.counts n x a has))
  embedded_climb x {n} (ends o has at) =
      let (s, used) = st.root_used in
      rw at (
        _,
        climb_on su u.root x (em.owner n t.root o) (em.apart t.root s used) em.held (em.counts_not n t.root x o has)
            ∙ ap (past (u.leave (g t.root))) (climb_top u u.root em.top x em.top_owner (em.top_free x)),
      )
  embedded_climb x {n} (leaves {m = m} {h = h} {up = up} o other hold has at further) =
      let (s, used) = st.held_used m h hold in
      rw (at, climb_on su u.root x (em.owner n m o) (em.apart m s used) (em.holder m h hold) (em.counts_not n m x o has), em.leaves m h hold)
      (same_past f (t.leave m) up (climb u u.root (f h) x) (embedded_climb x further))

  -- what is found leads to the same state
  embedded_follow : (k j : Climb) → ((n v c : ℕ) → k ≡ found n v c → UsedNode t v) → SameClimb f k j
      → follow u j ≡ (follow t k >>= λ a. some (shifted_to f a))
  embedded_follow (found n v c) j used e =
      let (m, o) = used n v c refl in
      let (s, en) = enters st o in
      rw (e, enters_enter su (embedded_enters en o) (em.owner v m o), enters_enter st en o)
  embedded_follow (passed c) j used (d, e) = rw e

  -- so a command does the same
  embedded_step : {n : ℕ} → Inside t t.root n → (x : ℕ) → step u (f n) x ≡ (step t n x >>= λ a. some (shifted_to f a))
  unfolding step_in
  embedded_step {n} i x =
      embedded_follow (climb t t.root n x) (climb u u.root (f n) x)
      (λ w v c e. let at = climb_found st t.root n x e in (at.machine, at.target_owner))
      (embedded_climb x (climbs st x i))

  -- and so does a list of commands
  embedded_run : {n : ℕ} → Inside t t.root n → (xs : List ℕ) → run u (f n) xs ≡ (run t n xs >>= λ a. some (shifted_to f a))
  unfolding run_by
  embedded_run i [] = refl
  embedded_run {n} i (x ∷ xs) = rw (embedded_step i x) (go (step t n x) (λ a e. embedded_run (step_inside st i x e).inside xs))
    where
      go : (o : Option Arrival) → ((a : Arrival) → o ≡ some a → run u (f a.node) xs ≡ (run t a.node xs >>= λ b. some (shifted_to f b)))
          → (o >>= (λ a. some (shifted_to f a)) >>= λ a. run u a.node xs >>= λ b. some (onto a b))
          ≡ (o >>= (λ a. run t a.node xs >>= λ b. some (onto a b)) >>= λ a. some (shifted_to f a))
      go none on = refl
      go (some a) on = rw (on a refl) (shifted_onto f a (run t a.node xs))

  -- a list moves the station between two states in one tree exactly where it does in the other, at the same cost
  embedded_moves : (a b : ℕ) → is_state t a ≡ true → (c : ℕ) → ((xs : List ℕ) × Moves t a b xs c) → (xs : List ℕ) × Moves u (f a) (f b) xs c
  embedded_moves a b sa c (xs, e) = (xs, rw (embedded_run (state_root st a sa).inside xs, e))

  unembedded_moves : (a b : ℕ) → is_state t a ≡ true → is_state t b ≡ true → (c : ℕ) → ((xs : List ℕ) × Moves u (f a) (f b) xs c)
      → (xs : List ℕ) × Moves t a b xs c
  unembedded_moves a b sa sb c (xs, e) =
      let at = state_root st a sa in
      let (r, runs, same) = bind_some (run t a xs) (λ r. some (shifted_to f r)) (sym (embedded_run at.inside xs) ∙ e) in
      let (j, o) = inside_owner (run_states st at xs runs).1.inside in
      let (k, p, plain_b) = state_parts t b sb in
      let arrives : shifted_to f r ≡ record { node = f b; cost = c } = cc in
      let there = em.one r.node j b k o p (ap (λ (a : Arrival). a.node) arrives) in
      (xs, runs ∙ ap₂ (λ (n d : ℕ). some (record { node = n; cost = d })) there (ap (λ (a : Arrival). a.cost) arrives))

  -- the least cost, or that there is no way, is the same, both ways
  pub embedded_cost : (a b : ℕ) (o : Option ℕ) → is_state t a ≡ true → is_state t b ≡ true → LeastCost t a b o → LeastCost u (f a) (f b) o
  embedded_cost a b o sa sb least = same_least _ _ (embedded_moves a b sa) (unembedded_moves a b sa sb) o least

  pub unembedded_cost : (a b : ℕ) (o : Option ℕ) → is_state t a ≡ true → is_state t b ≡ true → LeastCost u (f a) (f b) o → LeastCost t a b o
  unembedded_cost a b o sa sb least = same_least _ _ (unembedded_moves a b sa sb) (embedded_moves a b sa) o least
