-- Runs of lists of commands: one command more in front, two lists in a row, and bounds that no step breaks. Assumes nothing.
use mathlib.Core.Path.{◌≡◌, refl, sym, ◌∙◌, ap, subst}
use mathlib.Core.Option.{Option, none, some}
use mathlib.Core.List.{[], List, ◌∷◌, ◌++◌}
use Prim.Native.Nat.{ℕ, ◌+◌, ◌≤◌}
use native.Mathlib.Omega.{arith}
use native.Mathlib.Nat.{zero-add, add_assoc}
use Rattle.definitions.specs.Basics.{◌>>=◌}
use Rattle.definitions.specs.Step.{Arrival, run_by}
use Rattle.definitions.proofs.Options.{bind_some, some_same}

-- arriving by one list after another
abbrev pub onto : Arrival → Arrival → Arrival
onto a b = record { node = b.node; cost = a.cost + b.cost }

-- a run of a list that begins with x
pub record First (f : ℕ → ℕ → Option Arrival) (n x : ℕ) (xs : List ℕ) (a : Arrival) : Type 0 where
  pub mid : Arrival
  pub end : Arrival
  pub step : f n x ≡ some mid
  pub rest : run_by f mid.node xs ≡ some end
  pub joins : onto mid end ≡ a

pub run_first : (f : ℕ → ℕ → Option Arrival) (n x : ℕ) (xs : List ℕ) {a : Arrival} → run_by f n (x ∷ xs) ≡ some a → First f n x xs a
unfolding run_by
run_first f n x xs {a} e =
    let (mid, e₁, rest) = bind_some (f n x) (λ (mid : Arrival). run_by f mid.node xs >>= λ end. some (onto mid end)) e in
    let (end, e₂, same) = bind_some (run_by f mid.node xs) (λ (end : Arrival). some (onto mid end)) rest in
    record { mid = mid; end = end; step = e₁; rest = e₂; joins = some_same refl same }

pub run_cons : (f : ℕ → ℕ → Option Arrival) (n x : ℕ) (xs : List ℕ) {a b : Arrival} → f n x ≡ some a → run_by f a.node xs ≡ some b
    → run_by f n (x ∷ xs) ≡ some (onto a b)
unfolding run_by
run_cons f n x xs e rest = rw (e, rest)

-- the run of no command
pub run_nil : (f : ℕ → ℕ → Option Arrival) (n : ℕ) → run_by f n [] ≡ some (record { node = n; cost = 0 })
unfolding run_by
run_nil f n = refl

-- ---- two lists in a row

arrival : (n : ℕ) {c d : ℕ} → c ≡ d → ◌≡◌ {A = Option Arrival} (some (record { node = n; cost = c })) (some (record { node = n; cost = d }))
arrival n e = ap (λ (c : ℕ). some (record { node = n; cost = c })) e

append_nil_run : (n : ℕ) (o : Option Arrival) → o ≡ (o >>= λ b. some (onto (record { node = n; cost = 0 }) b))
append_nil_run n none = refl
append_nil_run n (some b) = arrival b.node (sym (zero-add b.cost))

append_last : (a b : Arrival) (o : Option Arrival) → (o >>= λ c. some (onto b c) >>= λ d. some (onto a d)) ≡ (o >>= λ c. some (onto (onto a b) c))
append_last a b none = refl
append_last a b (some c) = arrival c.node (sym (add_assoc a.cost b.cost c.cost))

append_mid : (a : Arrival) (g : ℕ → Option Arrival) (o : Option Arrival)
    → (o >>= (λ b. g b.node >>= λ c. some (onto b c)) >>= λ d. some (onto a d))
    ≡ (o >>= (λ b. some (onto a b)) >>= λ b. g b.node >>= λ c. some (onto b c))
append_mid a g none = refl
append_mid a g (some b) = bind_bind (g b.node) (onto b) (onto a) ∙ append_last a b (g b.node)
  where
    bind_bind : (o : Option Arrival) (f h : Arrival → Arrival) → (o >>= (λ c. some (f c)) >>= λ d. some (h d)) ≡ (o >>= λ c. some (f c) >>= λ d. some (h d))
    bind_bind none f h = refl
    bind_bind (some c) f h = refl

-- the run of two lists in a row
pub run_append : (f : ℕ → ℕ → Option Arrival) (n : ℕ) (xs ys : List ℕ)
    → run_by f n (xs ++ ys) ≡ (run_by f n xs >>= λ a. run_by f a.node ys >>= λ b. some (onto a b))
unfolding run_by
run_append f n [] ys = append_nil_run n (run_by f n ys)
run_append f n (x ∷ xs) ys = go (f n x) (λ m. run_append f m xs ys)
  where
    go : (o : Option Arrival)
        → ((m : ℕ) → run_by f m (xs ++ ys) ≡ (run_by f m xs >>= λ a. run_by f a.node ys >>= λ b. some (onto a b)))
        → (o >>= λ a. run_by f a.node (xs ++ ys) >>= λ b. some (onto a b))
        ≡ (o >>= (λ a. run_by f a.node xs >>= λ b. some (onto a b)) >>= λ a. run_by f a.node ys >>= λ b. some (onto a b))
    go none ih = refl
    go (some a) ih =
        ap (λ (o : Option Arrival). o >>= λ b. some (onto a b)) (ih a.node)
        ∙ append_mid a (λ s. run_by f s ys) (run_by f a.node xs)

-- two runs in a row, each with where it arrives
pub run_join : (f : ℕ → ℕ → Option Arrival) (n : ℕ) (xs ys : List ℕ) {a b : Arrival} → run_by f n xs ≡ some a → run_by f a.node ys ≡ some b
    → run_by f n (xs ++ ys) ≡ some (onto a b)
run_join f n xs ys e rest = run_append f n xs ys ∙ rw (e, rest)

-- ---- bounds

-- the node of an arrival has a bound, which is at most c and what the way there cost
abbrev pub Bounded : (ℕ → Option ℕ) → ℕ → Arrival → Type 0
Bounded bound c a = (d : ℕ) × (bound a.node ≡ some d) × (d ≤ c + a.cost)

-- where no step from a node with the property raises the bound by more than it costs, and each leads to such a node, no list does
pub bounded_run : (f : ℕ → ℕ → Option Arrival) (bound : ℕ → Option ℕ) (P : ℕ → Type 0)
    → ((n c x : ℕ) (a : Arrival) → P n → bound n ≡ some c → f n x ≡ some a → P a.node × Bounded bound c a)
    → (n c : ℕ) (xs : List ℕ) {a : Arrival} → P n → bound n ≡ some c → run_by f n xs ≡ some a → Bounded bound c a
bounded_run f bound P keeps n c [] holds value e = subst (Bounded bound c) (some_same (run_nil f n) e) (c, value, omega arith)
bounded_run f bound P keeps n c (x ∷ xs) holds value e =
    let first = run_first f n x xs e in
    let (holds₁, (c₁, value₁, le₁)) = keeps n c x first.mid holds value first.step in
    let (c₂, value₂, le₂) = bounded_run f bound P keeps first.mid.node c₁ xs holds₁ value₁ first.rest in
    subst (Bounded bound c) first.joins (c₂, value₂, omega arith)
