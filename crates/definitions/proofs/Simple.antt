-- Lists that pass no state twice: repeats are dropped at no cost, a list without them has fewer commands than there are states inside
-- its machine, and so exit costs and the costs of plans are bounded. Assumes nothing.
use mathlib.Core.Path.{◌≡◌, refl, ◌∙◌, ap, subst, fun_ext}
use mathlib.Core.Logic.{◌⊎◌, inl, inr, ⊎_elim}
use mathlib.Core.Bool.{Bool, true, false, cond, not, ◌&&◌, or-true}
use mathlib.Core.Option.{Option, none, some}
use mathlib.Core.List.{[], List, ◌∷◌, ◌++◌}
use Prim.Native.Nat.{ℕ, zero, suc, ◌+◌, ◌*◌, ◌-◌, ◌≤◌, ◌<◌}
use native.Mathlib.Omega.{arith}
use native.Mathlib.Nat.{not-suc-le-zero}
use lib.Dec.{eqb}
use lib.ListN.{length}
use borrow.Author.Tests.{eq-eqb, ne_eqb}
use Rattle.definitions.specs.Basics.{option, is_some, is_at, count_below, any_of, All, Distinct}
use Rattle.definitions.specs.Limits.{nodes, commands, costs, levels, largest_step_cost, largest_plan_cost}
use Rattle.definitions.specs.Tree.{Tree, Transition, Sound, is_state, states, above, path, path_f, level, over}
use Rattle.definitions.specs.Step.{enter, start_state, counting, leaving_of, Climb, found, passed, past, first_of, look, climb, Arrival, follow, step_in, run_in, Moves, passes}
use Rattle.definitions.specs.Costs.{LeastCost, ExitCost}
use Rattle.definitions.proofs.Options.{bind_some, none_some, some_same, and_true, equal_or_not, is_at_some, is_some_true}
use Rattle.definitions.proofs.Path.{Deep, at_root, under, root_holder, deep, path_on, climb_found, enter_enters, enters_state, counting_is, Inside, own, deeper}
use Rattle.definitions.proofs.Runs.{onto, run_first, run_cons, run_nil}
use Rattle.definitions.proofs.Exits.{ExitParts, exit_parts, parts_exit}
use Rattle.definitions.proofs.Inside.{inside_owner, enters_inside, found_inside}

-- ---- the states that a list passes

-- the states that a list passes, with transitions in machine top or below it: the one where it begins and each that a command leads to
unfoldable pub trail : Tree → ℕ → ℕ → List ℕ → List ℕ
trail t top s [] = s ∷ []
trail t top s (x ∷ xs) = s ∷ option [] (λ a. trail t top a.node xs) (step_in t top s x)

-- what a list passes in the whole tree is its trail in the root machine
pub passes_trail : (t : Tree) (s : ℕ) (xs : List ℕ) → passes t s xs ≡ trail t t.root s xs
unfolding passes trail
passes_trail t s [] = refl
passes_trail t s (x ∷ xs) =
    ap (λ (f : ℕ → List ℕ). s ∷ option [] (λ a. f a.node) (step_in t t.root s x)) (fun_ext (λ n. passes_trail t n xs))

-- the trail of no command
pub trail_nil : (t : Tree) (top s : ℕ) → trail t top s [] ≡ s ∷ []
unfolding trail
trail_nil t top s = refl

-- the trail of one command more in front
pub trail_cons : (t : Tree) (top s x : ℕ) (xs : List ℕ) {a : Arrival} → step_in t top s x ≡ some a
    → trail t top s (x ∷ xs) ≡ s ∷ trail t top a.node xs
unfolding trail
trail_cons t top s x xs e = rw e

-- a list passes one state more than it has commands
pub trail_length : (t : Tree) (top s : ℕ) (xs : List ℕ) {a : Arrival} → run_in t top s xs ≡ some a
    → length (trail t top s xs) ≡ suc (length xs)
trail_length t top s [] e = rw (trail_nil t top s)
trail_length t top s (x ∷ xs) e =
    let first = run_first (step_in t top) s x xs e in
    rw (trail_cons t top s x xs first.step) (ap suc (trail_length t top first.mid.node xs first.rest))

-- ---- dropping repeats

-- a list from s that passes no state twice, ends where a did and costs no more
abbrev pub Simple : Tree → ℕ → ℕ → Arrival → Type 0
Simple t top s a =
    (ys : List ℕ) × (b : Arrival) × (run_in t top s ys ≡ some b) × (b.node ≡ a.node) × (b.cost ≤ a.cost) × Distinct (trail t top s ys)

-- what costs no more than b costs no more than what came before b and b together
simple_onto : (t : Tree) (top s : ℕ) (a b : Arrival) → Simple t top s b → Simple t top s (onto a b)
simple_onto t top s a b simple = let (ys, c, runs, same, small, distinct) = simple in (ys, c, runs, same, omega arith, distinct)

-- a list without repeats from n is one from s where s is n
cut_here : (t : Tree) (top s n : ℕ) (ys : List ℕ) (b : Arrival) → run_in t top n ys ≡ some b → Distinct (trail t top n ys) → s ≡ n
    → Simple t top s b
cut_here t top s n ys b e distinct same = rw same (ys, b, e, refl, omega arith, distinct)

-- a list without repeats keeps clear of s, or the part of it from s on is one from s
cut : (t : Tree) (top s n : ℕ) (ys : List ℕ) (b : Arrival) → run_in t top n ys ≡ some b → Distinct (trail t top n ys)
    → All (λ k. s ≡ k → ⊥) (trail t top n ys) ⊎ Simple t top s b
cut t top s n [] b e distinct =
    ⊎_elim (λ same. inr (cut_here t top s n [] b e distinct same)) (λ other. inl (rw (trail_nil t top n) (other, tt))) (equal_or_not s n)
cut t top s n (y ∷ ys) b e distinct =
    let first = run_first (step_in t top) n y ys e in
    let way = trail_cons t top n y ys first.step in
    ⊎_elim (λ same. inr (cut_here t top s n (y ∷ ys) b e distinct same))
    (λ other.
    ⊎_elim (λ clear. inl (rw way (other, clear)))
    (λ simple. inr (subst (Simple t top s) first.joins (simple_onto t top s first.mid first.end simple)))
    (cut t top s first.mid.node ys first.end first.rest (rw way at distinct).1))
    (equal_or_not s n)

-- every list can be had without repeats: it ends in the same state and costs no more
pub simple_run : (t : Tree) (top s : ℕ) (xs : List ℕ) (a : Arrival) → run_in t top s xs ≡ some a → Simple t top s a
simple_run t top s [] a e = ([], a, e, refl, omega arith, rw (trail_nil t top s) (tt, tt))
simple_run t top s (x ∷ xs) a e =
    let first = run_first (step_in t top) s x xs e in
    let (ys, b, runs, same, small, distinct) = simple_run t top first.mid.node xs first.end first.rest in
    subst (Simple t top s) first.joins
    (⊎_elim
    (λ clear. (
      x ∷ ys,
      onto first.mid b,
      run_cons (step_in t top) s x ys first.step runs,
      same,
      omega arith,
      rw (trail_cons t top s x ys first.step) (clear, distinct),
    ))
    (λ simple.
    let (zs, c, runs', same', small', distinct') = simple in
    (zs, c, runs', same' ∙ same, omega arith, distinct'))
    (cut t top s first.mid.node ys b runs distinct))

-- ---- counting

-- none below 0
pub count_none : (p : ℕ → Bool) → count_below 0 p ≡ 0
unfolding count_below
count_none p = refl

-- one more, where the number passes; as many, where it does not
pub count_pass : (p : ℕ → Bool) (k : ℕ) → p k ≡ true → count_below (suc k) p ≡ suc (count_below k p)
unfolding count_below
count_pass p k e = rw e (omega arith)

pub count_skip : (p : ℕ → Bool) (k : ℕ) → p k ≡ false → count_below (suc k) p ≡ count_below k p
unfolding count_below
count_skip p k e = rw e (omega arith)

-- a test that passes wherever another does counts no less: at one number, and below a limit
count_one : (a b : Bool) → (a ≡ true → b ≡ true) → cond {A = ℕ} a 1 0 ≤ cond b 1 0
count_one true b h = rw (h refl) (omega arith)
count_one false b h = omega arith

pub count_mono : (k : ℕ) (p q : ℕ → Bool) → ((i : ℕ) → p i ≡ true → q i ≡ true) → count_below k p ≤ count_below k q
unfolding count_below
count_mono zero p q h = omega arith
count_mono (suc k) p q h = omega (arith, count_one (p k) (q k) (h k), count_mono k p q h)

-- and where it passes at one number more below the limit it counts more
pub count_more : (k : ℕ) (p q : ℕ → Bool) → ((i : ℕ) → p i ≡ true → q i ≡ true) → (n : ℕ) → n < k → p n ≡ false → q n ≡ true
    → count_below k p < count_below k q
unfolding count_below
count_more zero p q h n small fails passes = absurd (not-suc-le-zero small)
count_more (suc k) p q h n small fails passes =
    ⊎_elim
    (λ (same : n ≡ k).
    let fails_k : p k ≡ false = rw same at fails in
    let passes_k : q k ≡ true = rw same at passes in
    rw (fails_k, passes_k) (omega (arith, count_mono k p q h)))
    (λ (other : n ≡ k → ⊥). omega (arith, count_one (p k) (q k) (h k), count_more k p q h n (omega arith) fails passes))
    (equal_or_not n k)

-- two tests that agree below a limit count alike
pub count_same : (k : ℕ) (p q : ℕ → Bool) → ((i : ℕ) → i < k → p i ≡ q i) → count_below k p ≡ count_below k q
unfolding count_below
count_same zero p q same = refl
count_same (suc k) p q same = rw (same k (omega arith), count_same k p q (λ i h. same i (omega arith)))

-- no more than all numbers below the limit are counted
pub count_limit : (k : ℕ) (p : ℕ → Bool) → count_below k p ≤ k
unfolding count_below
count_limit zero p = omega arith
count_limit (suc k) p = omega (arith, count_one (p k) true (λ e. refl), count_limit k p)

-- every element has a property that follows from two others that every element has
pub all_both : {A : Type 0} (P Q R : A → Type 0) → ((a : A) → P a → Q a → R a) → (l : List A) → All P l → All Q l → All R l
all_both P Q R f [] p q = tt
all_both P Q R f (a ∷ l) p q = (f a p.0 q.0, all_both P Q R f l p.1 q.1)

-- every element has a property that follows from one that every element has
pub all_map : {A : Type 0} (P Q : A → Type 0) → ((a : A) → P a → Q a) → (l : List A) → All P l → All Q l
all_map P Q f l all = all_both P P Q (λ a p q. f a p) l all all

-- every element of two lists in a row has a property
pub all_append : {A : Type 0} (P : A → Type 0) (xs ys : List A) → All P xs → All P ys → All P (xs ++ ys)
all_append P [] ys p q = q
all_append P (x ∷ xs) ys p q = (p.0, all_append P xs ys p.1 q)

-- different numbers below k that pass a test are no more than are counted
pub distinct_count : (k : ℕ) (p : ℕ → Bool) (ns : List ℕ) → Distinct ns → All (λ n. (n < k) × (p n ≡ true)) ns → length ns ≤ count_below k p
distinct_count k p [] d all = omega arith
distinct_count k p (n ∷ ns) d all =
    let others : ℕ → Bool = λ i. p i && not (eqb n i) in
    let rest : All (λ i. (i < k) × (others i ≡ true)) ns =
    all_both (λ i. n ≡ i → ⊥) (λ i. (i < k) × (p i ≡ true)) (λ i. (i < k) × (others i ≡ true))
    (λ i other h. (h.0, rw (h.1, ne_eqb n i other))) ns d.0 all.1 in
    omega (
      arith,
      distinct_count k others ns d.1 rest,
      count_more k others p (λ i e. (and_true (p i) (not (eqb n i)) e).0) n all.0.0 (rw (all.0.1, eq-eqb n n refl)) all.0.1,
    )

-- ---- costs

-- a transition that counts costs at most 65,535
pub counting_cost : {t : Tree} → Sound t → (n x : ℕ) (a : Transition) → counting t n x ≡ some a → a.cost ≤ costs - 1
counting_cost {t} s n x a e = omega (arith, (s.transition_range n x a (counting_is t n x a e)).1)

-- leaving a node's machine costs at most 65,535
leaving_small : {t : Tree} → Sound t → (n : ℕ) → leaving_of t n < costs
leaving_small {t} s n = go (t.owner n)
  where
    go : (o : Option ℕ) → option 0 t.leave o < costs
    go none = omega arith
    go (some m) = omega (arith, s.leave_range m)

-- What is found on a way up over k nodes costs at most 65,535 for each of them, leaving included, and so does leaving machines where nothing is
-- found.
abbrev pub Cheap : ℕ → Climb → Type 0
Cheap k (found u v c) = c ≤ k * (costs - 1)
Cheap k (passed c) = c ≤ k * (costs - 1)

cheap_past : (l k : ℕ) → l < costs → (up : Climb) → Cheap k up → Cheap (suc k) (past l up)
cheap_past l k small (found u v c) cheap = omega arith
cheap_past l k small (passed c) cheap = omega arith

cheap_first : {t : Tree} → Sound t → (n x k : ℕ) (o : Option Transition) → counting t n x ≡ o → (up : Climb) → Cheap (suc k) up
    → Cheap (suc k) (first_of n o up)
cheap_first s n x k none has up cheap = cheap
cheap_first s n x k (some a) has up cheap = omega (arith, counting_cost s n x a has)

cheap_further : (b : Bool) (k : ℕ) (up : Climb) → Cheap k up → Cheap k (cond b (passed 0) up)
cheap_further true k up cheap = omega arith
cheap_further false k up cheap = cheap

look_cheap : {t : Tree} → Sound t → (top x : ℕ) (ns : List ℕ) → Cheap (length ns) (look t top x ns)
unfolding look
look_cheap s top x [] = omega arith
look_cheap {t} s top x (n ∷ ns) =
    cheap_first s n x (length ns) (counting t n x) refl _
    (cheap_further (is_at (t.owner n) top) (suc (length ns)) _
    (cheap_past (leaving_of t n) (length ns) (leaving_small s n) (look t top x ns) (look_cheap s top x ns)))

-- so it is of every climb: a path has at most 8 nodes
cheap_more : {j k : ℕ} → j ≤ k → (up : Climb) → Cheap j up → Cheap k up
cheap_more less (found u v c) cheap = omega arith
cheap_more less (passed c) cheap = omega arith

short_on : (k : ℕ) (t : Tree) → ((h : ℕ) → length (path_f k t h) ≤ k) → (o : Option ℕ) → length (option [] (λ h. path_f k t h) o) ≤ k
short_on k t short none = omega arith
short_on k t short (some h) = short h

path_short : (k : ℕ) (t : Tree) (n : ℕ) → length (path_f k t n) ≤ k
unfolding path_f
path_short zero t n = omega arith
path_short (suc k) t n = omega (arith, short_on k t (path_short k t) (above t n))

-- so no level is lower than 8
pub level_small : (t : Tree) (n : ℕ) → level t n ≤ levels
unfolding level path
level_small t n = path_short levels t n

pub climb_cheap : {t : Tree} → Sound t → (top n x : ℕ) → Cheap levels (climb t top n x)
unfolding climb path
climb_cheap {t} s top n x = cheap_more (path_short levels t n) (look t top x (path t n)) (look_cheap s top x (path t n))

-- what leaving machines costs where nothing is found
pub passed_small : {t : Tree} → Sound t → (top n x : ℕ) {c : ℕ} → climb t top n x ≡ passed c → c ≤ largest_step_cost
passed_small s top n x e = subst (Cheap levels) e (climb_cheap s top n x)

-- the parts of a step: a transition is found, and its target entered
pub record Stepped (t : Tree) (top s x : ℕ) (a : Arrival) : Type 0 where
  pub node : ℕ
  pub target : ℕ
  pub finds : climb t top s x ≡ found node target a.cost
  pub enters : enter t target ≡ some a.node

pub step_stepped : (t : Tree) (top s x : ℕ) {a : Arrival} → step_in t top s x ≡ some a → Stepped t top s x a
unfolding step_in
step_stepped t top s x {a} e = go (climb t top s x) refl e
  where
    go : (k : Climb) → climb t top s x ≡ k → follow t k ≡ some a → Stepped t top s x a
    go (passed c) up f = absurd (none_some {a = a} refl f)
    go (found u v c) up f =
        let (n, en, same) = bind_some (enter t v) (λ n. some (record { node = n; cost = c })) f in
        subst (Stepped t top s x) (some_same refl same) (record { node = u; target = v; finds = up; enters = en })

-- a step leads to a state
pub step_state : {t : Tree} → Sound t → (top s x : ℕ) {a : Arrival} → step_in t top s x ≡ some a
    → (m : ℕ) × (t.owner a.node ≡ some m) × (t.below a.node ≡ none)
step_state {t} sound top s x e =
    let way = step_stepped t top s x e in
    let target = (climb_found sound top s x way.finds).target_owner in
    enters_state sound (enter_enters sound target way.enters) target

-- a step is by a command, and leads to a node in range
pub step_range : {t : Tree} → Sound t → (top n x : ℕ) {a : Arrival} → step_in t top n x ≡ some a → (x < commands) × (a.node < nodes)
step_range {t} s top n x {a} e =
    let (p, owned, plain) = step_state s top n x e in
    ((climb_found s top n x (step_stepped t top n x e).finds).range, s.node_range a.node p owned)

-- one command costs at most 8 × 65,535
pub step_cost : {t : Tree} → Sound t → (top s x : ℕ) {a : Arrival} → step_in t top s x ≡ some a → a.cost ≤ largest_step_cost
step_cost {t} sound top s x e = subst (Cheap levels) (step_stepped t top s x e).finds (climb_cheap sound top s x)

-- a list costs at most that for each command
pub run_cost : {t : Tree} → Sound t → (top s : ℕ) (xs : List ℕ) {a : Arrival} → run_in t top s xs ≡ some a
    → a.cost ≤ length xs * largest_step_cost
run_cost {t} sound top s [] {a} e =
    let none_spent : 0 ≡ a.cost = ap (λ (b : Arrival). b.cost) (some_same (run_nil (step_in t top) s) e) in
    omega arith
run_cost {t} sound top s (x ∷ xs) {a} e =
    let first = run_first (step_in t top) s x xs e in
    let sum : first.mid.cost + first.end.cost ≡ a.cost = ap (λ (b : Arrival). b.cost) first.joins in
    omega (arith, step_cost sound top s x first.step, run_cost sound top first.mid.node xs first.rest)

-- ---- staying inside a machine

-- a node in use that holds no machine is a state
pub state_test : (t : Tree) {n m : ℕ} → t.owner n ≡ some m → t.below n ≡ none → is_state t n ≡ true
state_test t o b = rw (o, b)

-- n is a state of machine top or below it
pub record StateIn (t : Tree) (top n : ℕ) : Type 0 where
  pub inside : Inside t top n
  pub state : is_state t n ≡ true

-- entering a node inside top leads to a state inside top
pub enter_inside : {t : Tree} → Sound t → {top n e : ℕ} → Inside t top n → enter t n ≡ some e → StateIn t top e
enter_inside {t} sound {top} {n} i e =
    let (m, o) = inside_owner i in
    let way = enter_enters sound o e in
    let (p, o', b) = enters_state sound way o in
    record { inside = enters_inside sound i way; state = state_test t o' b }

-- a step from a node inside top leads to a state inside top
pub step_inside : {t : Tree} → Sound t → {top s : ℕ} → Inside t top s → (x : ℕ) {a : Arrival} → step_in t top s x ≡ some a
    → StateIn t top a.node
step_inside {t} sound {top} {s} i x e =
    let at = step_stepped t top s x e in
    enter_inside sound (found_inside sound x i at.finds) at.enters

-- what every step keeps holds of every state that a list passes, and of the state where it ends
pub run_keeps : (t : Tree) (top : ℕ) (P : ℕ → Type 0) → ((n x : ℕ) (a : Arrival) → P n → step_in t top n x ≡ some a → P a.node)
    → (s : ℕ) → P s → (xs : List ℕ) {a : Arrival} → run_in t top s xs ≡ some a → All P (trail t top s xs) × P a.node
run_keeps t top P keeps s h [] e = (rw (trail_nil t top s) (h, tt), subst (λ (a : Arrival). P a.node) (some_same (run_nil (step_in t top) s) e) h)
run_keeps t top P keeps s h (x ∷ xs) e =
    let first = run_first (step_in t top) s x xs e in
    let (all, last) = run_keeps t top P keeps first.mid.node (keeps s x first.mid h first.step) xs first.rest in
    (rw (trail_cons t top s x xs first.step) (h, all), subst (λ (a : Arrival). P a.node) first.joins last)

-- so a list from a state inside top passes only such states
pub run_states : {t : Tree} → Sound t → {top s : ℕ} → StateIn t top s → (xs : List ℕ) {a : Arrival} → run_in t top s xs ≡ some a
    → All (StateIn t top) (trail t top s xs) × StateIn t top a.node
run_states {t} sound {top} {s} i xs e = run_keeps t top (StateIn t top) (λ n x a h f. step_inside sound h.inside x f) s i xs e

-- a machine is over its own nodes
pub over_own : (t : Tree) {top n : ℕ} → t.owner n ≡ some top → over t top n ≡ true
unfolding over any_of path path_f
over_own t {top} o = rw (is_at_some top top o refl)

-- and it is over the nodes of a machine that is held by a node that it is over
pub over_on : {t : Tree} → Sound t → {n m h : ℕ} (top : ℕ) → t.owner n ≡ some m → t.holder m ≡ some h → over t top h ≡ true
    → over t top n ≡ true
unfolding over any_of
over_on {t} sound {n} top o hold up = rw (path_on sound o hold, up) (or-true (is_at (t.owner n) top))

-- so machine top is over every node inside it
pub inside_over : {t : Tree} → Sound t → {top n : ℕ} → Inside t top n → over t top n ≡ true
inside_over {t} sound (own o) = over_own t o
inside_over sound {top} (deeper o other hold inner) = over_on sound top o hold (inside_over sound inner)

-- every node in use is inside the root machine
inside_root_deep : {t : Tree} → Sound t → {n m k : ℕ} → t.owner n ≡ some m → Deep t m k → Inside t t.root n
inside_root_deep {t} sound {n} {m} o (at_root e) = own (rw e at o)
inside_root_deep sound o (under hold up d) = deeper o (λ same. root_holder sound same hold) hold (inside_root_deep sound up d)

pub inside_root : {t : Tree} → Sound t → {n m : ℕ} → t.owner n ≡ some m → Inside t t.root n
inside_root sound {n} {m} o =
    let (f, used) = sound.owner_used n m o in
    let (k, small, way) = deep sound used in
    inside_root_deep sound o way

-- and every state is a state inside it
pub state_root : {t : Tree} → Sound t → (n : ℕ) → is_state t n ≡ true → StateIn t t.root n
state_root {t} sound n e =
    let (m, o) = is_some_true (t.owner n) (and_true (is_some (t.owner n)) (not (is_some (t.below n))) e).0 in
    record { inside = inside_root sound o; state = e }

-- the start state of a machine is a state inside it
pub start_inside : {t : Tree} → Sound t → (m : ℕ) {s : ℕ} → start_state t m ≡ some s → StateIn t m s
unfolding start_state
start_inside {t} sound m e =
    let (f, st, en) = bind_some (t.start m) (λ f. enter t f) e in
    enter_inside sound (own (sound.start_owned m f st)) en

-- ---- how many states there are

-- how many states belong to machine top or to a machine below it
unfoldable pub states_in : Tree → ℕ → ℕ
states_in t top = count_below nodes (λ n. is_state t n && over t top n)

-- no more states are inside a machine than there are
pub states_in_states : (t : Tree) (top : ℕ) → states_in t top ≤ states t
unfolding states_in states
states_in_states t top = count_mono nodes (λ n. is_state t n && over t top n) (is_state t) (λ n e. (and_true (is_state t n) (over t top n) e).0)

-- there are no more states than nodes
pub states_bound : (t : Tree) → states t ≤ nodes
unfolding states
states_bound t = count_limit nodes (is_state t)

-- different states inside top are no more than are counted there
pub distinct_states : {t : Tree} → Sound t → (top : ℕ) (ns : List ℕ) → Distinct ns → All (StateIn t top) ns → length ns ≤ states_in t top
unfolding states_in
distinct_states {t} sound top ns distinct all =
    distinct_count nodes (λ n. is_state t n && over t top n) ns distinct
    (all_both (StateIn t top) (StateIn t top) (λ n. (n < nodes) × ((is_state t n && over t top n) ≡ true))
    (λ n i j. let (m, o) = inside_owner i.inside in (sound.node_range n m o, rw (i.state, inside_over sound i.inside))) ns all all)

-- a list without repeats from a state inside top has fewer commands than there are states inside top
pub simple_length : {t : Tree} → Sound t → {top s : ℕ} → StateIn t top s → (xs : List ℕ) {a : Arrival} → run_in t top s xs ≡ some a
    → Distinct (trail t top s xs) → length xs < states_in t top
simple_length {t} sound {top} {s} i xs e distinct =
    omega (arith, trail_length t top s xs e, distinct_states sound top (trail t top s xs) distinct (run_states sound i xs e).0)

-- so it costs at most the largest cost of a command for each state inside top but one
pub simple_cost : {t : Tree} → Sound t → {top s : ℕ} → StateIn t top s → (xs : List ℕ) {a : Arrival} → run_in t top s xs ≡ some a
    → Distinct (trail t top s xs) → a.cost ≤ (states_in t top - 1) * largest_step_cost
simple_cost sound {top} {s} i xs e distinct = omega (arith, run_cost sound top s xs e, simple_length sound i xs e distinct)

-- ---- the whole tree

-- every list that moves the station can be had without repeats
pub simple_moves : (t : Tree) (a b : ℕ) (xs : List ℕ) (c : ℕ) → Moves t a b xs c
    → (ys : List ℕ) × (d : ℕ) × Moves t a b ys d × (d ≤ c) × Distinct (passes t a ys)
simple_moves t a b xs c e =
    let (ys, d, runs, same, small, distinct) = simple_run t t.root a xs (record { node = b; cost = c }) e in
    (ys, d.cost, runs ∙ ap (λ (n : ℕ). some (record { node = n; cost = d.cost })) same, small, rw (passes_trail t a ys) distinct)

-- a list without repeats from a state has fewer commands than there are states
pub moves_length : {t : Tree} → Sound t → (a b : ℕ) (xs : List ℕ) (c : ℕ) → is_state t a ≡ true → Moves t a b xs c → Distinct (passes t a xs)
    → length xs < states t
moves_length {t} sound a b xs c at e distinct =
    omega (arith, simple_length sound (state_root sound a at) xs e (rw (passes_trail t a xs) at distinct), states_in_states t t.root)

-- ---- the bounds

-- an exit cost is at most the number of states inside the machine less one, times the largest cost of a command, and leaving the machines below
pub exit_bound : {t : Tree} → Sound t → (m x c : ℕ) → ExitCost t m x (some c) → c ≤ (states_in t m - 1) * largest_step_cost + largest_step_cost
exit_bound {t} sound m x c least =
    let (xs, e) = least.0 in
    let p = exit_parts t m x xs e in
    let (ys, b, runs, same, small, distinct) = simple_run t m p.state xs p.at p.runs in
    let q : ExitParts t m x ys (b.cost + p.left) =
    record { state = p.state; at = b; left = p.left; begins = p.begins; runs = runs; climbs = rw same p.climbs; exact = refl } in
    omega (
      arith,
      least.1 (b.cost + p.left) (ys, parts_exit t m x ys q),
      passed_small sound m p.at.node x p.climbs,
      simple_cost sound (start_inside sound m p.begins) ys runs distinct,
    )

-- the least cost from a state to a state is at most the number of states less one, times the largest cost of a command
pub plan_bound : {t : Tree} → Sound t → (a b c : ℕ) → is_state t a ≡ true → LeastCost t a b (some c) → c ≤ (states t - 1) * largest_step_cost
plan_bound {t} sound a b c at least =
    let (xs, e) = least.0 in
    let (ys, d, moves, small, distinct) = simple_moves t a b xs c e in
    omega (arith, least.1 d (ys, moves), run_cost sound t.root a ys moves, moves_length sound a b ys d at moves distinct)

-- so exit costs are at most 134,215,680, and costs of plans 133,691,400
pub exit_largest : {t : Tree} → Sound t → (m x c : ℕ) → ExitCost t m x (some c) → c ≤ largest_plan_cost + largest_step_cost
exit_largest {t} sound m x c least = omega (arith, exit_bound sound m x c least, states_in_states t m, states_bound t)

pub plan_largest : {t : Tree} → Sound t → (a b c : ℕ) → is_state t a ≡ true → LeastCost t a b (some c) → c ≤ largest_plan_cost
plan_largest {t} sound a b c at least = omega (arith, plan_bound sound a b c at least, states_bound t)
