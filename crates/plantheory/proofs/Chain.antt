-- Following names from a node where they begin: if each named node can be left by its command for the node that names it, the commands
-- of the whole chain lead along it, at the sum of the costs, and pass no state twice. Rows and the search both have such names.
-- Assumes nothing.
use mathlib.Core.Path.{◌≡◌, refl, sym, ◌∙◌, ap, subst, subst₂}
use mathlib.Core.Option.{Option, none, some}
use mathlib.Core.List.{[], List, ◌∷◌, ◌++◌}
use Prim.Native.Nat.{ℕ, zero, suc, ◌+◌, ◌≤◌, ◌<◌}
use native.Mathlib.Omega.{arith}
use native.Mathlib.Nat.{le_of_suc-le-suc}
use Rattle.definitions.specs.Basics.{option, iterate, All, Distinct}
use Rattle.definitions.specs.Tree.{Tree, Sound}
use Rattle.definitions.specs.Step.{found, past, climb, Arrival, follow, step_in, run_in}
use Rattle.definitions.proofs.Options.{bind_some, none_some, some_same}
use Rattle.definitions.proofs.Path.{Enters, enters, enters_enter, climb_found}
use Rattle.definitions.proofs.Runs.{run_cons, run_nil, run_join}
use Rattle.definitions.proofs.Simple.{trail}
use Rattle.plantheory.specs.Expand.{chain_part}
use Rattle.plantheory.proofs.Under.{Under, Apart}
use Rattle.plantheory.proofs.Visits.{all_map, all_append, distinct_append, visits, visits_nil, visits_more}

-- ---- the commands of a chain

module _ (before by : ℕ → Option ℕ) (part : ℕ → ℕ → List ℕ) where
  -- where the names begin there is nothing to do
  pub chain_first : (k n : ℕ) → before n ≡ none → chain_part k before by part n ≡ []
  unfolding chain_part
  chain_first zero n e = refl
  chain_first (suc k) n e = rw e

  -- elsewhere the commands go on from the node before
  pub chain_on : (k : ℕ) {n u x : ℕ} → before n ≡ some u → by n ≡ some x
      → chain_part (suc k) before by part n ≡ chain_part k before by part u ++ (part u x ++ (x ∷ []))
  unfolding chain_part
  chain_on k e f = rw (e, f)

-- the number of names from a node back to where they begin is one number
pub chain_length : (before : ℕ → Option ℕ) {a : ℕ} → before a ≡ none → (i j n : ℕ) → iterate before i n ≡ some a → iterate before j n ≡ some a
    → i ≡ j
unfolding iterate
chain_length before {a} first zero zero n p q = refl
chain_length before {a} first zero (suc j) n p q =
    let (u, eu, rest) = bind_some (before n) (iterate before j) q in
    let same : n ≡ a = some_same refl p in
    absurd (none_some first (subst (λ (k : ℕ). before k ≡ some u) same eu))
chain_length before {a} first (suc i) zero n p q =
    let (u, eu, rest) = bind_some (before n) (iterate before i) p in
    let same : n ≡ a = some_same refl q in
    absurd (none_some first (subst (λ (k : ℕ). before k ≡ some u) same eu))
chain_length before {a} first (suc i) (suc j) n p q =
    let (u, eu, rest) = bind_some (before n) (iterate before i) p in
    let (v, ev, rest') = bind_some (before n) (iterate before j) q in
    let same : v ≡ u = some_same ev eu in
    ap suc (chain_length before first i j u rest (subst (λ (k : ℕ). iterate before j k ≡ some a) same rest'))

-- more fuel than names changes nothing
chain_enough : (before by : ℕ → Option ℕ) (part : ℕ → ℕ → List ℕ) {a : ℕ} → before a ≡ none → (j k i n : ℕ) → j ≤ k → j ≤ i
    → iterate before j n ≡ some a → chain_part k before by part n ≡ chain_part i before by part n
unfolding chain_part iterate
chain_enough before by part {a} first zero k i n fits also way =
    let same : n ≡ a = some_same refl way in
    let begin : before n ≡ none = rw same first in
    chain_first before by part k n begin ∙ sym (chain_first before by part i n begin)
chain_enough before by part first (suc j) zero i n fits also way = absurd (omega arith)
chain_enough before by part first (suc j) (suc k) zero n fits also way = absurd (omega arith)
chain_enough before by part first (suc j) (suc k) (suc i) n fits also way =
    let (u, eu, rest) = bind_some (before n) (iterate before j) way in
    rw eu
    (ap (λ (l : List ℕ). option [] (λ x. l ++ (part u x ++ (x ∷ []))) (by n))
    (chain_enough before by part first j k i u (le_of_suc-le-suc fits) (le_of_suc-le-suc also) rest))

-- with fuel for all names the commands go on from the node before, with the same fuel
pub chain_next : (before by : ℕ → Option ℕ) (part : ℕ → ℕ → List ℕ) {a : ℕ} → before a ≡ none → (j k : ℕ) {n u x : ℕ} → j < k
    → iterate before j u ≡ some a → before n ≡ some u → by n ≡ some x
    → chain_part k before by part n ≡ chain_part k before by part u ++ (part u x ++ (x ∷ []))
chain_next before by part first j zero fits way e f = absurd (omega arith)
chain_next before by part first j (suc k) {u = u} {x = x} fits way e f =
    chain_on before by part k e f
    ∙ ap (λ (l : List ℕ). l ++ (part u x ++ (x ∷ [])))
    (chain_enough before by part first j k (suc k) u (le_of_suc-le-suc fits) (omega arith) way)

-- ---- leaving a node, and crossing to another

-- From state e the list leads to a state from which x climbs as from node u, having left machines at cost `left`; all that costs `cost`.
-- It passes states below u, none of them twice.
pub record Leaving (t : Tree) (top u x e cost : ℕ) (list : List ℕ) : Type 0 where
  pub at : Arrival
  pub left : ℕ
  pub runs : run_in t top e list ≡ some at
  pub climbs : climb t top at.node x ≡ past left (climb t top u x)
  pub exact : at.cost + left ≡ cost
  pub under : All (Under t u) (trail t top e list)
  pub simple : Distinct (trail t top e list)

-- From state e the list and then x lead to the state where node n is entered, at cost w. The list passes states below u, none of them
-- twice.
pub record Crosses (t : Tree) (top u x n e w : ℕ) (list : List ℕ) : Type 0 where
  pub at : Arrival
  pub next : Arrival
  pub runs : run_in t top e list ≡ some at
  pub steps : step_in t top at.node x ≡ some next
  pub enters : Enters t n next.node
  pub exact : at.cost + next.cost ≡ w
  pub under : All (Under t u) (trail t top e list)
  pub simple : Distinct (trail t top e list)

-- a node is crossed where it can be left and x finds a transition from it
pub crosses : {t : Tree} → Sound t → {top u x e cost w v d n : ℕ} {list : List ℕ} → Leaving t top u x e cost list → climb t top u x ≡ found w v d
    → ((f : ℕ) → Enters t v f → Enters t n f) → Crosses t top u x n e (cost + d) list
unfolding step_in
crosses {t} s {top} {u} {x} {d = d} out up ahead =
    let there = (climb_found s top u x up).target_owner in
    let (f, en) = enters s there in
    record {
      at = out.at;
      next = record { node = f; cost = out.left + d };
      runs = out.runs;
      steps = ap (follow t) (out.climbs ∙ ap (past out.left) up) ∙ rw (enters_enter s en there);
      enters = ahead f en;
      exact = omega (arith, out.exact);
      under = out.under;
      simple = out.simple;
    }

-- ---- the whole chain

-- node d is below a node of the kind from which fewer than j names lead back to a
abbrev pub Earlier : Tree → (ℕ → Option ℕ) → ℕ → (ℕ → Type 0) → ℕ → ℕ → Type 0
Earlier t before a P j d = (u : ℕ) × (i : ℕ) × (i < j) × (iterate before i u ≡ some a) × P u × Under t u d

-- From state e, where a is entered, the list leads to the state where node n is entered, at cost c. Its commands are given from states
-- below nodes that are earlier on the chain than n, which is j names from a, and none of them twice.
pub record Chained (t : Tree) (top : ℕ) (before : ℕ → Option ℕ) (a e : ℕ) (P : ℕ → Type 0) (n c j : ℕ) (list : List ℕ) : Type 0 where
  pub state : ℕ
  pub runs : run_in t top e list ≡ some (record { node = state; cost = c })
  pub enters : Enters t n state
  pub earlier : All (Earlier t before a P j) (visits t top e list)
  pub simple : Distinct (visits t top e list)

-- Node n, reached at cost c, names a node and a command by which that node is crossed to n. What is reached is said by R.
pub record Linked (t : Tree) (top : ℕ) (before by : ℕ → Option ℕ) (part : ℕ → ℕ → List ℕ) (R : ℕ → ℕ → Type 0) (n c : ℕ) : Type 0 where
  pub node : ℕ
  pub command : ℕ
  pub node_cost : ℕ
  pub step_cost : ℕ
  pub names_node : before n ≡ some node
  pub names_command : by n ≡ some command
  pub reached : R node node_cost
  pub crossed : (e : ℕ) → Enters t node e → Crosses t top node command n e step_cost (part node command)
  pub exact : c ≡ node_cost + step_cost

module _ (t : Tree) (top : ℕ) (before : ℕ → Option ℕ) (a e : ℕ) (first : before a ≡ none) (P : ℕ → Type 0) (apart : Apart t P) where
  -- the states of a chain to n, and then states below n, are all different
  pub chain_simple : {n : ℕ} (j : ℕ) → P n → iterate before j n ≡ some a → (xs ys : List ℕ) → All (Earlier t before a P j) xs → Distinct xs
      → All (Under t n) ys → Distinct ys → Distinct (xs ++ ys)
  chain_simple {n} j pn way xs ys earlier dx under dy =
      distinct_append (Earlier t before a P j) (Under t n)
      (λ d k early below_n same.
      let (u, i, less, way_u, pu, below_u) = early in
      let one : u ≡ n = apart u n k pu pn (subst (Under t u) same below_u) below_n in
      let length_same : i ≡ j = chain_length before first i j n (subst (λ (v : ℕ). iterate before i v ≡ some a) one way_u) way in
      omega arith)
      xs ys dx dy earlier under

  -- one node more
  chained_on : {n u x c w : ℕ} (j : ℕ) {list piece : List ℕ} → P u → iterate before j u ≡ some a → (way : Chained t top before a e P u c j list)
      → Crosses t top u x n way.state w piece → Chained t top before a e P n (c + w) (suc j) (list ++ (piece ++ (x ∷ [])))
  chained_on {n} {u} {x} {c} {w} j {list} {piece} pu names way cross =
      let last = run_cons (step_in t top) cross.at.node x [] cross.steps (run_nil (step_in t top) cross.next.node) in
      let rest = run_join (step_in t top) way.state piece (x ∷ []) cross.runs last in
      let whole = run_join (step_in t top) e list (piece ++ (x ∷ [])) way.runs rest in
      let states = visits_more t top e list piece x way.runs in
      record {
        state = cross.next.node;
        runs = whole ∙ ap (λ (k : ℕ). some (record { node = cross.next.node; cost = k })) (omega (arith, cross.exact));
        enters = cross.enters;
        earlier =
            rw states
            (all_append (Earlier t before a P (suc j)) (visits t top e list) (trail t top way.state piece)
            (all_map (Earlier t before a P j) (Earlier t before a P (suc j))
            (λ d early. let (v, i, less, way_v, pv, below_v) = early in (v, i, omega arith, way_v, pv, below_v))
            (visits t top e list) way.earlier)
            (all_map (Under t u) (Earlier t before a P (suc j)) (λ d below_u. (u, j, omega arith, names, pu, below_u))
            (trail t top way.state piece) cross.under));
        simple =
            rw states
            (chain_simple j pu names (visits t top e list) (trail t top way.state piece) way.earlier way.simple
            cross.under cross.simple);
      }

  module _ (by : ℕ → Option ℕ) (part : ℕ → ℕ → List ℕ) (R : ℕ → ℕ → Type 0) (kind : (n c : ℕ) → R n c → P n) (start_cost : (c : ℕ) → R a c → c ≡ 0)
      (linked : (n c : ℕ) → (n ≡ a → ⊥) → R n c → Linked t top before by part R n c) (begins : Enters t a e) where
    -- every reached node from which j names lead back to a
    pub chained : (j k n c : ℕ) → j ≤ k → iterate before j n ≡ some a → R n c → Chained t top before a e P n c j (chain_part k before by part n)
    unfolding iterate
    chained zero k n c fits way reach =
        let same : n ≡ a = some_same refl way in
        let begin : before n ≡ none = rw same first in
        let free : c ≡ 0 = start_cost c (subst (λ (v : ℕ). R v c) same reach) in
        rw (chain_first before by part k n begin, free)
        (record {
          state = e;
          runs = run_nil (step_in t top) e;
          enters = subst (λ (v : ℕ). Enters t v e) (sym same) begins;
          earlier = rw (visits_nil t top e) tt;
          simple = rw (visits_nil t top e) tt;
        })
    chained (suc j) zero n c fits way reach = absurd (omega arith)
    chained (suc j) (suc k) n c fits way reach =
        let (u, eu, rest) = bind_some (before n) (iterate before j) way in
        let link = linked n c (λ same. none_some first (subst (λ (v : ℕ). before v ≡ some u) same eu)) reach in
        let names : iterate before j link.node ≡ some a =
        subst (λ (v : ℕ). iterate before j v ≡ some a) (some_same eu link.names_node) rest in
        let there = chained j k link.node link.node_cost (le_of_suc-le-suc fits) names link.reached in
        subst₂ (λ (d : ℕ) (list : List ℕ). Chained t top before a e P n d (suc j) list) (sym link.exact)
        (sym (chain_on before by part k link.names_node link.names_command))
        (chained_on j (kind link.node link.node_cost link.reached) names there (link.crossed there.state there.enters))
