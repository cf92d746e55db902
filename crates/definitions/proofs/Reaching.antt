-- Costs of nodes, under any moves: where every move is accounted for and every reached node names a move that gives its cost, each cost is the
-- least over all lists of moves. Assumes nothing.
use mathlib.Core.Path.{◌≡◌, refl, sym, ◌∙◌, ap, subst}
use mathlib.Core.Option.{Option, none, some}
use mathlib.Core.List.{[], List, ◌∷◌, ◌++◌}
use Prim.Native.Nat.{ℕ, zero, suc, ◌+◌}
use native.Mathlib.Omega.{arith}
use Rattle.definitions.specs.Basics.{iterate, Least}
use Rattle.definitions.specs.Step.{Arrival, run_by}
use Rattle.definitions.proofs.Options.{bind_some, none_some, some_same}
use Rattle.definitions.proofs.Runs.{run_nil, run_cons, run_join, Bounded, bounded_run}

-- what holds of the start and is handed on along the names holds of every node that they lead back from
pub along_names : (before : ℕ → Option ℕ) (P : ℕ → Type 0) {s : ℕ} → P s → ((n u : ℕ) → before n ≡ some u → P u → P n)
    → (k n : ℕ) → iterate before k n ≡ some s → P n
unfolding iterate
along_names before P first on zero n e = subst P (some_same e refl) first
along_names before P first on (suc k) n e =
    let (u, eu, rest) = bind_some (before n) (iterate before k) e in
    on n u eu (along_names before P first on k u rest)

module _ (move : ℕ → ℕ → Option Arrival) where
  -- one move more
  pub run_on : (n x : ℕ) (xs : List ℕ) {u v c d : ℕ} → run_by move n xs ≡ some (record { node = u; cost = c }) → move u x ≡ some (record { node = v; cost = d })
      → run_by move n (xs ++ (x ∷ [])) ≡ some (record { node = v; cost = c + d })
  run_on n x xs {u} {v} {c} {d} way step =
      run_join move n xs (x ∷ []) way (run_cons move u x [] step (run_nil move v)) ∙ ap (λ (k : ℕ). some (record { node = v; cost = k })) (omega arith)

  -- some list of moves leads from s to n at cost c
  abbrev pub Reaches : ℕ → ℕ → ℕ → Type 0
  Reaches s n c = (xs : List ℕ) × (run_by move s xs ≡ some (record { node = n; cost = c }))

-- node n, reached at cost c, names a node with the property, from which a move leads to n at exactly this cost
pub record Led (move : ℕ → ℕ → Option Arrival) (P : ℕ → Type 0) (cost before : ℕ → Option ℕ) (n c : ℕ) : Type 0 where
  pub node : ℕ
  pub command : ℕ
  pub node_cost : ℕ
  pub step_cost : ℕ
  pub names : before n ≡ some node
  pub holds : P node
  pub reached : cost node ≡ some node_cost
  pub moves : move node command ≡ some (record { node = n; cost = step_cost })
  pub exact : c ≡ node_cost + step_cost

module _ (move : ℕ → ℕ → Option Arrival) (P : ℕ → Type 0) (cost before : ℕ → Option ℕ) {s : ℕ} (first : cost s ≡ some 0) (start : before s ≡ none)
    (named : (n c : ℕ) → P n → (n ≡ s → ⊥) → cost n ≡ some c → Led move P cost before n c) where
  -- what the names lead to is a list of moves
  pub named_reaches : (k n c : ℕ) → P n → cost n ≡ some c → iterate before k n ≡ some s → Reaches move s n c
  named_reaches k n c holds has way =
      along_names before (λ u. P u → (d : ℕ) → cost u ≡ some d → Reaches move s u d)
      (λ holds_s d cost_s. subst (Reaches move s s) (some_same first cost_s) ([], run_nil move s))
      (λ v u name reach holds_v d cost_v.
      let led = named v d holds_v (λ same. none_some start (subst (λ (w : ℕ). before w ≡ some u) same name)) cost_v in
      let same_node_lem : u ≡ led.node = some_same name led.names in
      let (xs, there) = subst (λ (w : ℕ). (P w → (d : ℕ) → cost w ≡ some d → Reaches move s w d)) same_node_lem reach led.holds led.node_cost led.reached in
      subst (Reaches move s v) (sym led.exact) (xs ++ (led.command ∷ []), run_on move s led.command xs there led.moves))
      k n way holds c has

  -- so the costs are the least
  pub least_reaches : P s → ((n c x : ℕ) (a : Arrival) → P n → cost n ≡ some c → move n x ≡ some a → P a.node × Bounded cost c a)
      → ((n c : ℕ) → P n → cost n ≡ some c → (k : ℕ) × (iterate before k n ≡ some s))
      → (n : ℕ) → P n → Least (Reaches move s n) (cost n)
  least_reaches holds_s relaxed chain n holds = go (cost n) refl
    where
      go : (o : Option ℕ) → cost n ≡ o → Least (Reaches move s n) o
      go none e = λ c (xs, way). none_some e (bounded_run move cost P relaxed s 0 xs holds_s first way).1
      go (some c) e = (
        let (k, way) = chain n c holds e in named_reaches k n c holds e way,
        λ d (xs, way). let (b, has, le) = bounded_run move cost P relaxed s 0 xs holds_s first way in omega (arith, some_same e has),
      )
