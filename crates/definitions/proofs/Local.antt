-- The conditions on a sheet's rows that can be tested machine by machine, with no list of commands in them. `Attained` says that
-- what stands in a row can be had, `Relaxed` that nothing is cheaper. Assumes nothing.
use mathlib.Core.Path.{◌≡◌, refl, ap}
use mathlib.Core.Bool.{true, false}
use mathlib.Core.Option.{Option, none, some}
use Prim.Native.Nat.{ℕ, ◌+◌, ◌≤◌, ◌<◌}
use native.Mathlib.Nat.{add-zero}
use Rattle.definitions.specs.Basics.{◌>>=◌, iterate}
use Rattle.definitions.specs.Limits.{commands, longest_chain}
use Rattle.definitions.specs.Tree.{Tree, Transition, parent}
use Rattle.definitions.specs.Step.{counting, Arrival}
use Rattle.definitions.specs.Sheet.{Rows}
use Rattle.definitions.specs.Truth.{node_exit, move, BlankNode, BlankRule, Named, Ended}
use Rattle.definitions.proofs.Options.{bind_some, some_same}

-- every move from a reached node is accounted for, and so is every exit
pub record Relaxed (t : Tree) (r : Rows) (m s : ℕ) : Type 0 where
  pub start_cost : r.cost s ≡ some 0
  pub moves : (n c x : ℕ) (b : Arrival) → t.owner n ≡ some m → r.cost n ≡ some c → move t r n x ≡ some b
      → (d : ℕ) × (r.cost b.node ≡ some d) × (d ≤ c + b.cost)
  pub exits : (n c x e : ℕ) → t.owner n ≡ some m → r.cost n ≡ some c → x < commands → counting t n x ≡ none → node_exit t r n x ≡ some e
      → (d : ℕ) × (r.exit m x ≡ some d) × (d ≤ c + e)

-- every cost and every exit cost in the row has its names
pub record Attained (t : Tree) (r : Rows) (m s : ℕ) : Type 0 where
  pub start_cost : r.cost s ≡ some 0
  pub start_before : r.before s ≡ none
  pub start_by : r.by s ≡ none
  pub named : (n c : ℕ) → t.owner n ≡ some m → (n ≡ s → ⊥) → r.cost n ≡ some c → Named t r m n c
  pub chain : (n c : ℕ) → t.owner n ≡ some m → r.cost n ≡ some c → (k : ℕ) × (k ≤ longest_chain) × (iterate r.before k n ≡ some s)
  pub unreached : (n : ℕ) → t.owner n ≡ some m → r.cost n ≡ none → BlankNode r n
  pub ended : (x c : ℕ) → x < commands → r.exit m x ≡ some c → Ended t r m x c
  pub no_exit : (x : ℕ) → x < commands → r.exit m x ≡ none → r.last m x ≡ none

-- the rows are true machine by machine
pub record LocalRows (t : Tree) (r : Rows) : Type 0 where
  pub blanks : BlankRule t r
  pub stale_above : (m p : ℕ) → r.stale m ≡ true → parent t m ≡ some p → r.stale p ≡ true
  pub relaxed : (m s : ℕ) → t.start m ≡ some s → r.stale m ≡ false → Relaxed t r m s
  pub attained : (m s : ℕ) → t.start m ≡ some s → r.stale m ≡ false → Attained t r m s

-- ---- the laws of a node's exit cost and of a move

module _ (t : Tree) (r : Rows) (n x : ℕ) where
  -- a plain node is left at no cost
  pub exit_plain : t.below n ≡ none → node_exit t r n x ≡ some 0
  unfolding node_exit
  exit_plain b = rw b

  -- a refined node is left at the exit cost of the machine below it and what leaving this costs
  pub exit_refined : {b d : ℕ} → t.below n ≡ some b → r.exit b x ≡ some d → node_exit t r n x ≡ some (d + t.leave b)
  unfolding node_exit
  exit_refined b e = rw (b, e)

  -- where leaving this costs nothing, at its exit cost alone (document 02, W-207)
  pub exit_free : {b : ℕ} → t.below n ≡ some b → t.leave b ≡ 0 → node_exit t r n x ≡ r.exit b x
  unfolding node_exit
  exit_free {b} bel free = rw (bel, free) (alone (r.exit b x))
    where
      alone : (o : Option ℕ) → (o >>= λ e. some (e + 0)) ≡ o
      alone none = refl
      alone (some e) = ap some (add-zero e)

  pub refined_exit : {b c : ℕ} → t.below n ≡ some b → node_exit t r n x ≡ some c → (d : ℕ) × (r.exit b x ≡ some d) × (d + t.leave b ≡ c)
  unfolding node_exit
  refined_exit {b} {c} bel e =
      let (d, exit, same) = bind_some (r.exit b x) (λ d. some (d + t.leave b)) (rw bel at e) in
      (d, exit, some_same refl same)

  -- a move is a transition and an exit cost
  pub move_by : {a : Transition} {e : ℕ} → counting t n x ≡ some a → node_exit t r n x ≡ some e → move t r n x ≡ some (record { node = a.target; cost = e + a.cost })
  unfolding move
  move_by has exit = rw (has, exit)

  pub record MoveParts (b : Arrival) : Type 0 where
    pub transition : Transition
    pub exit_cost : ℕ
    pub has : counting t n x ≡ some transition
    pub exit : node_exit t r n x ≡ some exit_cost
    pub target : transition.target ≡ b.node
    pub exact : exit_cost + transition.cost ≡ b.cost

  pub move_parts : {b : Arrival} → move t r n x ≡ some b → MoveParts b
  unfolding move
  move_parts {b} e =
      let (a, has, rest) = bind_some (counting t n x) (λ a. node_exit t r n x >>= λ e. some (record { node = a.target; cost = e + a.cost })) e in
      let (c, exit, same) = bind_some (node_exit t r n x) (λ e. some (record { node = a.target; cost = e + a.cost })) rest in
      let at : record { node = a.target; cost = c + a.cost } ≡ b = some_same refl same in
      record { transition = a; exit_cost = c; has = has; exit = exit; target = ap (λ (z : Arrival). z.node) at; exact = ap (λ (z : Arrival). z.cost) at }
