-- Where no node that waits is nearer than the goal, the words are what the search promises. Assumes nothing.
use mathlib.Core.Path.{◌≡◌, sym, ◌∙◌, ap, subst}
use mathlib.Core.Logic.{⊎_elim}
use mathlib.Core.Option.{Option, some}
use mathlib.Core.List.{List}
use Prim.Native.Nat.{ℕ, zero, suc, ◌+◌, ◌*◌, ◌-◌, ◌≤◌, ◌<◌}
use native.Mathlib.Omega.{arith}
use lib.Dec.{eqb}
use borrow.Author.Tests.{eq-eqb}
use Rattle.definitions.specs.Basics.{iterate}
use Rattle.definitions.specs.Limits.{nodes, absent}
use Rattle.definitions.specs.Step.{Arrival}
use Rattle.definitions.proofs.Options.{equal_or_not}
use Rattle.search.specs.Search.{largest_move, unreached, distance_of, name_of, NamedMove, Nearer, Certificate}
use Rattle.search.specs.Parts.{at, Labels, labels}
use Rattle.search.proofs.Reading.{distance_is, distance_some, distance_none, name_is, name_none}
use Rattle.search.proofs.Counting.{count_some}
use Rattle.search.proofs.Settling.{waiting, Moves, Label, by_move, blank, Settling}

-- the goal is reached, and node v is no nearer
pub record AtGoal (k goal : ℕ) (dist : ℕ → ℕ) (v : ℕ) : Type 0 where
  pub inside : goal < k
  pub reached : dist goal < unreached
  pub nearer : dist goal ≤ dist v

module _ {k s goal : ℕ} {move : ℕ → ℕ → Option Arrival} {first : Labels} {rank : ℕ → ℕ} {n : ℕ} (dist before by : List ℕ)
    (small : k ≤ nodes) (in_s : s < k) (moves : Moves k move) (inv : Settling k s move first (labels dist before by) rank n)
    (over : (v : ℕ) → v < k → rank v ≡ waiting → at dist v < unreached → AtGoal k goal (at dist) v) where
  few : n ≤ k
  few = omega (arith, inv.count)

  -- a named node costs less than the word for unreached
  named_near : (v : ℕ) → v < k → (v ≡ s → ⊥) → {u x w : ℕ} → u < k → rank u < n → move u x ≡ some (record { node = v; cost = w })
      → at dist v ≡ at dist u + w → at dist v < unreached
  named_near v h other {u} {x} {w} in_u done step d = omega (arith, few, inv.cheap u in_u done, moves.cheap u x _ step)

  -- while a node waits, fewer than k are settled
  fewer : (v : ℕ) → v < k → rank v ≡ waiting → n < k
  fewer v h waits = omega (arith, inv.count, count_some k (λ w. eqb (rank w) waiting) v h (eq-eqb (rank v) waiting waits))

  -- a node that is reached is no dearer than the longest way without a repeat
  near : (v : ℕ) → v < k → (at dist v ≡ unreached → ⊥) → at dist v ≤ (k - 1) * largest_move
  near v h there =
      ⊎_elim (λ waits. ⊎_elim (λ (e : v ≡ s). omega (arith, ap (at dist) e, inv.start_dist)) (λ e. go waits (inv.others v h e)) (equal_or_not v s))
      (λ done. omega (arith, few, inv.cheap v h done)) (inv.ranks v h)
    where
      go : rank v ≡ waiting → Label k move (labels dist before by) rank n v → at dist v ≤ (k - 1) * largest_move
      go waits (by_move u x w b y in_u done less step d) =
          omega (arith, fewer v h waits, inv.cheap u in_u done, moves.cheap u x _ step)
      go waits (blank d b y) = absurd (there d)

  -- a node that is nearer than the goal is settled
  settled : (v : ℕ) → v < k → (at dist v ≡ unreached → ⊥) → Nearer (distance_of k dist) goal (at dist v) → rank v < n
  settled v h there nearer =
      ⊎_elim
      (λ waits.
      let at_goal = over v h waits (omega (arith, near v h there, small)) in
      let reach = distance_is k dist goal at_goal.inside (λ e. omega (arith, at_goal.reached)) in
      absurd (omega (arith, nearer (at dist goal) reach, at_goal.nearer)))
      (λ done. done) (inv.ranks v h)

  -- a reached node but the source has its names
  is_named : (v : ℕ) → v < k → (v ≡ s → ⊥) → (at dist v ≡ unreached → ⊥)
      → NamedMove k move (distance_of k dist) (name_of k before) (name_of k by) v (at dist v)
  is_named v h other there = go (inv.others v h other)
    where
      go : Label k move (labels dist before by) rank n v → NamedMove k move (distance_of k dist) (name_of k before) (name_of k by) v (at dist v)
      go (by_move u x w b y in_u done less step d) =
          record {
            node = u;
            command = x;
            node_cost = at dist u;
            step_cost = w;
            names_node = name_is k before v h (λ e. omega arith) ∙ ap some b;
            names_command = name_is k by v h (λ e. omega (arith, moves.range u x _ step)) ∙ ap some y;
            node_range = in_u;
            command_range = moves.range u x _ step;
            reached = distance_is k dist u in_u (λ e. omega (arith, few, inv.cheap u in_u done));
            moves = step;
            exact = d;
          }
      go (blank d b y) = absurd (there d)

  -- a node that is not reached has no names
  unnamed : (v : ℕ) → v < k → at dist v ≡ unreached → (at before v ≡ absent) × (at by v ≡ absent)
  unnamed v h far =
      let other : v ≡ s → ⊥ = λ e. omega (arith, ap (at dist) e, inv.start_dist) in
      go other (inv.others v h other)
    where
      go : (v ≡ s → ⊥) → Label k move (labels dist before by) rank n v → (at before v ≡ absent) × (at by v ≡ absent)
      go other (by_move u x w b y in_u done less step d) = absurd (omega (arith, named_near v h other in_u done step d))
      go other (blank d b y) = (b, y)

  -- the names lead to the source, by smaller ranks
  Leads : ℕ → ℕ → Type 0
  Leads m v = (j : ℕ) × (j ≤ m) × (iterate (name_of k before) j v ≡ some s)

  -- one name more
  leads_on : (m v : ℕ) → v < k → (at dist v ≡ unreached → ⊥)
      → ((u : ℕ) → u < k → (at dist u ≡ unreached → ⊥) → rank u < n → rank u < rank v
      → (j : ℕ) × (j < m) × (iterate (name_of k before) j u ≡ some s))
      → Leads m v
  unfolding iterate Leads
  leads_on m v h there smaller =
      ⊎_elim (λ (e : v ≡ s). (0, omega arith, ap some e)) (λ e. go (inv.others v h e)) (equal_or_not v s)
    where
      go : Label k move (labels dist before by) rank n v → Leads m v
      go (by_move u x w b y in_u done less step d) =
          let (j, le, way) = smaller u in_u (λ far. omega (arith, few, inv.cheap u in_u done)) done less in
          let name : name_of k before v ≡ some u = name_is k before v h (λ e. omega arith) ∙ ap some b in
          (suc j, omega arith, rw name way)
      go (blank d b y) = absurd (there d)

  leads : (m v : ℕ) → v < k → (at dist v ≡ unreached → ⊥) → rank v ≤ m → Leads m v
  unfolding Leads
  leads zero v h there le = leads_on zero v h there (λ u hu tu done less. absurd (omega arith))
  leads (suc m) v h there le =
      leads_on (suc m) v h there (λ u hu tu done less. let (j, small_j, way) = leads m u hu tu (omega arith) in (j, omega arith, way))

  -- in fewer than k steps, whether the node is settled or waits
  leads_short : (v : ℕ) → v < k → (at dist v ≡ unreached → ⊥) → (j : ℕ) × (j < k) × (iterate (name_of k before) j v ≡ some s)
  unfolding Leads
  leads_short v h there =
      ⊎_elim
      (λ waits.
      let (j, le, way) =
      leads_on n v h there (λ u hu tu done less. let (i, small_i, way) = leads (rank u) u hu tu (omega arith) in (i, omega arith, way)) in
      (j, omega (arith, fewer v h waits), way))
      (λ done. let (j, le, way) = leads (rank v) v h there (omega arith) in (j, omega (arith, few), way)) (inv.ranks v h)

  -- so the lists hold what the search promises
  pub ended : Certificate k s goal move (distance_of k dist) (name_of k before) (name_of k by)
  unfolding Leads
  ended =
      record {
        start_distance = distance_is k dist s in_s (λ e. omega (arith, inv.start_dist)) ∙ ap some inv.start_dist;
        start_before = name_none k before s (λ h. inv.start_before);
        start_by = name_none k by s (λ h. inv.start_by);
        inside = λ v c e. (distance_some k dist v e).0;
        relaxed =
            λ u c x b e nearer step.
            let (h, same, there) = distance_some k dist u e in
            let le = inv.relaxed u x b (settled u h there (subst (Nearer (distance_of k dist) goal) (sym same) nearer)) step in
            let in_b = moves.inside u x b step in
            let close = near u h there in
            (at dist b.node, distance_is k dist b.node in_b (λ far. omega (arith, moves.cheap u x b step)), omega arith);
        named =
            λ v c other e.
            let (h, same, there) = distance_some k dist v e in
            subst (NamedMove k move (distance_of k dist) (name_of k before) (name_of k by) v) same (is_named v h other there);
        chain =
            λ v c e.
            let (h, same, there) = distance_some k dist v e in
            leads_short v h there;
        unreached =
            λ v e.
            let blanks : v < k → (at before v ≡ absent) × (at by v ≡ absent) = λ h. unnamed v h (distance_none k dist v h e) in
            (name_none k before v (λ h. (blanks h).0), name_none k by v (λ h. (blanks h).1));
        bound =
            λ v c e.
            let (h, same, there) = distance_some k dist v e in
            omega (arith, near v h there);
      }
