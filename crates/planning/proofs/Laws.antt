-- What the search and the expansion make of a plan. Assumes nothing.
use mathlib.Core.Path.{◌≡◌, refl, ap₂, subst}
use mathlib.Core.Logic.{inl, inr}
use mathlib.Core.Bool.{Bool, true, false, cond}
use mathlib.Core.Option.{none, some}
use mathlib.Core.List.{[], List, ◌∷◌, ◌++◌}
use Prim.Native.Nat.{ℕ, ◌-◌, ◌≤◌, ◌<◌}
use native.Mathlib.Omega.{arith}
use lib.Dec.{eqb, ltb}
use lib.ListN.{length, drop, get_or}
use borrow.Author.Tests.{eq-eqb, ne_eqb, lt-ltb}
use Rattle.definitions.specs.Limits.{nodes, largest_plan_cost}
use Rattle.definitions.specs.Tree.{Tree, states}
use Rattle.definitions.specs.Book.{under, tree_of}
use Rattle.definitions.specs.Sheet.{rows_of}
use Rattle.definitions.specs.Answer.{gives, refuses}
use Rattle.definitions.specs.Calls.{Plan}
use Rattle.definitions.proofs.Simple.{state_test}
use Rattle.plantheory.specs.Search.{opened_for}
use Rattle.plantheory.proofs.Landing.{opening_for, opened_first, plain_position}
use Rattle.plantheory.proofs.Planned.{Planned, plan_good, plan_bounds}
use Rattle.search.specs.Search.{unreached, reached, distance_of, name_of}
use Rattle.crossing.specs.Crossing.{Crossed}
use Rattle.expanding.specs.Names.{Traceable}
use Rattle.expanding.specs.Expanding.{plan_of}
use Rattle.expanding.proofs.Traceable.{plan_traceable}
use Rattle.readiness.specs.Judged.{Ready}
use Rattle.planning.specs.Meaning.{Answers}

-- ---- the distance that a word says

distance_none : (dist : List ℕ) (b : ℕ) → get_or dist b 0 ≡ unreached → distance_of nodes dist b ≡ none
unfolding distance_of under reached
distance_none dist b at = go (ltb b nodes)
  where
    go : (c : Bool) → cond c (cond (eqb (get_or dist b 0) unreached) none (some (get_or dist b 0))) none ≡ none
    go true = rw (eq-eqb (get_or dist b 0) unreached at)
    go false = refl

distance_some : (dist : List ℕ) {b : ℕ} → b < nodes → (get_or dist b 0 ≡ unreached → ⊥) → distance_of nodes dist b ≡ some (get_or dist b 0)
unfolding distance_of under reached
distance_some dist {b} small there = rw (lt-ltb b nodes small, ne_eqb (get_or dist b 0) unreached there)

-- ---- the plan

module _ {book sheet : List ℕ} {a b : ℕ} (p : Ready book sheet a b) {dist before by : List ℕ}
    (crossed : Crossed (tree_of book) (rows_of sheet) a b dist before by) where
  abbrev t : Tree
  t = tree_of book

  abbrev list : List ℕ
  list = plan_of book sheet before by b

  -- what the search's distance of b says of a plan to b
  found : Planned t a b list (distance_of nodes dist b)
  found =
      plan_good p.formed.sound (rows_of sheet) p.true_sheet.rows p.fresh p.used_a.1 p.plain_a p.used_b.1 p.plain_b
      crossed.searched

  -- no distance: no way
  pub no_way : (buffer : List ℕ) → get_or dist b 0 ≡ unreached → Answers t a b buffer (refuses 16) buffer
  no_way buffer at = inl (subst (Planned t a b list) (distance_none dist b at) found, (refl, refl))

  module _ (there : get_or dist b 0 ≡ unreached → ⊥) where
    -- a distance is the cost of a plan
    pub the_plan : Plan t a b (get_or dist b 0) list
    the_plan = subst (Planned t a b list) (distance_some dist (p.formed.sound.node_range b p.used_b.0 p.used_b.1) there) found

    -- it costs no more than a plan may, and its commands have room
    bounds : (length list ≤ states t - 1) × (get_or dist b 0 ≤ largest_plan_cost)
    bounds = plan_bounds t p.formed.sound a b (get_or dist b 0) list (state_test t p.used_a.1 p.plain_a) the_plan

    pub cost_fits : get_or dist b 0 ≤ largest_plan_cost
    cost_fits = bounds.1

    pub list_fits : {room : ℕ} → states t - 1 ≤ room → length list ≤ room
    list_fits enough = omega (arith, bounds.0, enough)

    -- the names lead from b back to a
    pub names_lead : Traceable (name_of nodes before) (name_of nodes by) b
    names_lead =
        let s = p.formed.sound in
        plan_traceable s (rows_of sheet) p.true_sheet.rows p.fresh (opened_for t a b) (opening_for s p.used_a.1 p.used_b.1)
        (plain_position p.used_a.1 (opened_first t b p.used_a.1) p.plain_a) p.plain_a crossed.searched
        (distance_some dist (s.node_range b p.used_b.0 p.used_b.1) there)

    pub planned : {buffer buffer' : List ℕ} {cost count : ℕ} → cost ≡ get_or dist b 0 → count ≡ length list
        → buffer' ≡ list ++ drop (length list) buffer → Answers t a b buffer (gives (cost ∷ count ∷ [])) buffer'
    planned {cost = cost} {count = count} e f g =
        inr (
          (get_or dist b 0, the_plan.least),
          (get_or dist b 0, list, the_plan, ap₂ (λ (c n : ℕ). gives (c ∷ n ∷ [])) e f, g),
        )
