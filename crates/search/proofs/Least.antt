-- The certificate says the least cost over all lists of moves: that of the goal, and where the goal has no distance that of every node. Assumes
-- nothing.
use mathlib.Core.Path.{◌≡◌, refl, sym, subst}
use mathlib.Core.Logic.{◌⊎◌, ⊎_elim}
use mathlib.Core.Option.{Option, none, some}
use Prim.Native.Nat.{ℕ}
use native.Mathlib.Omega.{arith}
use Rattle.definitions.specs.Basics.{Least}
use Rattle.definitions.specs.Step.{Arrival}
use Rattle.definitions.proofs.Options.{none_some, some_same}
use Rattle.definitions.proofs.Runs.{bounded_run}
use Rattle.definitions.proofs.Reaching.{Reaches, Led, named_reaches, least_reaches}
use Rattle.search.specs.Search.{Certificate}
use Rattle.search.proofs.Cut.{cut, cut_at_lem, cut_start, cut_bounded}

module _ {k source goal : ℕ} {move : ℕ → ℕ → Option Arrival} {distance before by : ℕ → Option ℕ}
    (c : Certificate k source goal move distance before by) where
  -- the names of the certificate, as names that lead
  led : (v d : ℕ) → Unit {0} → (v ≡ source → ⊥) → distance v ≡ some d → Led move (λ v. Unit {0}) distance before v d
  led v d any other has =
      let name = c.named v d other has in
      record {
        node = name.node;
        command = name.command;
        node_cost = name.node_cost;
        step_cost = name.step_cost;
        names = name.names_node;
        holds = tt;
        reached = name.reached;
        moves = name.moves;
        exact = name.exact;
      }

  -- where the goal has no distance every node's is the least cost of a list of moves from the source to it; none where no list leads there
  least_all : distance goal ≡ none → (v : ℕ) → Least (Reaches move source v) (distance v)
  least_all far v =
      least_reaches move (λ v. Unit {0}) distance before c.start_distance c.start_before led tt
      (λ n d x a any has step. (tt, c.relaxed n d x a has (λ g e. absurd (none_some far e)) step))
      (λ n d any has. let (j, short, way) = c.chain n d has in (j, way)) v tt

  -- the distance of the goal is
  least_goal : (g : ℕ) → distance goal ≡ some g → Least (Reaches move source goal) (some g)
  least_goal g near = (
    let (j, short, way) = c.chain goal g near in
        named_reaches move (λ v. Unit {0}) distance before c.start_distance c.start_before led j goal g tt near way,
    λ d (xs, way).
        let (b, has, le) =
        bounded_run move (cut g distance) (λ v. Unit {0})
        (λ n e x a any value step.
        (tt, cut_bounded distance g a (λ d at less. c.relaxed n d x a at (λ h e. omega (arith, some_same near e)) step) value))
        source 0 xs tt (cut_start distance g c.start_distance) way in
        omega (arith, some_same (cut_at_lem distance g near) has),
  )

  pub least : (v : ℕ) → (v ≡ goal) ⊎ (distance goal ≡ none) → Least (Reaches move source v) (distance v)
  least v = ⊎_elim (λ same. subst (λ (w : ℕ). Least (Reaches move source w) (distance w)) (sym same) (go (distance goal) refl)) (λ far. least_all far v)
    where
      go : (o : Option ℕ) → distance goal ≡ o → Least (Reaches move source goal) (distance goal)
      go none e = least_all e goal
      go (some g) e = rw e (least_goal g e)
