-- Nothing is cheaper than what the search finds: where its distances account for every move of the search, no list that moves the station
-- costs less than the distance. Assumes nothing.
use mathlib.Core.Path.{◌≡◌}
use mathlib.Core.Logic.{⊎_elim}
use mathlib.Core.Bool.{Bool, true, false}
use mathlib.Core.Option.{Option, none, some}
use mathlib.Core.List.{List}
use Prim.Native.Nat.{ℕ, ◌+◌, ◌≤◌}
use native.Mathlib.Omega.{arith}
use Rattle.definitions.specs.Tree.{Tree, Sound}
use Rattle.definitions.specs.Step.{found, climb, Moves}
use Rattle.definitions.specs.Sheet.{Rows}
use Rattle.definitions.specs.Truth.{node_exit}
use Rattle.definitions.proofs.Options.{none_some, decided, true_false}
use Rattle.definitions.proofs.Path.{parent_below, climb_found}
use Rattle.definitions.proofs.Local.{LocalRows}
use Rattle.definitions.proofs.Potential.{Shut, Lands, Frame, Potential, base, deeper, raised_run}
use Rattle.definitions.proofs.Simple.{inside_root}
use Rattle.plantheory.specs.Search.{plan_move, Accounted}
use Rattle.plantheory.proofs.Landing.{Opening, land_landed, land_there, parts_plan, opened_found}

module _ {t : Tree} (s : Sound t) (r : Rows) (local : LocalRows t r) (fresh : (m : ℕ) → r.stale m ≡ false) (opened : ℕ → Bool)
    (opening : Opening t opened) (distance : ℕ → Option ℕ) (accounted : Accounted (plan_move t r opened) distance) where
  -- below a machine that is not opened none is
  shut_below : (n m b : ℕ) → t.owner n ≡ some m → opened m ≡ false → t.below n ≡ some b → opened b ≡ false
  shut_below n m b own_n shut bel =
      ⊎_elim (λ yes_open. absurd (true_false (opening.upward b m (parent_below s own_n bel) yes_open) shut)) (λ e. e) (decided (opened b))

  -- what a command finds from a position is accounted for, where its target lands
  plan_moves : (q m d x u v c e : ℕ) → t.owner q ≡ some m → opened m ≡ true → Shut t opened q → distance q ≡ some d
      → climb t t.root q x ≡ found u v c → node_exit t r q x ≡ some e
      → (w : ℕ) × (p : ℕ) × (d' : ℕ) × Lands t opened v w × (t.owner w ≡ some p) × (opened p ≡ true) × (distance w ≡ some d') × (d' ≤ d + e + c)
  plan_moves q m d x u v c e own_q op shut dist up exit =
      let (p, own_v, op_v) = opened_found s opening x own_q op up in
      let (w, lands) = land_there s opened own_v in
      let landed = land_landed s opened own_v op_v lands in
      let range = (climb_found s t.root q x up).range in
      let (d', dist_w, le) = accounted q d x _ dist range (parts_plan t r opened q x exit up lands) in
      (w, landed.position.machine, d', landed.lands, landed.position.owned, landed.position.machine_opened, dist_w, omega arith)

  -- the machines that the search opens, and the rows of the others
  plan_frame : Frame t r t.root opened distance
  plan_frame =
      record {
        sound = s;
        top_opened = opening.root_opened;
        inside = λ n m own_n op. inside_root s own_n;
        shut_below = λ n m b i own_n shut bel. shut_below n m b own_n shut bel;
        relaxed = local.relaxed;
        filled_below = λ m p up full. fresh m;
        filled = λ n m b own_n op bel shut. fresh b;
        moves = plan_moves;
      }

  -- in an opened machine the potential of a node is its distance
  position_potential : {n m q : ℕ} → t.owner n ≡ some m → opened m ≡ true → Potential t r opened distance n q → distance n ≡ some q
  position_potential own_n op (base o op' shut dist) = dist
  position_potential {m = m} own_n op (deeper {m = p} o shut full hold cost pot) =
      let same : m ≡ p = cc in
      absurd (true_false op (rw same shut))

  -- a list from a state of an opened machine to another: the distance is there, and the list costs at least as much
  pub none_cheaper : {a b m p : ℕ} → t.owner a ≡ some m → opened m ≡ true → t.below a ≡ none → t.owner b ≡ some p → opened p ≡ true
      → distance a ≡ some 0 → (xs : List ℕ) (c : ℕ) → Moves t a b xs c → (d : ℕ) × (distance b ≡ some d) × (d ≤ c)
  none_cheaper {a} own_a op_a plain_a own_b op_b dist xs c moves =
      let first : Potential t r opened distance a 0 = base own_a op_a (λ b bel. absurd (none_some plain_a bel)) dist in
      let (q, pot, plain_b, le) = raised_run t r t.root opened distance plan_frame first plain_a xs _ moves in
      (q, position_potential own_b op_b pot, omega arith)
