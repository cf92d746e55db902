-- The machines that the search opens, where it lands in them, and its moves. The set of opened machines is any that has the root and is
-- closed upward; those above two states are such a set. Assumes nothing.
use mathlib.Core.Path.{◌≡◌, refl, sym, ◌∙◌, ap, subst}
use mathlib.Core.Bool.{Bool, true, false, cond, ◌||◌, or-true}
use mathlib.Core.Option.{Option, none, some}
use Prim.Native.Nat.{ℕ, zero, suc, ◌+◌, ◌≤◌, ◌<◌}
use native.Mathlib.Omega.{arith}
use Rattle.definitions.specs.Basics.{◌>>=◌, option}
use Rattle.definitions.specs.Limits.{commands, levels}
use Rattle.definitions.specs.Tree.{Tree, Sound, parent, over}
use Rattle.definitions.specs.Step.{Climb, found, passed, climb, Arrival}
use Rattle.definitions.specs.Sheet.{Rows}
use Rattle.definitions.specs.Truth.{node_exit}
use Rattle.definitions.proofs.Options.{iterate_more, bind_some, none_some, some_same}
use Rattle.definitions.proofs.Path.{Deep, deep, deep_small, deep_below, parent_below, Enters, plain, down}
use Rattle.definitions.proofs.Path.{counting_owned, past_found, passed_found, climb_found}
use Rattle.definitions.proofs.Inside.{Climbs, finds, ends, leaves, climbs}
use Rattle.definitions.proofs.Potential.{Shut, Lands, here, into}
use Rattle.definitions.proofs.Simple.{over_own, inside_root, inside_over}
use Rattle.definitions.proofs.Commands.{over_climbs, climbs_over}
use Rattle.plantheory.specs.Search.{opened_for, land_f, land, arrives, plan_move}

-- ---- the opened machines

-- the root is opened, and so is the machine just above an opened one
pub record Opening (t : Tree) (opened : ℕ → Bool) : Type 0 where
  pub root_opened : opened t.root ≡ true
  pub upward : (m p : ℕ) → parent t m ≡ some p → opened m ≡ true → opened p ≡ true

-- the machine just above one that is over a node is over it
over_parent : {t : Tree} → Sound t → (m p : ℕ) {n o : ℕ} → t.owner n ≡ some o → parent t m ≡ some p → over t m n ≡ true → over t p n ≡ true
over_parent {t} s m p {n} {o} own_n up e =
    let (j, climb) = over_climbs s m own_n e in
    climbs_over s p own_n (suc j) (iterate_more (parent t) j o climb up)

-- one of two tests holds, whichever it was
either_on : (a b : Bool) {c d : Bool} → (a ≡ true → c ≡ true) → (b ≡ true → d ≡ true) → (a || b) ≡ true → (c || d) ≡ true
either_on true b f g e = rw (f refl)
either_on false b {c} f g e = rw (g e) (or-true c)

-- the machines above two nodes in use are such a set
pub opening_for : {t : Tree} → Sound t → {a b m p : ℕ} → t.owner a ≡ some m → t.owner b ≡ some p → Opening t (opened_for t a b)
unfolding opened_for
opening_for {t} s {a} {b} own_a own_b =
    record {
      root_opened = rw (inside_over s (inside_root s own_a));
      upward = λ m p up. either_on (over t m a) (over t m b) (over_parent s m p own_a up) (over_parent s m p own_b up);
    }

-- the machines of the two nodes are opened
pub opened_first : (t : Tree) {a m : ℕ} (b : ℕ) → t.owner a ≡ some m → opened_for t a b m ≡ true
unfolding opened_for
opened_first t b own_a = rw (over_own t own_a)

pub opened_second : (t : Tree) (a : ℕ) {b m : ℕ} → t.owner b ≡ some m → opened_for t a b m ≡ true
unfolding opened_for
opened_second t a {b} {m} own_b = rw (over_own t own_b) (or-true (over t m a))

-- ---- positions, and where the search lands

-- n is a node of an opened machine and holds no opened machine
pub record Position (t : Tree) (opened : ℕ → Bool) (n : ℕ) : Type 0 where
  pub machine : ℕ
  pub owned : t.owner n ≡ some machine
  pub machine_opened : opened machine ≡ true
  pub shut : Shut t opened n

-- a plain node of an opened machine is a position
pub plain_position : {t : Tree} {opened : ℕ → Bool} {n m : ℕ} → t.owner n ≡ some m → opened m ≡ true → t.below n ≡ none
    → Position t opened n
plain_position {m = m} own_n op bel =
    record { machine = m; owned = own_n; machine_opened = op; shut = λ b held. absurd (none_some bel held) }

-- node v lands at position w, and is entered where w is
pub record Landed (t : Tree) (opened : ℕ → Bool) (v w : ℕ) : Type 0 where
  pub lands : Lands t opened v w
  pub position : Position t opened w
  pub enters : (e : ℕ) → Enters t v e → Enters t w e

-- a refined node is entered where the start node below it is
enters_down : {t : Tree} {v b f e : ℕ} → t.below v ≡ some b → t.start b ≡ some f → Enters t v e → Enters t f e
enters_down bel st (plain none_below) = absurd (none_some none_below bel)
enters_down {t} {f = f} {e = e} bel st (down {b = c} {f = g} bel' st' en) =
    let same : g ≡ f = cc in
    subst (λ (n : ℕ). Enters t n e) same en

module _ {t : Tree} (s : Sound t) (opened : ℕ → Bool) where
  -- a node of an opened machine that holds no opened one lands where it is
  landed_here : {v m : ℕ} → t.owner v ≡ some m → opened m ≡ true → Shut t opened v → Landed t opened v v
  landed_here {v} {m} own_v op shut =
      record { lands = here shut; position = record { machine = m; owned = own_v; machine_opened = op; shut = shut }; enters = λ e en. en }

  -- one that holds an opened machine lands where the start node of this machine does
  landed_into : {v b f w : ℕ} → t.below v ≡ some b → opened b ≡ true → t.start b ≡ some f → Landed t opened f w → Landed t opened v w
  landed_into bel op st l =
      record {
        lands = into bel op st l.lands;
        position = l.position;
        enters = λ e en. l.enters e (enters_down bel st en);
      }

  land_f_landed : (k : ℕ) {v m w : ℕ} → t.owner v ≡ some m → opened m ≡ true → land_f k t opened v ≡ some w → Landed t opened v w
  unfolding land_f
  land_f_landed zero {w = w} own_v op e = absurd (none_some {a = w} refl e)
  land_f_landed (suc k) {v} {m} {w} own_v op e = on_below (t.below v) refl e (λ b f st. land_f_landed k (s.start_owned b f st))
    where
      on_opened : (b : ℕ) → t.below v ≡ some b → (c : Bool) → opened b ≡ c → cond c (t.start b >>= land_f k t opened) (some v) ≡ some w
          → ((f : ℕ) → t.start b ≡ some f → opened b ≡ true → land_f k t opened f ≡ some w → Landed t opened f w) → Landed t opened v w
      on_opened b bel true op_b e' lower =
          let (f, st, rest) = bind_some (t.start b) (land_f k t opened) e' in
          landed_into bel op_b st (lower f st op_b rest)
      on_opened b bel false op_b e' lower =
          subst (Landed t opened v) (some_same refl e')
          (landed_here own_v op (λ c held. subst (λ (n : ℕ). opened n ≡ false) (some_same bel held) op_b))

      on_below : (o : Option ℕ) → t.below v ≡ o
          → option (some v) (λ b. cond (opened b) (t.start b >>= land_f k t opened) (some v)) o ≡ some w
          → ((b f : ℕ) → t.start b ≡ some f → opened b ≡ true → land_f k t opened f ≡ some w → Landed t opened f w) → Landed t opened v w
      on_below none bel e' lower = subst (Landed t opened v) (some_same refl e') (landed_here own_v op (λ c held. absurd (none_some bel held)))
      on_below (some b) bel e' lower = on_opened b bel (opened b) refl e' (lower b)

  -- what a node of an opened machine lands at
  pub land_landed : {v m w : ℕ} → t.owner v ≡ some m → opened m ≡ true → land t opened v ≡ some w → Landed t opened v w
  unfolding land
  land_landed own_v op e = land_f_landed levels own_v op e

  -- fuel for the levels that are left is enough
  land_f_there : {v m k : ℕ} → t.owner v ≡ some m → Deep t m k → (i : ℕ) → levels ≤ k + i → (w : ℕ) × (land_f i t opened v ≡ some w)
  unfolding land_f
  land_f_there {v} {m} own_v d zero room = absurd (omega (arith, deep_small s (s.owner_used v m own_v).1 d))
  land_f_there {v} {m} {k} own_v d (suc i) room =
      on_below (t.below v) refl (λ b f bel st. land_f_there (s.start_owned b f st) (deep_below s own_v bel d) i (omega arith))
    where
      on_opened : (b : ℕ) → t.below v ≡ some b → (c : Bool) → opened b ≡ c
          → ((f : ℕ) → t.start b ≡ some f → (w : ℕ) × (land_f i t opened f ≡ some w))
          → (w : ℕ) × (cond c (t.start b >>= land_f i t opened) (some v) ≡ some w)
      on_opened b bel true op lower =
          let (f, st) = s.held_used b v (s.below_held v b bel) in
          let (w, e) = lower f st in
          (w, rw st e)
      on_opened b bel false op lower = (v, refl)

      on_below : (o : Option ℕ) → t.below v ≡ o
          → ((b f : ℕ) → t.below v ≡ some b → t.start b ≡ some f → (w : ℕ) × (land_f i t opened f ≡ some w))
          → (w : ℕ) × (option (some v) (λ b. cond (opened b) (t.start b >>= land_f i t opened) (some v)) o ≡ some w)
      on_below none bel lower = (v, refl)
      on_below (some b) bel lower = on_opened b bel (opened b) refl (λ f st. lower b f bel st)

  -- every node in use lands somewhere
  pub land_there : {v m : ℕ} → t.owner v ≡ some m → (w : ℕ) × (land t opened v ≡ some w)
  unfolding land
  land_there {v} {m} own_v =
      let (f, used) = s.owner_used v m own_v in
      let (k, small, way) = deep s used in
      land_f_there own_v way levels (omega arith)

-- ---- the moves of the search

-- the parts of a move: q is left at its exit cost, x finds a transition from q, and its target lands
pub record PlanParts (t : Tree) (r : Rows) (opened : ℕ → Bool) (q x : ℕ) (b : Arrival) : Type 0 where
  pub exit_cost : ℕ
  pub node : ℕ
  pub target : ℕ
  pub cost : ℕ
  pub exit : node_exit t r q x ≡ some exit_cost
  pub finds : climb t t.root q x ≡ found node target cost
  pub lands : land t opened target ≡ some b.node
  pub exact : exit_cost + cost ≡ b.cost

module _ (t : Tree) (r : Rows) (opened : ℕ → Bool) (q x : ℕ) where
  pub plan_parts : {b : Arrival} → plan_move t r opened q x ≡ some b → PlanParts t r opened q x b
  unfolding plan_move
  plan_parts {b} e =
      let (c, exit, rest) = bind_some (node_exit t r q x) (λ c. arrives t opened c (climb t t.root q x)) e in
      go c exit (climb t t.root q x) refl rest
    where
      go : (c : ℕ) → node_exit t r q x ≡ some c → (k : Climb) → climb t t.root q x ≡ k → arrives t opened c k ≡ some b
          → PlanParts t r opened q x b
      go c exit (passed l) up f = absurd (none_some {a = b} refl f)
      go c exit (found u v d) up f =
          let (w, lands, same) = bind_some (land t opened v) (λ w. some (record { node = w; cost = c + d })) f in
          let at : record { node = w; cost = c + d } ≡ b = some_same refl same in
          record {
            exit_cost = c;
            node = u;
            target = v;
            cost = d;
            exit = exit;
            finds = up;
            lands = lands ∙ ap (λ (z : Arrival). some z.node) at;
            exact = ap (λ (z : Arrival). z.cost) at;
          }

  pub parts_plan : {e u v c w : ℕ} → node_exit t r q x ≡ some e → climb t t.root q x ≡ found u v c → land t opened v ≡ some w
      → plan_move t r opened q x ≡ some (record { node = w; cost = e + c })
  unfolding plan_move
  parts_plan exit up lands = rw (exit, up, lands)

-- what is found from a node of an opened machine leads to a node of an opened machine
found_opened : {t : Tree} → Sound t → {opened : ℕ → Bool} → Opening t opened → {top x n m : ℕ} {k : Climb} → Climbs t top x n k
    → t.owner n ≡ some m → opened m ≡ true → {u v c : ℕ} → k ≡ found u v c → (p : ℕ) × (t.owner v ≡ some p) × (opened p ≡ true)
found_opened {t} s op {x = x} {m = m} (finds {n = n} a has at) own_n yes_open {v = v} e =
    let target : a.target ≡ v = cc in
    (m, subst (λ (w : ℕ). t.owner w ≡ some m) target (counting_owned s n x a has own_n), yes_open)
found_opened s op (ends o has at) own_n yes_open e = absurd (passed_found at e)
found_opened {t} s op {m = m} (leaves {m = p} {h = h} {up = k} o other hold has at up) own_n yes_open e =
    let same : m ≡ p = cc in
    let (g, own_h) = s.holder_used p h hold in
    let (d, upper, sum) = past_found _ k (sym at ∙ e) in
    let above_m : parent t m ≡ some g =
    subst (λ (i : ℕ). parent t i ≡ some g) (sym same) (parent_below s own_h (s.held_below p h hold)) in
    found_opened s op up own_h (op.upward m g above_m yes_open) upper

-- a command from a node of an opened machine finds a target in an opened machine
pub opened_found : {t : Tree} → Sound t → {opened : ℕ → Bool} → Opening t opened → {q m : ℕ} (x : ℕ) {u v c : ℕ} → t.owner q ≡ some m
    → opened m ≡ true → climb t t.root q x ≡ found u v c → (p : ℕ) × (t.owner v ≡ some p) × (opened p ≡ true)
opened_found s op x own_q yes_open up = found_opened s op (climbs s x (inside_root s own_q)) own_q yes_open up

-- so a move from it arrives at a position, where its target lands
pub move_landed : {t : Tree} → Sound t → (r : Rows) {opened : ℕ → Bool} → Opening t opened → {q m x : ℕ} {b : Arrival} → t.owner q ≡ some m
    → opened m ≡ true → (parts : PlanParts t r opened q x b) → Landed t opened parts.target b.node
move_landed s r {opened} op {x = x} own_q yes_open parts =
    let (p, own_v, there) = opened_found s op x own_q yes_open parts.finds in
    land_landed s opened own_v there parts.lands

-- only commands move
pub plan_range : {t : Tree} → Sound t → (r : Rows) (opened : ℕ → Bool) (q x : ℕ) {b : Arrival} → plan_move t r opened q x ≡ some b → x < commands
plan_range {t} s r opened q x e = (climb_found s t.root q x (plan_parts t r opened q x e).finds).range
