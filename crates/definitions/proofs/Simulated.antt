-- Of two trees that are alike but for what is below one node, and are left at the same costs, one follows the other: while the first is inside the
-- node the second waits where the node is entered, and leaves by a cheapest exit of its own when the first does. Assumes nothing.
use mathlib.Core.Path.{◌≡◌, refl, sym, ◌∙◌, ap, subst}
use mathlib.Core.Logic.{⊎_elim}
use mathlib.Core.Option.{Option, none, some}
use mathlib.Core.List.{[], List, ◌∷◌, ◌++◌}
use Prim.Native.Nat.{ℕ, ◌+◌, ◌≤◌, ◌<◌}
use native.Mathlib.Omega.{arith}
use Rattle.definitions.specs.Limits.{commands}
use Rattle.definitions.specs.Tree.{Tree, Sound}
use Rattle.definitions.specs.Step.{enter, start_state, Climb, found, passed, past, climb, Arrival, follow, step_in, run_in}
use Rattle.definitions.specs.Costs.{exit_by, ExitCost}
use Rattle.definitions.proofs.Options.{none_some, some_same}
use Rattle.definitions.proofs.Path.{deep, enters, enters_enter, enter_enters, enter_down, Inside, own, climb_found, past_found}
use Rattle.definitions.proofs.Runs.{onto, run_first, run_cons, run_nil, run_join}
use Rattle.definitions.proofs.Inside.{inside_apart, climb_wider, beyond}
use Rattle.definitions.proofs.Realize.{run_wider}
use Rattle.definitions.proofs.Exits.{exit_parts, parts_exit}
use Rattle.definitions.proofs.Simple.{inside_root, start_inside, run_states, step_stepped}
use Rattle.definitions.specs.Replaced.{AlikeBut, SameExits}
use Rattle.definitions.proofs.Decided.{exit_decided}
use Rattle.definitions.proofs.Pruned.{Out, out_owner, out_or_inside, out_found, out_inside, out_climb, enter_both}

-- a list of u's commands from r to e costs at most c
pub record Gets (u : Tree) (r e c : ℕ) : Type 0 where
  pub list : List ℕ
  pub at : Arrival
  pub runs : run_in u u.root r list ≡ some at
  pub ends : at.node ≡ e
  pub small : at.cost ≤ c

-- with a step in front, with a list in front, at a higher price
gets_step : (u : Tree) {r e c : ℕ} (x : ℕ) {a : Arrival} → step_in u u.root r x ≡ some a → Gets u a.node e c → Gets u r e (a.cost + c)
gets_step u {r} x {a} step got =
    record {
      list = x ∷ got.list;
      at = onto a got.at;
      runs = run_cons (step_in u u.root) r x got.list step got.runs;
      ends = got.ends;
      small = omega (arith, got.small);
    }

gets_run : (u : Tree) {r e c : ℕ} (zs : List ℕ) {a : Arrival} → run_in u u.root r zs ≡ some a → Gets u a.node e c → Gets u r e (a.cost + c)
gets_run u {r} zs {a} first got =
    record {
      list = zs ++ got.list;
      at = onto a got.at;
      runs = run_join (step_in u u.root) r zs got.list first got.runs;
      ends = got.ends;
      small = omega (arith, got.small);
    }

gets_more : (u : Tree) {r e c d : ℕ} → c ≤ d → Gets u r e c → Gets u r e d
gets_more u less got = record { list = got.list; at = got.at; runs = got.runs; ends = got.ends; small = omega (arith, less, got.small) }

-- a step that finds a transition and enters its target
found_step : (u : Tree) (s x : ℕ) {w v c e : ℕ} → climb u u.root s x ≡ found w v c → enter u v ≡ some e → step_in u u.root s x ≡ some (record { node = e; cost = c })
unfolding step_in
found_step u s x up en = rw (up, en)

-- a refined node is in use, and not inside the machine below it
pub node_out : {t : Tree} → Sound t → {n m : ℕ} → t.below n ≡ some m → Out t n n
node_out {t} sound {n} {m} bel =
    let hold = sound.below_held n m bel in
    let (q, o) = sound.holder_used m n hold in
    let (f, used) = sound.owner_used n q o in
    let (k, small, way) = deep sound used in
    ⊎_elim (λ out. out) (λ inner. absurd (inside_apart sound hold (own o) inner o refl)) (out_or_inside sound bel o way)

-- it is entered where the machine below starts
pub node_entered : {t : Tree} → Sound t → {n m : ℕ} → t.below n ≡ some m → (e : ℕ) × (start_state t m ≡ some e) × (enter t n ≡ some e)
unfolding start_state
node_entered {t} sound {n} {m} bel =
    let hold = sound.below_held n m bel in
    let (q, o) = sound.holder_used m n hold in
    let (f, st) = sound.held_used m n hold in
    let first = sound.start_owned m f st in
    let (e, way) = enters sound first in
    let in_it = enters_enter sound way first in
    (e, rw st in_it, enter_down sound o bel st ∙ in_it)

module _ {t u : Tree} (sound : Sound t) (sound_too : Sound u) {n m k : ℕ} (but : AlikeBut t u n m k) (exits : SameExits t u m k) where
  -- where the machine below n starts in either
  first : ℕ
  first = (node_entered sound but.refined).0

  first_too : ℕ
  first_too = (node_entered sound_too but.refined_too).0

  starts : start_state t m ≡ some first
  unfolding first
  starts = (node_entered sound but.refined).1

  starts_too : start_state u k ≡ some first_too
  unfolding first_too
  starts_too = (node_entered sound_too but.refined_too).1

  entered : enter t n ≡ some first
  unfolding first
  entered = (node_entered sound but.refined).2

  entered_too : enter u n ≡ some first_too
  unfolding first_too
  entered_too = (node_entered sound_too but.refined_too).2

  -- t is at s, u at r, and t has paid w since u has waited there
  data Place : ℕ → ℕ → ℕ → Type 0 where
    out : {s : ℕ} → Out t n s → Place s s 0
    waits : {s w : ℕ} (zs : List ℕ) → run_in t m first zs ≡ some (record { node = s; cost = w }) → Place s first_too w

  -- a target is entered in both
  land : {v e : ℕ} → Out t n v → enter t v ≡ some e → (r : ℕ) × (enter u v ≡ some r) × Place e r 0
  land {v} {e} at en =
      let (p, o) = out_owner at in
      ⊎_elim
      (λ (f, one, two, there, other).
      let same : f ≡ e = some_same one en in
      (f, two, subst (λ (g : ℕ). Place g f 0) same (out there)))
      (λ (one, two).
      let same : first ≡ e = some_same (one ∙ entered) en in
      (first_too, two ∙ entered_too, subst (λ (g : ℕ). Place g first_too 0) same (waits [] (run_nil (step_in t m) first))))
      (enter_both sound sound_too n but.alike at (enter_enters sound o en))

  -- outside both do the same
  step_out : {s : ℕ} → Out t n s → (x : ℕ) {a : Arrival} → step_in t t.root s x ≡ some a → (e c : ℕ)
      → ((r w : ℕ) → Place a.node r w → Gets u r e (w + c)) → Gets u s e (a.cost + c)
  step_out {s} at x {a} step e c rest =
      let way = step_stepped t t.root s x step in
      let (r, en, place) = land (out_found sound at x way.finds) way.enters in
      let up = sym (out_climb sound sound_too n but.alike at x) ∙ way.finds in
      gets_more u (omega arith) (gets_step u x (found_step u s x up en) (rest r 0 place))

  -- who holds the machine below n, and where n stands
  held : t.holder m ≡ some n
  held = sound.below_held n m but.refined

  held_too : u.holder k ≡ some n
  held_too = sound_too.below_held n k but.refined_too

  rooted_node : Inside t t.root n
  rooted_node = inside_root sound (out_owner (node_out sound but.refined)).1

  rooted_too : Inside u u.root n
  rooted_too = inside_root sound_too (out_owner (node_out sound_too but.refined_too)).1

  -- a state that t comes to while u waits is inside the machine below n
  waits_inside : {s w : ℕ} (zs : List ℕ) → run_in t m first zs ≡ some (record { node = s; cost = w }) → Inside t m s
  waits_inside zs runs = (run_states sound (start_inside sound m starts) zs runs).1.inside

  -- a step that stays inside: u waits on
  stay : {s w p v d : ℕ} (zs : List ℕ) → run_in t m first zs ≡ some (record { node = s; cost = w }) → (x : ℕ) {a : Arrival} → step_in t t.root s x ≡ some a
      → climb t m s x ≡ found p v d → Place a.node first_too (w + (a.cost + 0))
  unfolding step_in
  stay {s} {w} zs runs x {a} step inner =
      let seen = climb_wider sound x held rooted_node (waits_inside zs runs) ∙ ap (beyond (t.leave m) (climb t t.root n x)) inner in
      let here : step_in t m s x ≡ some a = ap (follow t) (inner ∙ sym seen) ∙ step in
      waits (zs ++ x ∷ []) (run_join (step_in t m) first zs (x ∷ []) runs (run_cons (step_in t m) s x [] here (run_nil (step_in t m) a.node)))

  -- an exit of t is one of u that costs no more, leaving included
  exit_too : (x : ℕ) → x < commands → (zs : List ℕ) {c : ℕ} → exit_by t m x zs ≡ some c
      → (ys : List ℕ) × (d : ℕ) × (exit_by u k x ys ≡ some d) × (d + u.leave k ≤ c + t.leave m)
  exit_too x range zs {c} e = go (exit_decided sound m x starts) (exit_decided sound_too k x starts_too)
    where
      go : (o : Option ℕ) × ExitCost t m x o → (p : Option ℕ) × ExitCost u k x p
          → (ys : List ℕ) × (d : ℕ) × (exit_by u k x ys ≡ some d) × (d + u.leave k ≤ c + t.leave m)
      go (none, never) other = absurd (never c (zs, e))
      go (some b, least) (none, never) = absurd (none_some refl (sym (exits x range (some b) none least never)))
      go (some b, least) (some d, ((ys, f), cheap)) =
          let same : d + u.leave k ≡ b + t.leave m = some_same refl (sym (exits x range (some b) (some d) least ((ys, f), cheap))) in
          (ys, d, f, omega (arith, same, least.1 c (zs, e)))

  -- a step that leaves the machine below n: u leaves it too, for no more, and both go on alike
  leave : {s w l : ℕ} (zs : List ℕ) → run_in t m first zs ≡ some (record { node = s; cost = w }) → (x : ℕ) {a : Arrival} → step_in t t.root s x ≡ some a
      → climb t m s x ≡ passed l → (e c : ℕ) → ((r v : ℕ) → Place a.node r v → Gets u r e (v + c)) → Gets u first_too e (w + (a.cost + c))
  leave {s} {w} {l} zs runs x {a} step inner e c rest =
      let way = step_stepped t t.root s x step in
      let range = (climb_found sound t.root s x way.finds).range in
      let seen = climb_wider sound x held rooted_node (waits_inside zs runs) ∙ ap (beyond (t.leave m) (climb t t.root n x)) inner in
      let (b, above, sum) = past_found (l + t.leave m) (climb t t.root n x) (sym seen ∙ way.finds) in
      let node = node_out sound but.refined in
      let above_too = sym (out_climb sound sound_too n but.alike node x) ∙ above in
      let left = parts_exit t m x zs (record { state = first; at = record { node = s; cost = w }; left = l; begins = starts; runs = runs; climbs = inner; exact = refl }) in
      let (ys, d, exit, cheap) = exit_too x range zs left in
      let parts = exit_parts u k x ys exit in
      let begins : parts.state ≡ first_too = some_same parts.begins starts_too in
      let inside_too = subst (λ (g : ℕ). run_in u k g ys ≡ some parts.at) begins parts.runs in
      let wide = run_wider sound_too ys held_too rooted_too (start_inside sound_too k starts_too).inside inside_too in
      let seen_too = climb_wider sound_too x held_too rooted_too wide.stays ∙ ap (beyond (u.leave k) (climb u u.root n x)) parts.climbs in
      let up = seen_too ∙ ap (past (parts.left + u.leave k)) above_too in
      let (r, en, place) = land (out_found sound node x above) way.enters in
      gets_more u (omega (arith, cheap, parts.exact, sum))
      (gets_run u ys wide.same (gets_step u x (found_step u parts.at.node x up en) (rest r 0 place)))

  -- one step of t
  sim_step : {s r w : ℕ} → Place s r w → (x : ℕ) {a : Arrival} → step_in t t.root s x ≡ some a → (e c : ℕ)
      → ((q v : ℕ) → Place a.node q v → Gets u q e (v + c)) → Gets u r e (w + (a.cost + c))
  sim_step (out at) x step e c rest = gets_more u (omega arith) (step_out at x step e c rest)
  sim_step {s} (waits {w = w} zs runs) x {a} step e c rest = go (climb t m s x) refl
    where
      go : (j : Climb) → climb t m s x ≡ j → Gets u first_too e (w + (a.cost + c))
      go (found p v d) inner = gets_more u (omega arith) (rest first_too (w + (a.cost + 0)) (stay zs runs x step inner))
      go (passed l) inner = leave zs runs x step inner e c rest

  -- a whole list of t, from outside or while u waits, to a state outside
  simulate : (xs : List ℕ) {s r w : ℕ} → Place s r w → {a : Arrival} → run_in t t.root s xs ≡ some a → Out t n a.node → Gets u r a.node (w + a.cost)
  simulate [] {s} (out at) {a} runs there =
      let same : record { node = s; cost = 0 } ≡ a = some_same (run_nil (step_in t t.root) s) runs in
      record {
        list = [];
        at = record { node = s; cost = 0 };
        runs = run_nil (step_in u u.root) s;
        ends = ap (λ (b : Arrival). b.node) same;
        small = omega arith;
      }
  simulate [] {s} (waits zs runs) {a} nothing there =
      let same : record { node = s; cost = 0 } ≡ a = some_same (run_nil (step_in t t.root) s) nothing in
      let here : s ≡ a.node = ap (λ (b : Arrival). b.node) same in
      absurd (out_inside sound but.refined (subst (Out t n) (sym here) there) (waits_inside zs runs))
  simulate (x ∷ xs) {s} {r} {w} place {a} runs there =
      let parts = run_first (step_in t t.root) s x xs runs in
      let node : parts.end.node ≡ a.node = ap (λ (b : Arrival). b.node) parts.joins in
      let cost : parts.mid.cost + parts.end.cost ≡ a.cost = ap (λ (b : Arrival). b.cost) parts.joins in
      let end = subst (Out t n) (sym node) there in
      let got = sim_step place x parts.step parts.end.node parts.end.cost (λ q v at. simulate xs at parts.rest end) in
      subst (λ (e : ℕ). Gets u r e (w + a.cost)) node (gets_more u (omega (arith, cost)) got)

  -- so from a state outside to another u gets there for no more
  pub follows : {s : ℕ} → Out t n s → (xs : List ℕ) {a : Arrival} → run_in t t.root s xs ≡ some a → Out t n a.node → Gets u s a.node a.cost
  follows at xs runs there = gets_more u (omega arith) (simulate xs (out at) runs there)
