-- Nothing is cheaper. Some machines are opened, closed upward up to machine top; their nodes have a distance. A state's potential is
-- the distance of the lowest node that holds it in an opened machine, plus the costs in their own machines of the nodes below that on
-- the way down. No command raises the potential by more than it costs. With one machine opened this bounds its exit costs; with the
-- machines above two states it bounds every list between them. Assumes nothing.
use mathlib.Core.Path.{◌≡◌, refl, subst}
use mathlib.Core.Bool.{Bool, true, false}
use mathlib.Core.Option.{Option, none, some}
use mathlib.Core.List.{[], List, ◌∷◌}
use Prim.Native.Nat.{ℕ, ◌+◌, ◌≤◌, ◌<◌}
use native.Mathlib.Omega.{arith}
use native.Mathlib.Nat.{zero-add}
use Rattle.definitions.specs.Limits.{commands}
use Rattle.definitions.specs.Tree.{Tree, Transition, Sound, parent}
use Rattle.definitions.specs.Step.{enter, counting, Climb, found, passed, past, climb, Arrival, follow, step_in, run_in}
use Rattle.definitions.specs.Sheet.{Rows}
use Rattle.definitions.specs.Truth.{node_exit}
use Rattle.definitions.proofs.Options.{bind_some, none_some, some_same, true_false}
use Rattle.definitions.proofs.Path.{Inside, deeper as deep_in, Enters, plain, down, enter_enters, enters_state, parent_below, counting_owned, climb_own, climb_on, climb_found}
use Rattle.definitions.proofs.Runs.{run_nil, run_first}
use Rattle.definitions.proofs.Local.{Relaxed, exit_plain, exit_refined, move_by}

-- no opened machine is below node n
abbrev pub Shut : Tree → (ℕ → Bool) → ℕ → Type 0
Shut t opened n = (b : ℕ) → t.below n ≡ some b → opened b ≡ false

-- from node v down through the start nodes of opened machines to node w, which holds no opened one
pub data Lands (t : Tree) (opened : ℕ → Bool) : ℕ → ℕ → Type 0 where
  here : {v : ℕ} → Shut t opened v → Lands t opened v v
  into : {v b f w : ℕ} → t.below v ≡ some b → opened b ≡ true → t.start b ≡ some f → Lands t opened f w → Lands t opened v w

-- what the opened machines and the rows of the others have to satisfy
pub record Frame (t : Tree) (r : Rows) (top : ℕ) (opened : ℕ → Bool) (distance : ℕ → Option ℕ) : Type 0 where
  pub sound : Sound t
  pub top_opened : opened top ≡ true
  -- the nodes of opened machines are inside top, and below a machine that is not opened none is
  pub inside : (n m : ℕ) → t.owner n ≡ some m → opened m ≡ true → Inside t top n
  pub shut_below : (n m b : ℕ) → Inside t top n → t.owner n ≡ some m → opened m ≡ false → t.below n ≡ some b → opened b ≡ false
  -- rows of machines that are filled are relaxed, and what is below a filled machine is filled
  pub relaxed : (m s : ℕ) → t.start m ≡ some s → r.stale m ≡ false → Relaxed t r m s
  pub filled_below : (m p : ℕ) → parent t m ≡ some p → r.stale p ≡ false → r.stale m ≡ false
  -- the machines just below opened ones, and not opened, are filled
  pub filled : (n m b : ℕ) → t.owner n ≡ some m → opened m ≡ true → t.below n ≡ some b → opened b ≡ false → r.stale b ≡ false
  -- every move between nodes of opened machines is accounted for
  pub moves : (q m d x u v c e : ℕ) → t.owner q ≡ some m → opened m ≡ true → Shut t opened q → distance q ≡ some d
      → climb t top q x ≡ found u v c → node_exit t r q x ≡ some e
      → (w : ℕ) × (p : ℕ) × (d' : ℕ) × Lands t opened v w × (t.owner w ≡ some p) × (opened p ≡ true) × (distance w ≡ some d') × (d' ≤ d + e + c)

-- node n has this potential
pub data Potential (t : Tree) (r : Rows) (opened : ℕ → Bool) (distance : ℕ → Option ℕ) : ℕ → ℕ → Type 0 where
  base : {n m d : ℕ} → t.owner n ≡ some m → opened m ≡ true → Shut t opened n → distance n ≡ some d → Potential t r opened distance n d
  deeper : {n m h c p : ℕ} → t.owner n ≡ some m → opened m ≡ false → r.stale m ≡ false → t.holder m ≡ some h → r.cost n ≡ some c
      → Potential t r opened distance h p → Potential t r opened distance n (c + p)

module _ (t : Tree) (r : Rows) (top : ℕ) (opened : ℕ → Bool) (distance : ℕ → Option ℕ) (frame : Frame t r top opened distance) where
  -- a machine that is not opened is not top
  not_top : {m : ℕ} → opened m ≡ false → m ≡ top → ⊥
  not_top shut same = true_false frame.top_opened (subst (λ (k : ℕ). opened k ≡ false) same shut)

  -- a node that has a potential is inside top
  potential_inside : {n p : ℕ} → Potential t r opened distance n p → Inside t top n
  potential_inside {n} (base {m = m} o op shut d) = frame.inside n m o op
  potential_inside (deeper o shut full hold c pot) = deep_in o (not_top shut) hold (potential_inside pot)

  -- below a node that has a potential nothing is opened and all is filled
  below_potential : {n p b : ℕ} → Potential t r opened distance n p → t.below n ≡ some b → (opened b ≡ false) × (r.stale b ≡ false)
  below_potential {n} {p} {b} (base {m = m} own yes_open shut d) bel =
      (shut b bel, frame.filled n m b own yes_open bel (shut b bel))
  below_potential {n} {p} {b} (deeper {m = m} own not_open full hold c pot) bel = (
    frame.shut_below n m b (potential_inside (deeper own not_open full hold c pot)) own not_open bel,
    frame.filled_below b m (parent_below frame.sound own bel) full,
  )

  -- the start node of the machine below a node has that node's potential
  potential_start : {n p b f : ℕ} → Potential t r opened distance n p → t.below n ≡ some b → t.start b ≡ some f
      → Potential t r opened distance f p
  potential_start {n} {p} {b} {f} pot bel st =
      let (shut, full) = below_potential pot bel in
      subst (λ (k : ℕ). Potential t r opened distance f k) (zero-add p)
      (deeper (frame.sound.start_owned b f st) shut full (frame.sound.below_held n b bel) (frame.relaxed b f st full).start_cost pot)

  -- entering a node keeps its potential: the start nodes on the way have cost 0
  pub potential_enters : {n p e : ℕ} → Potential t r opened distance n p → Enters t n e → Potential t r opened distance e p
  potential_enters pot (plain b) = pot
  potential_enters pot (down b st en) = potential_enters (potential_start pot b st) en

  -- and so does coming down through opened machines, in the node where it ends
  lands_enters : {v w e : ℕ} → Lands t opened v w → Enters t v e → Enters t w e
  lands_enters (here shut) en = en
  lands_enters (into b yes_open st l) (plain none_below) = absurd (none_some none_below b)
  lands_enters {e = e} (into {b = b} {f = f} bel yes_open st l) (down {b = c} {f = g} bel' st' en) =
      lands_enters {e = e} l (subst (λ (k : ℕ). Enters t k e) (same_start bel st bel' st') en)
    where
      same_start : {v b c f g : ℕ} → t.below v ≡ some b → t.start b ≡ some f → t.below v ≡ some c → t.start c ≡ some g → g ≡ f
      same_start p q u w = cc

  lands_shut : {v w : ℕ} → Lands t opened v w → Shut t opened w
  lands_shut (here shut) = shut
  lands_shut (into b op st l) = lands_shut l

  -- What a climb from node n with command x comes to, where n has potential p and can be left by x at cost e: a target that is
  -- entered with potential at most p + e and the transition's cost; or a node of the opened machines from which nothing is found.
  abbrev pub Comes : (p e x : ℕ) → Climb → Type 0
  Comes p e x (found u v c) =
      (f : ℕ) → Enters t v f → (q : ℕ) × Potential t r opened distance f q × (q ≤ p + e + c)
  Comes p e x (passed l) =
      (n : ℕ) × (m : ℕ) × (d : ℕ) × (e' : ℕ) × (l' : ℕ) × (t.owner n ≡ some m) × (opened m ≡ true) × (distance n ≡ some d)
      × (node_exit t r n x ≡ some e') × (climb t top n x ≡ passed l') × (d + e' + l' ≤ p + e + l)

  -- the transition of a node of a machine that is not opened
  comes_own : {n m h c p e : ℕ} (x : ℕ) (a : Transition) → t.owner n ≡ some m → opened m ≡ false → r.stale m ≡ false → t.holder m ≡ some h
      → r.cost n ≡ some c → Potential t r opened distance h p → node_exit t r n x ≡ some e → counting t n x ≡ some a
      → Comes (c + p) e x (found n a.target a.cost)
  comes_own {n} {m} {h} {c} {p} {e} x a own not_open full hold cost pot exit has f en =
      let (s, used) = frame.sound.owner_used n m own in
      let step = move_by t r n x has exit in
      let (d, reached, small) = (frame.relaxed m s used full).moves n c x (record { node = a.target; cost = e + a.cost }) own cost step in
      let there = counting_owned frame.sound n x a has own in
      (d + p, potential_enters (deeper there not_open full hold reached pot) en, omega arith)

  -- no transition there: the machine is left, and the climb goes on
  comes_past : (p c e d l x : ℕ) (k : Climb) → d ≤ c + e → Comes p (d + l) x k → Comes (c + p) e x (past l k)
  comes_past p c e d l x (found u v a) small come =
      λ f en. let (q, pot, le) = come f en in (q, pot, omega arith)
  comes_past p c e d l x (passed k) small come =
      let (n, m, dn, e', l', own, op, dist, exit, up, le) = come in
      (n, m, dn, e', l', own, op, dist, exit, up, omega arith)

  -- what comes of a node of an opened machine
  comes_base : {n m d : ℕ} (e x : ℕ) → t.owner n ≡ some m → opened m ≡ true → Shut t opened n → distance n ≡ some d → node_exit t r n x ≡ some e
      → (k : Climb) → climb t top n x ≡ k → Comes d e x k
  comes_base {n} {m} {d} e x own op shut dist exit (found u v c) up =
      λ f en. let (w, p, d', lands, there, op', dist', le) = frame.moves n m d x u v c e own op shut dist up exit in
      (d', potential_enters (base there op' (lands_shut lands) dist') (lands_enters lands en), le)
  comes_base {n} {m} {d} e x own op shut dist exit (passed l) up = (n, m, d, e, l, own, op, dist, exit, up, omega arith)

  -- the same of a node of a machine that is not opened, from what comes of the node that holds the machine
  comes_deeper : {n m h c p : ℕ} → t.owner n ≡ some m → opened m ≡ false → r.stale m ≡ false → t.holder m ≡ some h → r.cost n ≡ some c
      → Potential t r opened distance h p → (e x : ℕ) → x < commands → node_exit t r n x ≡ some e
      → ((e' : ℕ) → node_exit t r h x ≡ some e' → Comes p e' x (climb t top h x))
      → (o : Option Transition) → counting t n x ≡ o → Comes (c + p) e x (climb t top n x)
  comes_deeper {n} own shut full hold cost pot e x range exit up (some a) has = rw (climb_own t top n x a has) (comes_own x a own shut full hold cost pot exit has)
  comes_deeper {n} {m} {h} {c} {p} own shut full hold cost pot e x range exit up none has =
      let (s, used) = frame.sound.owner_used n m own in
      let (d, out, small) = (frame.relaxed m s used full).exits n c x e own cost range has exit in
      rw (climb_on frame.sound top x own (not_top shut) hold has)
      (comes_past p c e d (t.leave m) x (climb t top h x) small (up (d + t.leave m) (exit_refined t r h x (frame.sound.held_below m h hold) out)))

  -- no command raises the potential by more than it costs
  pub comes : {n p : ℕ} → Potential t r opened distance n p → (e x : ℕ) → x < commands → node_exit t r n x ≡ some e → Comes p e x (climb t top n x)
  comes {n} (base own op shut dist) e x range exit = comes_base e x own op shut dist exit (climb t top n x) refl
  comes {n} (deeper own shut full hold cost pot) e x range exit =
      comes_deeper own shut full hold cost pot e x range exit (λ e' out. comes pot e' x range out) (counting t n x) refl

  -- the state of an arrival has a potential, which is at most p and what the way there cost
  abbrev pub Raised : ℕ → Arrival → Type 0
  Raised p a = (q : ℕ) × Potential t r opened distance a.node q × (t.below a.node ≡ none) × (q ≤ p + a.cost)

  -- a step from a state with a potential
  raised_follow : {n p : ℕ} → Potential t r opened distance n p → t.below n ≡ none → (x : ℕ) (a : Arrival) (k : Climb) → climb t top n x ≡ k
      → follow t k ≡ some a → Raised p a
  raised_follow pot b x a (passed l) up e = absurd (none_some {a = a} refl e)
  raised_follow {n} {p} pot b x a (found u v c) up e =
      let at = climb_found frame.sound top n x up in
      let (s, en, same) = bind_some (enter t v) (λ s. some (record { node = s; cost = c })) e in
      let way = enter_enters frame.sound at.target_owner en in
      let come : Comes p 0 x (found u v c) = subst (Comes p 0 x) up (comes pot 0 x at.range (exit_plain t r n x b)) in
      let (q, pot', le) = come s way in
      subst (Raised p) (some_same refl same) (q, pot', (enters_state frame.sound way at.target_owner).2, omega arith)

  raised_step : {n p : ℕ} → Potential t r opened distance n p → t.below n ≡ none → (x : ℕ) (a : Arrival) → step_in t top n x ≡ some a → Raised p a
  unfolding step_in
  raised_step {n} pot b x a e = raised_follow pot b x a (climb t top n x) refl e

  -- a list of commands from a state with a potential
  pub raised_run : {n p : ℕ} → Potential t r opened distance n p → t.below n ≡ none → (xs : List ℕ) (a : Arrival) → run_in t top n xs ≡ some a → Raised p a
  raised_run {n} {p} pot b [] a e = subst (Raised p) (some_same (run_nil (step_in t top) n) e) (p, pot, b, omega arith)
  raised_run {n} {p} pot b (x ∷ xs) a e =
      let first = run_first (step_in t top) n x xs e in
      let (q₁, pot₁, b₁, le₁) = raised_step pot b x first.mid first.step in
      let (q₂, pot₂, b₂, le₂) = raised_run {n = first.mid.node} pot₁ b₁ xs first.end first.rest in
      subst (Raised p) first.joins (q₂, pot₂, b₂, omega arith)
