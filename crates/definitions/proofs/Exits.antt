-- The parts of an exit: from a machine's start state, by a list inside the machine, to a state where the last command finds nothing in it.
-- Assumes nothing.
use mathlib.Core.Path.{◌≡◌, refl, ap}
use mathlib.Core.Option.{some}
use mathlib.Core.List.{List}
use Prim.Native.Nat.{ℕ, ◌+◌}
use Rattle.definitions.specs.Basics.{◌>>=◌}
use Rattle.definitions.specs.Tree.{Tree, Sound}
use Rattle.definitions.specs.Step.{start_state, Climb, found, passed, climb, Arrival, run_in}
use Rattle.definitions.specs.Costs.{unfound, exit_by}
use Rattle.definitions.proofs.Options.{bind_some, none_some, some_same}
use Rattle.definitions.proofs.Path.{Enters, enters_enter}

-- the parts of an exit
pub record ExitParts (t : Tree) (m x : ℕ) (xs : List ℕ) (c : ℕ) : Type 0 where
  pub state : ℕ
  pub at : Arrival
  pub left : ℕ
  pub begins : start_state t m ≡ some state
  pub runs : run_in t m state xs ≡ some at
  pub climbs : climb t m at.node x ≡ passed left
  pub exact : at.cost + left ≡ c

unfound_parts : (d : ℕ) (k : Climb) {c : ℕ} → unfound d k ≡ some c → (l : ℕ) × (k ≡ passed l) × (d + l ≡ c)
unfound_parts d (found u v l) {c} e = absurd (none_some {a = c} refl e)
unfound_parts d (passed l) e = (l, refl, some_same refl e)

pub exit_parts : (t : Tree) (m x : ℕ) (xs : List ℕ) {c : ℕ} → exit_by t m x xs ≡ some c → ExitParts t m x xs c
unfolding exit_by
exit_parts t m x xs e =
    let (s, begins, rest) = bind_some (start_state t m) (λ s. run_in t m s xs >>= λ a. unfound a.cost (climb t m a.node x)) e in
    let (a, runs, last) = bind_some (run_in t m s xs) (λ a. unfound a.cost (climb t m a.node x)) rest in
    let (l, up, exact) = unfound_parts a.cost (climb t m a.node x) last in
    record { state = s; at = a; left = l; begins = begins; runs = runs; climbs = up; exact = exact }

pub parts_exit : (t : Tree) (m x : ℕ) (xs : List ℕ) {c : ℕ} → ExitParts t m x xs c → exit_by t m x xs ≡ some c
unfolding exit_by
parts_exit t m x xs p = rw (p.begins, p.runs, p.climbs) (ap some p.exact)

-- the state where a machine starts is the one where its start node is entered
pub start_enters : {t : Tree} → Sound t → {m f e : ℕ} → t.start m ≡ some f → Enters t f e → start_state t m ≡ some e
unfolding start_state
start_enters s {m} {f} st en = rw st (enters_enter s en (s.start_owned m f st))
