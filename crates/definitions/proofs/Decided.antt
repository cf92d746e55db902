-- Whether there is a least cost, and which, is decided: of lists of commands inside a machine that end where something is asked. Assumes nothing.
use mathlib.Core.Path.{◌≡◌, refl, ◌∙◌, ap, subst}
use mathlib.Core.Logic.{◌⊎◌, inl, inr, ⊎_elim}
use mathlib.Core.Option.{Option, none, some}
use mathlib.Core.List.{[], List, ◌∷◌}
use Prim.Native.Nat.{ℕ, zero, suc, ◌+◌, ◌≤◌, ◌<◌}
use native.Mathlib.Omega.{arith}
use lib.ListN.{length}
use Rattle.definitions.specs.Basics.{Least}
use Rattle.definitions.specs.Limits.{nodes, commands}
use Rattle.definitions.specs.Tree.{Tree, Sound}
use Rattle.definitions.specs.Step.{start_state, Climb, found, passed, climb, Arrival, step_in, run_in}
use Rattle.definitions.specs.Costs.{unfound, exit_by}
use Rattle.definitions.proofs.Options.{none_some, some_same, less_or_not}
use Rattle.definitions.proofs.Runs.{run_first, run_cons, run_nil}
use Rattle.definitions.proofs.Simple.{StateIn, simple_run, simple_length, states_in_states, states_bound, step_range, start_inside}
use Rattle.definitions.proofs.Exits.{exit_parts, parts_exit}

-- ---- least costs put together

-- a least one is known, or that there is none
abbrev pub Decided : (ℕ → Type 0) → Type 0
Decided P = (o : Option ℕ) × Least P o

-- of the same costs, told otherwise
pub decided_as : (P Q : ℕ → Type 0) → ((c : ℕ) → P c → Q c) → ((c : ℕ) → Q c → P c) → Decided P → Decided Q
decided_as P Q there back (none, never) = (none, λ c q. never c (back c q))
decided_as P Q there back (some c, (here, least)) = (some c, (there c here, λ d q. least d (back d q)))

-- of one cost or another
pub decided_either : (P Q : ℕ → Type 0) → Decided P → Decided Q → Decided (λ c. P c ⊎ Q c)
decided_either P Q (none, no_p) (none, no_q) = (none, λ c. ⊎_elim (no_p c) (no_q c))
decided_either P Q (some c, (p, least)) (none, no_q) = (some c, (inl p, λ d. ⊎_elim (least d) (λ q. absurd (no_q d q))))
decided_either P Q (none, no_p) (some d, (q, least)) = (some d, (inr q, λ e. ⊎_elim (λ p. absurd (no_p e p)) (least e)))
decided_either P Q (some c, (p, least_p)) (some d, (q, least_q)) =
    ⊎_elim
    (λ less. (some c, (inl p, λ e. ⊎_elim (least_p e) (λ r. omega (arith, least_q e r, less)))))
    (λ more. (some d, (inr q, λ e. ⊎_elim (λ r. omega (arith, least_p e r, more)) (least_q e))))
    (less_or_not c d)

-- of costs with so much more
pub decided_more : (P : ℕ → Type 0) (w : ℕ) → Decided P → Decided (λ c. (d : ℕ) × P d × (w + d ≡ c))
decided_more P w (none, never) = (none, λ c (d, p, e). never d p)
decided_more P w (some c, (p, least)) = (some (w + c), ((c, p, refl), λ e (d, q, same). omega (arith, least d q, same)))

-- of numbers under a limit
pub decided_under : (k : ℕ) (P : ℕ → ℕ → Type 0) → ((i : ℕ) → Decided (P i)) → Decided (λ c. (i : ℕ) × (i < k) × P i c)
decided_under zero P each = (none, λ c (i, small, p). absurd (omega (arith, small)))
decided_under (suc k) P each =
    decided_as (λ c. P k c ⊎ ((i : ℕ) × (i < k) × P i c)) (λ c. (i : ℕ) × (i < suc k) × P i c)
    (λ c. ⊎_elim (λ p. (k, omega arith, p)) (λ (i, small, p). (i, omega (arith, small), p)))
    (λ c (i, small, p).
    ⊎_elim (λ less. inr (i, less, p)) (λ more. let same : i ≡ k = omega (arith, small, more) in inl (subst (λ j. P j c) same p))
    (less_or_not i k))
    (decided_either (P k) (λ c. (i : ℕ) × (i < k) × P i c) (each k) (decided_under k P each))

-- ---- lists inside a machine

module _ (t : Tree) (top : ℕ) (final : ℕ → Option ℕ) where
  -- the cost of a list from s, with what is asked where it ends
  pub record Ending (s : ℕ) (xs : List ℕ) (c : ℕ) : Type 0 where
    pub at : Arrival
    pub more : ℕ
    pub runs : run_in t top s xs ≡ some at
    pub asked : final at.node ≡ some more
    pub exact : at.cost + more ≡ c

  -- lists of at most k commands
  abbrev Short : ℕ → ℕ → ℕ → Type 0
  Short k s c = (xs : List ℕ) × (length xs ≤ k) × Ending s xs c

  -- no command
  ending_none : (s : ℕ) {c : ℕ} → Ending s [] c → final s ≡ some c
  ending_none s {c} ends =
      let at = some_same ends.runs (run_nil (step_in t top) s) in
      let free : 0 + ends.more ≡ c = subst (λ (a : Arrival). a.cost + ends.more ≡ c) at ends.exact in
      let same : ends.more ≡ c = omega (arith, free) in
      subst (λ (a : Arrival). final a.node ≡ some ends.more) at ends.asked ∙ ap some same

  none_ending : (s : ℕ) {c : ℕ} → final s ≡ some c → Ending s [] c
  none_ending s {c} e = record { at = record { node = s; cost = 0 }; more = c; runs = run_nil (step_in t top) s; asked = e; exact = omega arith }

  -- a command more in front
  ending_first : (s x : ℕ) (xs : List ℕ) {c : ℕ} → Ending s (x ∷ xs) c → (a : Arrival) × (step_in t top s x ≡ some a) × (d : ℕ) × Ending a.node xs d × (a.cost + d ≡ c)
  ending_first s x xs {c} ends =
      let first = run_first (step_in t top) s x xs ends.runs in
      let node : first.end.node ≡ ends.at.node = ap (λ (a : Arrival). a.node) first.joins in
      let cost : first.mid.cost + first.end.cost ≡ ends.at.cost = ap (λ (a : Arrival). a.cost) first.joins in (
        first.mid,
        first.step,
        first.end.cost + ends.more,
        record { at = first.end; more = ends.more; runs = first.rest; asked = rw node ends.asked; exact = refl },
        omega (arith, cost, ends.exact),
      )

  first_ending : (s x : ℕ) (xs : List ℕ) {a : Arrival} {d : ℕ} → step_in t top s x ≡ some a → Ending a.node xs d → Ending s (x ∷ xs) (a.cost + d)
  first_ending s x xs {a} {d} e ends =
      record {
        at = record { node = ends.at.node; cost = a.cost + ends.at.cost };
        more = ends.more;
        runs = run_cons (step_in t top) s x xs e ends.runs;
        asked = ends.asked;
        exact = omega (arith, ends.exact);
      }

  module _ (sound : Sound t) where
    -- a command and then a short list
    abbrev Longer : ℕ → ℕ → ℕ → Type 0
    Longer k s c = (x : ℕ) × (x < commands) × ((a : Arrival) × (step_in t top s x ≡ some a) × (d : ℕ) × Short k a.node d × (a.cost + d ≡ c))

    -- no command is decided
    none_decided : (s : ℕ) → Decided (Short zero s)
    none_decided s =
        decided_as (λ c. final s ≡ some c) (Short zero s) (λ c e. ([], omega arith, none_ending s e)) back (here (final s) refl)
      where
        back : (c : ℕ) → Short zero s c → final s ≡ some c
        back c ([], small, ends) = ending_none s ends
        back c (x ∷ xs, small, ends) = absurd (omega (arith, small))

        here : (o : Option ℕ) → final s ≡ o → Decided (λ c. final s ≡ some c)
        here none e = (none, λ c f. none_some e f)
        here (some d) e = (some d, (e, λ c f. let same = some_same e f in omega (arith, same)))

    -- and so are lists of at most k commands, by induction on k
    short_decided : (k s : ℕ) → Decided (Short k s)
    short_decided zero s = none_decided s
    short_decided (suc k) s =
        decided_as (λ c. Short zero s c ⊎ Longer k s c) (Short (suc k) s) there back
        (decided_either (Short zero s) (Longer k s) (none_decided s) (decided_under commands by (each (λ n. short_decided k n))))
      where
        by : ℕ → ℕ → Type 0
        by x c = (a : Arrival) × (step_in t top s x ≡ some a) × (d : ℕ) × Short k a.node d × (a.cost + d ≡ c)

        each : ((n : ℕ) → Decided (Short k n)) → (x : ℕ) → Decided (by x)
        each rest x = go (step_in t top s x) refl
          where
            go : (o : Option Arrival) → step_in t top s x ≡ o → Decided (by x)
            go none e = (none, λ c (a, f, d, short, same). none_some e f)
            go (some a) e =
                decided_as (λ c. (d : ℕ) × Short k a.node d × (a.cost + d ≡ c)) (by x) (λ c (d, short, same). (a, e, d, short, same))
                (λ c (b, f, d, short, same). let at = some_same f e in subst (λ (b : Arrival). (d : ℕ) × Short k b.node d × (b.cost + d ≡ c)) at (d, short, same))
                (decided_more (Short k a.node) a.cost (rest a.node))

        there : (c : ℕ) → Short zero s c ⊎ Longer k s c → Short (suc k) s c
        there c (inl (xs, small, ends)) = (xs, omega (arith, small), ends)
        there c (inr (x, range, (a, e, d, (xs, small, ends), same))) =
            (x ∷ xs, omega (arith, small), subst (Ending s (x ∷ xs)) same (first_ending s x xs e ends))

        back : (c : ℕ) → Short (suc k) s c → Short zero s c ⊎ Longer k s c
        back c ([], small, ends) = inl ([], omega arith, ends)
        back c (x ∷ xs, small, ends) =
            let (a, e, d, rest, same) = ending_first s x xs ends in
            inr (x, (step_range sound top s x e).0, (a, e, d, (xs, omega (arith, small), rest), same))

    -- so all lists are, since repeats can be dropped
    pub ending_decided : {s : ℕ} → StateIn t top s → Decided (λ c. (xs : List ℕ) × Ending s xs c)
    ending_decided {s} state = go (short_decided nodes s)
      where
        shorter : (c : ℕ) → (xs : List ℕ) → Ending s xs c → (d : ℕ) × Short nodes s d × (d ≤ c)
        shorter c xs ends =
            let (ys, b, runs, same, small, distinct) = simple_run t top s xs ends.at ends.runs in
            let few = simple_length sound state ys runs distinct in (
              b.cost + ends.more,
              (
                ys,
                omega (arith, few, states_in_states t top, states_bound t),
                record { at = b; more = ends.more; runs = runs; asked = ap final same ∙ ends.asked; exact = refl },
              ),
              omega (arith, small, ends.exact),
            )

        go : Decided (Short nodes s) → Decided (λ c. (xs : List ℕ) × Ending s xs c)
        go (none, never) = (none, λ c (xs, ends). let (d, short, less) = shorter c xs ends in never d short)
        go (some c, ((xs, small, ends), least)) =
            (some c, ((xs, ends), λ d (ys, too). let (e, short, less) = shorter d ys too in omega (arith, least e short, less)))

-- ---- exits

-- what a climb that passes cost
passed_asked : (k : Climb) {d : ℕ} → unfound 0 k ≡ some d → k ≡ passed d
passed_asked (found n v c) {d} e = absurd (none_some {a = d} refl e)
passed_asked (passed c) {d} e =
    let sum : 0 + c ≡ d = some_same refl e in
    let same : c ≡ d = omega (arith, sum) in
    ap passed same

asked_passed : (k : Climb) {d : ℕ} → k ≡ passed d → unfound 0 k ≡ some d
asked_passed k {d} e =
    let same : 0 + d ≡ d = omega arith in
    ap (unfound 0) e ∙ ap some same

-- whether a machine has an exit for x, and its cost
pub exit_decided : {t : Tree} → Sound t → (m x : ℕ) {s : ℕ} → start_state t m ≡ some s → Decided (λ c. (xs : List ℕ) × (exit_by t m x xs ≡ some c))
exit_decided {t} sound m x {s} begins =
    decided_as (λ c. (xs : List ℕ) × Ending t m (λ n. unfound 0 (climb t m n x)) s xs c) (λ c. (xs : List ℕ) × (exit_by t m x xs ≡ some c))
    (λ c (xs, ends). (
      xs,
      parts_exit t m x xs
          (record {
            state = s;
            at = ends.at;
            left = ends.more;
            begins = begins;
            runs = ends.runs;
            climbs = passed_asked (climb t m ends.at.node x) ends.asked;
            exact = ends.exact;
          }),
    ))
    (λ c (xs, e).
    let parts = exit_parts t m x xs e in
    let here : parts.state ≡ s = some_same parts.begins begins in (
      xs,
      record {
        at = parts.at;
        more = parts.left;
        runs = subst (λ (n : ℕ). run_in t m n xs ≡ some parts.at) here parts.runs;
        asked = asked_passed (climb t m parts.at.node x) parts.climbs;
        exact = parts.exact;
      },
    ))
    (ending_decided t m (λ n. unfound 0 (climb t m n x)) sound (start_inside sound m begins))
