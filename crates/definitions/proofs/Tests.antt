-- Facts about a sound tree that are found by computing: bounds that pass a test give least costs, rows that pass a test are true. And
-- what Step and Plan say of books and sheets of which such facts are known. Assumes nothing.
use mathlib.Core.Path.{◌≡◌, refl, ◌∙◌, ap, subst}
use mathlib.Core.Logic.{◌⊎◌, inl, inr, ⊎_elim}
use mathlib.Core.Bool.{Bool, true, false, not, ◌&&◌, ◌||◌}
use mathlib.Core.Option.{Option, none, some}
use mathlib.Core.List.{[], List, ◌∷◌}
use Prim.Native.Nat.{ℕ, zero, suc, ◌+◌, ◌-◌, ◌≤◌, ◌<◌}
use native.Mathlib.Omega.{arith}
use native.Mathlib.Nat.{not-suc-le-zero}
use lib.Dec.{eqb, ltb, leb}
use lib.ListN.{length}
use borrow.Author.Tests.{ltb-true, ltb-false, leb-true, eqb-true, ne_eqb, not-true}
use Rattle.definitions.specs.Basics.{◌>>=◌, option, is_some, is_at, put, iterate, any_below, All, Distinct}
use Rattle.definitions.specs.Limits.{machines, nodes, commands, absent, blank, longest_chain}
use Rattle.definitions.specs.Tree.{Tree, Sound, is_state, states}
use Rattle.definitions.specs.Step.{counting, Arrival, step, Moves, passes}
use Rattle.definitions.specs.Costs.{LeastCost, ExitCost}
use Rattle.definitions.specs.Book.{under, encode}
use Rattle.definitions.specs.Sheet.{Rows, encode_rows}
use Rattle.definitions.specs.Truth.{node_exit, move, BlankMachine, BlankNode, BlankRule, Named, Ended, TrueRows, TrueSheet}
use Rattle.definitions.specs.Answer.{Answer, refuses}
use Rattle.definitions.specs.Calls.{StepSays, Plan, PlanSays}
use Rattle.definitions.proofs.Options.{bind_some, none_some, some_same, true_false, decided, equal_or_not, and_true}
use Rattle.definitions.proofs.Options.{is_at_true, is_some_true, is_some_false}
use Rattle.definitions.proofs.Lists.{no_value}
use Rattle.definitions.proofs.Path.{counting_range}
use Rattle.definitions.proofs.Runs.{Bounded, bounded_run}
use Rattle.definitions.proofs.Local.{Relaxed, Attained, move_parts}
use Rattle.definitions.proofs.LocalTruth.{local_true}
use Rattle.definitions.proofs.Answers.{StepOn, step_past}
use Rattle.definitions.proofs.Simple.{step_range}
use Rattle.definitions.proofs.Words.{under_some, encode_length, tree_of_encode, encode_well_formed}
use Rattle.definitions.proofs.Words.{encode_rows_length, InRange, words_marks, rows_of_encode_rows}

-- ---- tests

-- whether every number under k passes the test
unfoldable pub all_below : ℕ → (ℕ → Bool) → Bool
all_below zero p = true
all_below (suc k) p = p k && all_below k p

-- then each of them does
pub all_below_lem : (k : ℕ) (p : ℕ → Bool) → all_below k p ≡ true → (i : ℕ) → i < k → p i ≡ true
unfolding all_below
all_below_lem zero p e i small = absurd (not-suc-le-zero small)
all_below_lem (suc k) p e i small =
    let (last, rest) = and_true (p k) (all_below k p) e in
    ⊎_elim (λ (same : i ≡ k). rw same last) (λ (other : i ≡ k → ⊥). all_below_lem k p rest i (omega arith)) (equal_or_not i k)

-- where the test for some number under k holds, there is one
pub any_below_lem : (k : ℕ) (p : ℕ → Bool) → any_below k p ≡ true → (i : ℕ) × (i < k) × (p i ≡ true)
unfolding any_below
any_below_lem zero p e = absurd (true_false e refl)
any_below_lem (suc k) p e = go (p k) refl (any_below_lem k p)
  where
    go : (b : Bool) → p k ≡ b → (any_below k p ≡ true → (i : ℕ) × (i < k) × (p i ≡ true)) → (i : ℕ) × (i < suc k) × (p i ≡ true)
    go true here lower = (k, omega arith, here)
    go false here lower = let (i, small, passes) = lower (rw here at e) in (i, omega arith, passes)

-- whether every element of a list is under a limit
unfoldable pub all_under : ℕ → List ℕ → Bool
all_under limit [] = true
all_under limit (n ∷ ns) = ltb n limit && all_under limit ns

-- then each of them is
pub all_under_lem : (limit : ℕ) (ns : List ℕ) → all_under limit ns ≡ true → All (λ n. n < limit) ns
unfolding all_under
all_under_lem limit [] e = tt
all_under_lem limit (n ∷ ns) e =
    let (first, rest) = and_true (ltb n limit) (all_under limit ns) e in
    (ltb-true n limit first, all_under_lem limit ns rest)

-- whether a value is there and passes the test
abbrev pub there : {A : Type 0} → Option A → (A → Bool) → Bool
there o p = option false p o

-- then it is there and does
pub there_true : {A : Type 0} (o : Option A) (p : A → Bool) → there o p ≡ true → (a : A) × (o ≡ some a) × (p a ≡ true)
there_true none p e = absurd (true_false e refl)
there_true (some a) p e = (a, refl, e)

-- whether a value passes the test, if it is there
abbrev pub if_there : {A : Type 0} → Option A → (A → Bool) → Bool
if_there o p = option true p o

-- then a value that is there does
pub if_there_true : {A : Type 0} (o : Option A) (p : A → Bool) {a : A} → if_there o p ≡ true → o ≡ some a → p a ≡ true
if_there_true o p e value = rw value at e

-- whether no value is there
abbrev pub is_none : {A : Type 0} → Option A → Bool
is_none o = not (is_some o)

-- then none is
pub is_none_true : {A : Type 0} (o : Option A) → is_none o ≡ true → o ≡ none
is_none_true o e = is_some_false o (not-true (is_some o) e)

-- a number is under a limit or not
pub under_or_past : (i limit : ℕ) → (i < limit) ⊎ (limit ≤ i)
under_or_past i limit = ⊎_elim (λ e. inl (ltb-true i limit e)) (λ e. inr (ltb-false i limit e)) (decided (ltb i limit))

-- these values at these numbers, and nothing elsewhere
unfoldable pub listed : List (ℕ × ℕ) → ℕ → Option ℕ
listed [] = λ n. none
listed (entry ∷ rest) = put (listed rest) entry.0 (some entry.1)

-- ---- bounds that are least costs

-- whether command x from node n, whose bound is c, leads to a node whose bound is at most c plus the cost, if it leads anywhere
unfoldable pub accounted : (ℕ → ℕ → Option Arrival) → (ℕ → Option ℕ) → ℕ → ℕ → ℕ → Bool
accounted f bound n c x = if_there (f n x) λ a. there (bound a.node) λ d. leb d (c + a.cost)

-- then where it leads has such a bound
accounted_true : (f : ℕ → ℕ → Option Arrival) (bound : ℕ → Option ℕ) (n c x : ℕ) {a : Arrival} → accounted f bound n c x ≡ true
    → f n x ≡ some a → Bounded bound c a
unfolding accounted
accounted_true f bound n c x {a} e step =
    let (d, value, small) = there_true (bound a.node) _ (if_there_true (f n x) _ e step) in
    (d, value, leb-true d (c + a.cost) small)

-- whether every command from a node with a bound leads, if anywhere, to a node whose bound is at most that one plus the cost
unfoldable pub bounds_test : Tree → (ℕ → Option ℕ) → Bool
bounds_test t bound = all_below nodes λ n. if_there (bound n) λ c. all_below commands (accounted (step t) bound n c)

module _ (t : Tree) (s : Sound t) (bound : ℕ → Option ℕ) (test : bounds_test t bound ≡ true) where
  -- no command from a node with a bound leads to one with a larger bound than that and its cost
  bound_step : (n c x : ℕ) (a : Arrival) → n < nodes → bound n ≡ some c → step t n x ≡ some a → (a.node < nodes) × Bounded bound c a
  unfolding bounds_test
  bound_step n c x a small value e =
      let (range, reach) = step_range s t.root n x e in
      let passes = if_there_true (bound n) _ (all_below_lem nodes _ test n small) value in
      (reach, accounted_true (step t) bound n c x (all_below_lem commands (accounted (step t) bound n c) passes x range) e)

  module _ (a : ℕ) (small : a < nodes) (begins : bound a ≡ some 0) where
    -- so no list from a does, where the bound of a is 0
    bound_moves : (b : ℕ) (xs : List ℕ) (c : ℕ) → Moves t a b xs c → (d : ℕ) × (bound b ≡ some d) × (d ≤ 0 + c)
    bound_moves b xs c moves = bounded_run (step t) bound (λ n. n < nodes) bound_step a 0 xs small begins moves

    -- a list that costs just the bound of its end has the least cost
    pub bound_least : (b c : ℕ) (xs : List ℕ) → bound b ≡ some c → Moves t a b xs c → LeastCost t a b (some c)
    bound_least b c xs value moves = (
      (xs, moves),
      λ d (ys, other). let (e, value', le) = bound_moves b ys d other in omega (arith, some_same value value'),
    )

    -- if it passes no state twice, it is a plan
    pub bound_plan : (b c : ℕ) (xs : List ℕ) → bound b ≡ some c → Moves t a b xs c → Distinct (passes t a xs) → Plan t a b c xs
    bound_plan b c xs value moves simple = record { moves = moves; simple = simple; least = bound_least b c xs value moves }

    -- no list leads to a node without a bound
    pub bound_none : (b : ℕ) → bound b ≡ none → LeastCost t a b none
    bound_none b missing = λ d (ys, other). none_some missing (bound_moves b ys d other).1

-- ---- what calls say of a book and a sheet

-- the words of true rows in range are a true sheet
pub rows_sheet : (t : Tree) (r : Rows) → InRange r → TrueRows t r → TrueSheet t (encode_rows r)
rows_sheet t r range holds =
    let same = rows_of_encode_rows r range in
    let (long, marks) = words_marks (encode_rows r) (ap encode_rows same) in
    record { length = long; marks = marks; rows = rw same holds }

-- Step's answer on the book of a sound tree
pub step_says : (t : Tree) → Sound t → (n x : ℕ) (answer : Answer) → x < commands → {p : ℕ} → t.owner n ≡ some p → StepOn t n x answer
    → StepSays (encode t) n x answer
step_says t s n x answer range own rest =
    let same = tree_of_encode t s in
    step_past (encode t) (encode_well_formed t s) (rw same (_, own)) range (rw same rest)

-- a state is a node in use that holds no machine
pub state_parts : (t : Tree) (n : ℕ) → is_state t n ≡ true → (p : ℕ) × (t.owner n ≡ some p) × (t.below n ≡ none)
state_parts t n e =
    let (used, plain) = and_true (is_some (t.owner n)) (is_none (t.below n)) e in
    let (p, own) = is_some_true (t.owner n) used in
    (p, own, is_none_true (t.below n) plain)

-- Plan's answer for two states where there is no way, on the book of a sound tree and a true sheet with nothing stale
pub plan_refused : (t : Tree) → Sound t → (r : Rows) → InRange r → ((m : ℕ) → r.stale m ≡ false) → TrueRows t r
    → (a b : ℕ) → is_state t a ≡ true → is_state t b ≡ true → LeastCost t a b none
    → (buffer : List ℕ) → states t - 1 ≤ length buffer → PlanSays (encode t) (encode_rows r) a b buffer (refuses 16) buffer
plan_refused t s r range fresh holds a b state_a state_b no_way buffer room =
    let (p, own_a, plain_a) = state_parts t a state_a in
    let (q, own_b, plain_b) = state_parts t b state_b in
    rw (tree_of_encode t s, rows_of_encode_rows r range)
    (inr (
      (encode_length t, encode_rows_length r),
      inr (
        encode_well_formed t s,
        inr (
          rows_sheet t r range holds,
          inr (
            fresh,
            inr (
              (s.node_range a p own_a, s.node_range b q own_b),
              inr (((p, own_a), (q, own_b)), inr ((plain_a, plain_b), inr (room, inl (no_way, (refl, refl))))),
            ),
          ),
        ),
      ),
    ))

-- ---- rows by tables

-- o, where it stands under a limit and its value is under another
unfoldable pub capped : (limit top i : ℕ) → Option ℕ → Option ℕ
capped limit top i o = under limit i (o >>= λ v. under top v (some v))

-- what stands under both
capped_some : (limit top i : ℕ) (o : Option ℕ) {v : ℕ} → capped limit top i o ≡ some v → (i < limit) × (v < top)
unfolding capped
capped_some limit top i o {v} e =
    let (small, value) = under_some limit i (o >>= λ w. under top w (some w)) e in
    let (w, has, same) = bind_some o (λ w. under top w (some w)) value in
    let (low, is) = under_some top w (some w) same in
    (small, subst (λ (k : ℕ). k < top) (some_same refl is) low)

-- rows by tables: nothing is stale, and what a table says past the limits does not count
unfoldable pub fresh_rows : Rows → Rows
fresh_rows table =
    record {
      stale = λ m. false;
      exit = λ m x. under machines m (capped commands blank x (table.exit m x));
      last = λ m x. under machines m (capped commands absent x (table.last m x));
      cost = λ n. capped nodes blank n (table.cost n);
      before = λ n. capped nodes absent n (table.before n);
      by = λ n. capped nodes absent n (table.by n);
    }

-- nothing of them is stale
pub fresh_stale : (table : Rows) (m : ℕ) → (fresh_rows table).stale m ≡ false
unfolding fresh_rows
fresh_stale table m = refl

-- they are in range
pub fresh_range : (table : Rows) → InRange (fresh_rows table)
unfolding fresh_rows
fresh_range table =
    record {
      stale = λ m e. absurd (true_false e refl);
      exit = λ m x c e. command_some m x blank (table.exit m x) e;
      last = λ m x n e. command_some m x absent (table.last m x) e;
      cost = λ n c e. capped_some nodes blank n (table.cost n) e;
      before = λ n u e. capped_some nodes absent n (table.before n) e;
      by = λ n x e. capped_some nodes absent n (table.by n) e;
    }
  where
    command_some : (m x top : ℕ) (o : Option ℕ) {v : ℕ} → under machines m (capped commands top x o) ≡ some v
        → (m < machines) × (x < commands) × (v < top)
    command_some m x top o e =
        let (machine, value) = under_some machines m (capped commands top x o) e in
        let (command, low) = capped_some commands top x o value in
        (machine, command, low)

-- ---- tests of rows

-- whether nothing stands in the row of a machine, its mark aside, and in that of a node
unfoldable pub blank_machine : Rows → ℕ → Bool
blank_machine r m = all_below commands λ x. is_none (r.exit m x) && is_none (r.last m x)

unfoldable pub blank_node : Rows → ℕ → Bool
blank_node r n = is_none (r.cost n) && is_none (r.before n) && is_none (r.by n)

-- whether node n of machine m, reached at cost c, names a move that leads to n at exactly this cost
unfoldable pub named_test : Tree → Rows → ℕ → ℕ → ℕ → Bool
named_test t r m n c =
    there (r.before n) λ u.
    there (r.by n) λ x.
    there (r.cost u) λ d.
    there (move t r u x) λ b.
    ltb x commands && is_at (t.owner u) m && eqb b.node n && eqb c (d + b.cost)

-- whether the names from node n on come to node s
unfoldable pub chain_test : Rows → ℕ → ℕ → Bool
chain_test r s n = any_below (suc longest_chain) λ k. is_at (iterate r.before k n) s

-- whether leaving machine m by x from its node n, reached at cost c, is accounted for, if x leaves from there
unfoldable pub left_test : Tree → Rows → ℕ → ℕ → ℕ → ℕ → Bool
left_test t r m n c x =
    option (if_there (node_exit t r n x) λ e. there (r.exit m x) λ d. leb d (c + e)) (λ a. true) (counting t n x)

-- whether what stands for machine m and x ends at a last node as it should; nothing stands there where there is no exit
unfoldable pub ended_test : Tree → Rows → ℕ → ℕ → Bool
ended_test t r m x =
    option (is_none (r.last m x))
    (λ c.
    there (r.last m x) λ u.
    there (r.cost u) λ d.
    there (node_exit t r u x) λ e.
    is_at (t.owner u) m && is_none (counting t u x) && eqb c (d + e))
    (r.exit m x)

-- whether the row of a machine passes
unfoldable pub machine_test : Tree → Rows → ℕ → Bool
machine_test t r m =
    option (blank_machine r m)
    (λ s. is_at (r.cost s) 0 && is_none (r.before s) && is_none (r.by s) && all_below commands (ended_test t r m))
    (t.start m)

-- whether the row of node n of machine m, reached at cost c, passes
unfoldable pub reached_test : Tree → Rows → ℕ → ℕ → ℕ → Bool
reached_test t r m n c =
    there (t.start m) λ s.
    (eqb n s || named_test t r m n c) && chain_test r s n
    && all_below commands λ x. accounted (move t r) r.cost n c x && left_test t r m n c x

-- whether the row of a node passes
unfoldable pub node_test : Tree → Rows → ℕ → Bool
node_test t r n = option (blank_node r n) (λ m. option (blank_node r n) (reached_test t r m n) (r.cost n)) (t.owner n)

-- whether rows with nothing stale pass
unfoldable pub rows_test : Tree → Rows → Bool
rows_test t r = all_below machines (machine_test t r) && all_below nodes (node_test t r)

-- ---- what the tests say, clause by clause

module _ (t : Tree) (r : Rows) where
  -- a blank row of a machine
  blank_machine_lem : (m : ℕ) → blank_machine r m ≡ true → BlankMachine r m
  unfolding blank_machine
  blank_machine_lem m e =
      let both : (x : ℕ) → x < commands → (is_none (r.exit m x) ≡ true) × (is_none (r.last m x) ≡ true) =
      λ x range. and_true (is_none (r.exit m x)) (is_none (r.last m x)) (all_below_lem commands _ e x range) in
      record {
        exit = λ x range. is_none_true (r.exit m x) (both x range).0;
        last = λ x range. is_none_true (r.last m x) (both x range).1;
      }

  -- a blank row of a node
  blank_node_lem : (n : ℕ) → blank_node r n ≡ true → BlankNode r n
  unfolding blank_node
  blank_node_lem n e =
      let (e₁, by) = and_true _ (is_none (r.by n)) e in
      let (cost, before) = and_true (is_none (r.cost n)) (is_none (r.before n)) e₁ in
      record { cost = is_none_true (r.cost n) cost; before = is_none_true (r.before n) before; by = is_none_true (r.by n) by }

  -- the names of a node
  named_true : (m n c : ℕ) → named_test t r m n c ≡ true → Named t r m n c
  unfolding named_test
  named_true m n c e =
      let (u, before, e₁) = there_true (r.before n) _ e in
      let (x, by, e₂) = there_true (r.by n) _ e₁ in
      let (d, cost, e₃) = there_true (r.cost u) _ e₂ in
      let (b, moves, e₄) = there_true (move t r u x) _ e₃ in
      let (e₅, exact) = and_true _ (eqb c (d + b.cost)) e₄ in
      let (e₆, target) = and_true _ (eqb b.node n) e₅ in
      let (range, owned) = and_true (ltb x commands) (is_at (t.owner u) m) e₆ in
      record {
        node = u;
        command = x;
        node_cost = d;
        step_cost = b.cost;
        before = before;
        by = by;
        command_range = ltb-true x commands range;
        owned = is_at_true (t.owner u) m owned;
        reached = cost;
        moves = moves ∙ ap (λ (v : ℕ). some (record { node = v; cost = b.cost })) (eqb-true b.node n target);
        exact = eqb-true c (d + b.cost) exact;
      }

  -- the chain of names
  chain_true : (s n : ℕ) → chain_test r s n ≡ true → (k : ℕ) × (k ≤ longest_chain) × (iterate r.before k n ≡ some s)
  unfolding chain_test
  chain_true s n e =
      let (k, small, way) = any_below_lem (suc longest_chain) _ e in
      (k, omega arith, is_at_true (iterate r.before k n) s way)

  -- leaving a machine from a node without a transition
  left_true : (m n c x : ℕ) → left_test t r m n c x ≡ true → counting t n x ≡ none → {e : ℕ} → node_exit t r n x ≡ some e
      → (d : ℕ) × (r.exit m x ≡ some d) × (d ≤ c + e)
  unfolding left_test
  left_true m n c x test free {e} exit =
      let (d, value, small) = there_true (r.exit m x) _ (if_there_true (node_exit t r n x) _ (rw free at test) exit) in
      (d, value, leb-true d (c + e) small)

  -- the last node of an exit cost, and where there is none
  ended_true : (m x c : ℕ) → ended_test t r m x ≡ true → r.exit m x ≡ some c → Ended t r m x c
  unfolding ended_test
  ended_true m x c test exit =
      let (u, last, e₁) = there_true (r.last m x) _ (rw exit at test) in
      let (d, cost, e₂) = there_true (r.cost u) _ e₁ in
      let (e, exits, e₃) = there_true (node_exit t r u x) _ e₂ in
      let (e₄, exact) = and_true _ (eqb c (d + e)) e₃ in
      let (owned, free) = and_true (is_at (t.owner u) m) (is_none (counting t u x)) e₄ in
      record {
        node = u;
        node_cost = d;
        node_exit_cost = e;
        last = last;
        owned = is_at_true (t.owner u) m owned;
        free = is_none_true (counting t u x) free;
        reached = cost;
        exits = exits;
        exact = eqb-true c (d + e) exact;
      }

  no_exit_true : (m x : ℕ) → ended_test t r m x ≡ true → r.exit m x ≡ none → r.last m x ≡ none
  unfolding ended_test
  no_exit_true m x test exit = is_none_true (r.last m x) (rw exit at test)

  -- the row of a machine that is not in use
  unused_machine_lem : (m : ℕ) → machine_test t r m ≡ true → t.start m ≡ none → BlankMachine r m
  unfolding machine_test
  unused_machine_lem m test unused = blank_machine_lem m (rw unused at test)

  -- the row of a machine in use, whose start node is s
  record Started (m s : ℕ) : Type 0 where
    cost : r.cost s ≡ some 0
    before : r.before s ≡ none
    by : r.by s ≡ none
    ended : (x : ℕ) → x < commands → ended_test t r m x ≡ true

  started : (m s : ℕ) → machine_test t r m ≡ true → t.start m ≡ some s → Started m s
  unfolding machine_test
  started m s test used =
      let (e₁, all) = and_true _ (all_below commands (ended_test t r m)) (rw used at test) in
      let (e₂, by) = and_true _ (is_none (r.by s)) e₁ in
      let (cost, before) = and_true (is_at (r.cost s) 0) (is_none (r.before s)) e₂ in
      record {
        cost = is_at_true (r.cost s) 0 cost;
        before = is_none_true (r.before s) before;
        by = is_none_true (r.by s) by;
        ended = all_below_lem commands (ended_test t r m) all;
      }

  -- the row of a node that is not in use, and of one that is not reached
  unused_node_lem : (n : ℕ) → node_test t r n ≡ true → t.owner n ≡ none → BlankNode r n
  unfolding node_test
  unused_node_lem n test unused = blank_node_lem n (rw unused at test)

  unreached_node : (n m : ℕ) → node_test t r n ≡ true → t.owner n ≡ some m → r.cost n ≡ none → BlankNode r n
  unfolding node_test
  unreached_node n m test own missing = blank_node_lem n (rw (own, missing) at test)

  -- the row of a node of machine m, whose start node is s, that is reached at cost c
  record Reached (m s n c : ℕ) : Type 0 where
    named : (n ≡ s → ⊥) → Named t r m n c
    chain : (k : ℕ) × (k ≤ longest_chain) × (iterate r.before k n ≡ some s)
    moves : (x : ℕ) → x < commands → accounted (move t r) r.cost n c x ≡ true
    exits : (x : ℕ) → x < commands → left_test t r m n c x ≡ true

  reached : (n m s c : ℕ) → node_test t r n ≡ true → t.owner n ≡ some m → t.start m ≡ some s → r.cost n ≡ some c → Reached m s n c
  unfolding node_test reached_test
  reached n m s c test own start cost =
      let passes : ℕ → Bool = λ x. accounted (move t r) r.cost n c x && left_test t r m n c x in
      let (e₁, all) = and_true _ (all_below commands passes) (rw (own, cost, start) at test) in
      let (named, chain) = and_true (eqb n s || named_test t r m n c) (chain_test r s n) e₁ in
      let both : (x : ℕ) → x < commands → (accounted (move t r) r.cost n c x ≡ true) × (left_test t r m n c x ≡ true) =
      λ x range. and_true _ (left_test t r m n c x) (all_below_lem commands passes all x range) in
      record {
        named = λ other. named_true m n c (rw (ne_eqb n s other) at named);
        chain = chain_true s n chain;
        moves = λ x range. (both x range).0;
        exits = λ x range. (both x range).1;
      }

-- ---- rows in range with nothing stale that pass are true

module _ (t : Tree) (s : Sound t) (r : Rows) (range : InRange r) (fresh : (m : ℕ) → r.stale m ≡ false) (test : rows_test t r ≡ true) where
  both_pass : (all_below machines (machine_test t r) ≡ true) × (all_below nodes (node_test t r) ≡ true)
  unfolding rows_test
  both_pass = and_true (all_below machines (machine_test t r)) (all_below nodes (node_test t r)) test

  machine_passes : (m : ℕ) → m < machines → machine_test t r m ≡ true
  machine_passes = all_below_lem machines (machine_test t r) both_pass.0

  node_passes : (n : ℕ) → n < nodes → node_test t r n ≡ true
  node_passes = all_below_lem nodes (node_test t r) both_pass.1

  -- nothing stands past the limits
  past_machine : (m : ℕ) → machines ≤ m → BlankMachine r m
  past_machine m past =
      record {
        exit = λ x small. no_value (r.exit m x) (λ c e. omega (arith, (range.exit m x c e).0));
        last = λ x small. no_value (r.last m x) (λ n e. omega (arith, (range.last m x n e).0));
      }

  past_node : (n : ℕ) → nodes ≤ n → BlankNode r n
  past_node n past =
      record {
        cost = no_value (r.cost n) (λ c e. omega (arith, (range.cost n c e).0));
        before = no_value (r.before n) (λ u e. omega (arith, (range.before n u e).0));
        by = no_value (r.by n) (λ x e. omega (arith, (range.by n x e).0));
      }

  -- the rows of machines in use and of nodes that are reached
  machine_started : (m f : ℕ) → t.start m ≡ some f → Started t r m f
  machine_started m f start = started t r m f (machine_passes m (s.machine_range m f start)) start

  node_reached : (n m f c : ℕ) → t.owner n ≡ some m → t.start m ≡ some f → r.cost n ≡ some c → Reached t r m f n c
  node_reached n m f c own start cost = reached t r n m f c (node_passes n (s.node_range n m own)) own start cost

  -- the blank rule, and both halves of the local conditions
  blanks_true : BlankRule t r
  blanks_true =
      record {
        unused_stale = λ m unused. fresh m;
        unused_machine_lem =
            λ m unused. ⊎_elim (λ small. unused_machine_lem t r m (machine_passes m small) unused) (past_machine m) (under_or_past m machines);
        unused_node_lem = λ n unused. ⊎_elim (λ small. unused_node_lem t r n (node_passes n small) unused) (past_node n) (under_or_past n nodes);
        stale_machine = λ m stale. absurd (true_false stale (fresh m));
        stale_node = λ n m own stale. absurd (true_false stale (fresh m));
      }

  relaxed_true : (m f : ℕ) → t.start m ≡ some f → Relaxed t r m f
  relaxed_true m f start =
      record {
        start_cost = (machine_started m f start).cost;
        moves =
            λ n c x b own cost step.
            let parts = move_parts t r n x step in
            let small = counting_range s n x parts.transition parts.has in
            accounted_true (move t r) r.cost n c x ((node_reached n m f c own start cost).moves x small) step;
        exits = λ n c x e own cost small free exit. left_true t r m n c x ((node_reached n m f c own start cost).exits x small) free exit;
      }

  attained_true : (m f : ℕ) → t.start m ≡ some f → Attained t r m f
  attained_true m f start =
      let row = machine_started m f start in
      record {
        start_cost = row.cost;
        start_before = row.before;
        start_by = row.by;
        named = λ n c own other cost. (node_reached n m f c own start cost).named other;
        chain = λ n c own cost. (node_reached n m f c own start cost).chain;
        unreached = λ n own missing. unreached_node t r n m (node_passes n (s.node_range n m own)) own missing;
        ended = λ x c small exit. ended_true t r m x c (row.ended x small) exit;
        no_exit = λ x small exit. no_exit_true t r m x (row.ended x small) exit;
      }

  pub rows_true : TrueRows t r
  rows_true =
      local_true s r
      (record {
        blanks = blanks_true;
        stale_above = λ m p stale up. absurd (true_false stale (fresh m));
        relaxed = λ m f start full. relaxed_true m f start;
        attained = λ m f start full. attained_true m f start;
      })

-- ---- tables that pass

module _ (t : Tree) (s : Sound t) (table : Rows) (test : rows_test t (fresh_rows table) ≡ true) where
  -- their rows are true
  pub tested_rows : TrueRows t (fresh_rows table)
  tested_rows = rows_true t s (fresh_rows table) (fresh_range table) (fresh_stale table) test

  -- what stands there are the exit costs
  pub tested_exit : (m f x : ℕ) (o : Option ℕ) → t.start m ≡ some f → x < commands → (fresh_rows table).exit m x ≡ o → ExitCost t m x o
  tested_exit m f x o start small value = subst (ExitCost t m x) value ((tested_rows.filled m f start (fresh_stale table m)).exit x small)

  -- the words are a true sheet
  pub tested_sheet : TrueSheet t (encode_rows (fresh_rows table))
  tested_sheet = rows_sheet t (fresh_rows table) (fresh_range table) tested_rows

  -- on which Plan finds no way where there is none
  pub tested_refused : (a b : ℕ) → is_state t a ≡ true → is_state t b ≡ true → LeastCost t a b none → (buffer : List ℕ)
      → states t - 1 ≤ length buffer → PlanSays (encode t) (encode_rows (fresh_rows table)) a b buffer (refuses 16) buffer
  tested_refused = plan_refused t s (fresh_rows table) (fresh_range table) (fresh_stale table) tested_rows
