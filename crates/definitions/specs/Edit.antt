-- Document 01, "Loading a stream", with document 02's holds (W-205) and leaving charges (W-207): the refusals 6 to 12 and 21 of each command, what it
-- does to the tree, and which rows it marks and blanks. The same definitions make Load's promise and the expected station of demand 3.
use Rattle.std.specs.Prelude.{◌≡◌, Bool, true, false, cond, not, ◌&&◌, ◌||◌, List, [], ◌∷◌, ℕ, eqb, ltb}
use Rattle.std.proofs.Math.Option.{Option, none, some}
use Rattle.definitions.specs.Basics.{option, unless, is_some, is_at, put, any_below}
use Rattle.definitions.specs.Limits.{machines, nodes, commands, levels}
use Rattle.definitions.specs.Tree.{Tree, Transition, with_root, with_owner, with_below, with_transitions, with_node_hold, with_start_of, with_holder, with_leave}
use Rattle.definitions.specs.Tree.{used_machine, used_node, on_hold, level, within, over, unless_into, Sound}
use Rattle.definitions.specs.Sheet.{Rows}
use Rattle.definitions.specs.Truth.{TrueRows}
use Rattle.definitions.specs.Stream.{Edit, begin, add, refine, remove, arrow, clear, start, crown, hold, leave, Command, edit, refresh}

infix 5 ◌when◌
-- a number that a command is refused with, and the test for it
pub data Test : Type 0 where
  ◌when◌ : ℕ → Bool → Test

-- the number of the first test that holds; 0 where none does
unfoldable pub first_holding : List Test → ℕ
first_holding [] = 0
first_holding ((k when b) ∷ rest) = cond b k (first_holding rest)

-- a machine, a node, a command, a hold that is out of range
abbrev pub bad_machine : ℕ → Bool
bad_machine m = not (ltb m machines)

abbrev pub bad_node : ℕ → Bool
bad_node n = not (ltb n nodes)

abbrev pub bad_command : ℕ → Bool
bad_command x = not (ltb x commands)

abbrev pub bad_hold : ℕ → Bool
bad_hold b = not (ltb b 2)

-- whether a node is the start node of its machine
abbrev pub is_start : Tree → ℕ → Bool
is_start t n = option false (λ m. is_at (t.start m) n) (t.owner n)

-- whether two nodes in use belong to different machines
abbrev pub apart : Tree → ℕ → ℕ → Bool
apart t n v = option true (λ m. not (is_at (t.owner v) m)) (t.owner n)

-- whether a node in use stands at the lowest level that may be
abbrev pub lowest : Tree → ℕ → Bool
lowest t n = used_node t n && eqb (level t n) levels

-- whether some node stands there, so that no machine fits above the root
abbrev pub any_lowest : Tree → Bool
any_lowest t = any_below nodes (lowest t)

-- the refusals of each command in their order: 6 (number out of range), 7 (machine or node not in use), 8 (new number in use),
-- 9 (already refined), 10 (a start node), 11 (target in another machine), 12 (over 8 levels); 21 (document 02, W-205: a hold of 1 on a start
-- node, or a held node made a start), after 7. A hold is 1 or 0; another byte is 6, and so is a leaving charge for the root (W-207)
unfoldable pub refusals : Tree → Edit → List Test
refusals t (begin m n) = (6 when (bad_machine m || bad_node n)) ∷ []
refusals t (add m n) =
    (6 when (bad_machine m || bad_node n)) ∷ (7 when not (used_machine t m)) ∷ (8 when used_node t n) ∷ []
refusals t (refine n m s) =
    (6 when (bad_node n || bad_machine m || bad_node s)) ∷ (7 when not (used_node t n)) ∷ (8 when (used_machine t m || used_node t s))
    ∷ (9 when is_some (t.below n)) ∷ (12 when lowest t n) ∷ []
refusals t (remove n) = (6 when bad_node n) ∷ (7 when not (used_node t n)) ∷ (10 when is_start t n) ∷ []
refusals t (arrow n x v c) =
    (6 when (bad_node n || bad_command x || bad_node v)) ∷ (7 when (not (used_node t n) || not (used_node t v))) ∷ (11 when apart t n v) ∷ []
refusals t (clear n x) = (6 when (bad_node n || bad_command x)) ∷ (7 when not (used_node t n)) ∷ []
refusals t (start n) = (6 when bad_node n) ∷ (7 when not (used_node t n)) ∷ (21 when on_hold t n) ∷ []
refusals t (crown m n) =
    (6 when (bad_machine m || bad_node n)) ∷ (8 when (used_machine t m || used_node t n)) ∷ (12 when any_lowest t) ∷ []
refusals t (hold n b) =
    (6 when (bad_node n || bad_hold b)) ∷ (7 when not (used_node t n)) ∷ (21 when (eqb b 1 && is_start t n)) ∷ []
refusals t (leave m c) = (6 when (bad_machine m || eqb m t.root)) ∷ (7 when not (used_machine t m)) ∷ []

-- the number that a command is refused with; 0 where it is taken
unfoldable pub refusal : Tree → Command → ℕ
refusal t (edit e) = first_holding (refusals t e)
refusal t refresh = 0

-- one machine, as root, with one node, its start; nothing is held, and leaving costs nothing (document 02, W-205, W-207)
unfoldable pub single : ℕ → ℕ → Tree
single m n =
    record {
      root = m;
      owner = put (λ k. none) n (some m);
      below = λ k. none;
      start = put (λ k. none) m (some n);
      holder = λ k. none;
      transition = λ k x. none;
      hold = λ k. 0;
      leave = λ k. 0;
    }

-- whether a machine is held by node n or by a node below it
abbrev pub held_within : Tree → ℕ → ℕ → Bool
held_within t n m = option false (within t n) (t.holder m)

-- the tree where the nodes that pass the first test and the machines that pass the second are no longer in use, with nothing in their records
abbrev pub emptied : Tree → (ℕ → Bool) → (ℕ → Bool) → Tree
emptied t p q =
    record {
      root = t.root;
      owner = λ k. unless (p k) (t.owner k);
      below = λ k. unless (p k) (t.below k);
      start = λ m. unless (q m) (t.start m);
      holder = λ m. unless (q m) (t.holder m);
      transition = λ k x. unless (p k) (t.transition k x);
      hold = λ k. cond (p k) 0 (t.hold k);
      leave = λ m. cond (q m) 0 (t.leave m);
    }

-- the tree without node n, all below it, their holds and leaving charges (document 02, W-205, W-207), and the transitions into it
unfoldable pub without : Tree → ℕ → Tree
without t n =
    with_transitions (emptied t (within t n) (held_within t n)) (λ k x. unless (within t n k) (unless_into (λ v. eqb v n) (t.transition k x)))

-- the tree with o as the transition of node n for x
unfoldable pub with_transition : Tree → ℕ → ℕ → Option Transition → Tree
with_transition t n x o = with_transitions t (put t.transition n (put (t.transition n) x o))

-- the tree with node n as the start of its machine
unfoldable pub with_start : Tree → ℕ → Tree
with_start t n = option t (λ m. with_start_of t m (some n)) (t.owner n)

-- the tree with node n of machine m, its start (and its one node where m was not in use)
abbrev pub with_machine : Tree → ℕ → ℕ → Tree
with_machine t m n = with_start_of (with_owner t n (some m)) m (some n)

-- the tree with machine m below node n
abbrev pub with_held : Tree → ℕ → ℕ → Tree
with_held t n m = with_holder (with_below t n (some m)) m (some n)

-- The tree after an edit that is taken. A number that is not in use has no machine below it, no transitions, no hold, no nodes, and leaving it costs 0
-- (Sound). So a new node has no transitions and no hold and, but for crown's, is plain, and a new machine has only its start node, and leaving it
-- costs 0, as leaving the root does: crown leaves the old root's charge 0. A refined node keeps its transitions and its hold. 0x1A sets the hold,
-- 0x1B the leaving charge (document 02, W-205, W-207).
unfoldable pub edited : Tree → Edit → Tree
edited t (begin m n) = single m n
edited t (add m n) = with_owner t n (some m)
edited t (refine n m s) = with_held (with_machine t m s) n m
edited t (remove n) = without t n
edited t (arrow n x v c) = with_transition t n x (some (record { target = v; cost = c }))
edited t (clear n x) = with_transition t n x none
edited t (start n) = with_start t n
edited t (crown m n) = with_root (with_held (with_machine t m n) n t.root) m
edited t (hold n b) = with_node_hold t n b
edited t (leave m c) = with_leave t m c

-- the tree after a command that is taken; a refresh changes nothing
abbrev pub tree_after : Tree → Command → Tree
tree_after t (edit e) = edited t e
tree_after t refresh = t

-- a hold and its release (document 02, W-205): where 0x1A 1 is taken on a node that is not held, 0x1A 0 is taken after it and gives back the
-- tree
abbrev pub HoldReleased : Type 0
HoldReleased =
    (t : Tree) (n : ℕ) → Sound t → on_hold t n ≡ false → refusal t (edit (hold n 1)) ≡ 0
    → (refusal (edited t (hold n 1)) (edit (hold n 0)) ≡ 0) × (edited (edited t (hold n 1)) (hold n 0) ≡ t)

-- whether an edit marks machine p: new machines, the machine edited and all above it; crown marks only the new root; a hold marks as a
-- transition's edit does, a leaving charge as any edit of its machine (document 02, W-205, W-207)
unfoldable pub touches : Tree → Edit → ℕ → Bool
touches t (begin m n) p = eqb p m
touches t (add m n) p = option false (over t p) (t.start m)
touches t (refine n m s) p = eqb p m || over t p n
touches t (remove n) p = over t p n
touches t (arrow n x v c) p = over t p n
touches t (clear n x) p = over t p n
touches t (start n) p = over t p n
touches t (crown m n) p = eqb p m
touches t (hold n b) p = over t p n
touches t (leave m c) p = option false (over t p) (t.start m)

-- the rows where the machines in use that pass the test are marked and blanked, and unused machines and nodes are blank, mark 0
unfoldable pub with_stale : Tree → (ℕ → Bool) → Rows → Rows
with_stale t touched r =
    record {
      stale = λ m. used_machine t m && (touched m || r.stale m);
      exit = λ m x. unless (not (used_machine t m) || touched m) (r.exit m x);
      last = λ m x. unless (not (used_machine t m) || touched m) (r.last m x);
      cost = λ n. unless (option true touched (t.owner n)) (r.cost n);
      before = λ n. unless (option true touched (t.owner n)) (r.before n);
      by = λ n. unless (option true touched (t.owner n)) (r.by n);
    }

-- the rows after an edit
unfoldable pub edited_rows : Tree → Edit → Rows → Rows
edited_rows t e r = with_stale (edited t e) (touches t e) r

-- a refresh: every stale row is filled and no longer stale, and no other row is touched
pub record Refreshed (t : Tree) (r after : Rows) : Type 0 where
  pub filled : TrueRows t after
  pub fresh : (m : ℕ) → after.stale m ≡ false
  pub exit_kept : (m x : ℕ) → r.stale m ≡ false → after.exit m x ≡ r.exit m x
  pub last_kept : (m x : ℕ) → r.stale m ≡ false → after.last m x ≡ r.last m x
  pub cost_kept : (n m : ℕ) → t.owner n ≡ some m → r.stale m ≡ false → after.cost n ≡ r.cost n
  pub before_kept : (n m : ℕ) → t.owner n ≡ some m → r.stale m ≡ false → after.before n ≡ r.before n
  pub by_kept : (n m : ℕ) → t.owner n ≡ some m → r.stale m ≡ false → after.by n ≡ r.by n

-- the rows that a command that is taken leaves: those of the edit, or for refresh any that document 01 leaves free
abbrev pub RowsAfter : Tree → Command → Rows → Rows → Type 0
RowsAfter t (edit e) r after = after ≡ edited_rows t e r
RowsAfter t refresh r after = Refreshed t r after
