-- Document 02, W-201: Merge, one book from two. The first keeps its numbers, the second's move, and a new root stands above both.
use Rattle.std.specs.Prelude.{◌≡◌, Bool, true, false, not, cond, ◌&&◌, ◌||◌, List, [], ◌∷◌, ℕ, zero, suc, ◌+◌, ◌≤◌, eqb, ltb, length}
use Rattle.std.proofs.Math.Option.{Option, none, some}
use Rattle.definitions.specs.Basics.{◌>>=◌, option, or_else, count_below}
use Rattle.definitions.specs.Limits.{machines, nodes, book_length}
use Rattle.definitions.specs.Tree.{Tree, Transition, with_nodes, with_machines, used_machine, used_node, UsedMachine, is_state}
use Rattle.definitions.specs.Costs.{LeastCost}
use Rattle.definitions.specs.Book.{encode, tree_of, WellFormed}
use Rattle.definitions.specs.Sheet.{rows_of, encode_rows}
use Rattle.definitions.specs.Truth.{TrueSheet}
use Rattle.definitions.specs.Stream.{add, crown}
use Rattle.definitions.specs.Edit.{any_lowest, edited, with_held}
use Rattle.definitions.specs.Open.{open_rows}
use Rattle.definitions.specs.Answer.{Refusal, asks, InOrder}
use Rattle.definitions.specs.Calls.{RightLengths}

-- ---- new numbers

-- the number under the limit that passes the test and has j such numbers below it: the one of rank j
unfoldable pub ranked : ℕ → (ℕ → Bool) → ℕ → Option ℕ
ranked zero p j = none
ranked (suc k) p j = cond (p k && eqb (count_below k p) j) (some k) (ranked k p j)

-- where number d moves if the numbers that pass the first test move, in rising order, to the lowest that pass the second: to the one of its
-- own rank; none where d does not pass
unfoldable pub moved : ℕ → (ℕ → Bool) → (ℕ → Bool) → ℕ → Option ℕ
moved limit p q d = cond (p d) (ranked limit q (count_below d p)) none

-- where numbers move, and which number moved to a number
pub record Renumbering : Type 0 where
  pub to : ℕ → Option ℕ
  pub from : ℕ → Option ℕ

-- the numbers that pass the first test move so
unfoldable pub rising : ℕ → (ℕ → Bool) → (ℕ → Bool) → Renumbering
rising limit p q = record { to = moved limit p q; from = moved limit q p }

-- the numbers that a tree does not use
abbrev pub unused_machine : Tree → ℕ → Bool
unused_machine t m = ltb m machines && not (used_machine t m)

abbrev pub unused_node : Tree → ℕ → Bool
unused_node t n = ltb n nodes && not (used_node t n)

-- how many machines and nodes a tree uses
abbrev pub machine_count : Tree → ℕ
machine_count t = count_below machines (used_machine t)

abbrev pub node_count : Tree → ℕ
node_count t = count_below nodes (used_node t)

-- the second tree's machines and nodes move to the lowest numbers that the first does not use
abbrev pub machine_moves : Tree → Tree → Renumbering
machine_moves t u = rising machines (used_machine u) (unused_machine t)

abbrev pub node_moves : Tree → Tree → Renumbering
node_moves t u = rising nodes (used_node u) (unused_node t)

-- ---- the merged tree

-- a transition whose target has moved
abbrev pub moved_transition : (ℕ → Option ℕ) → Transition → Option Transition
moved_transition to a = to a.target >>= λ v. some (record { target = v; cost = a.cost })

-- the tree at other numbers, its root at number r; a hold goes with its node, a leaving charge with its machine (document
-- 02, W-205, W-207)
unfoldable pub renumbered : Renumbering → Renumbering → ℕ → Tree → Tree
renumbered ms ns r t =
    record {
      root = r;
      owner = λ n. ns.from n >>= t.owner >>= ms.to;
      below = λ n. ns.from n >>= t.below >>= ms.to;
      start = λ m. ms.from m >>= t.start >>= ns.to;
      holder = λ m. ms.from m >>= t.holder >>= ns.to;
      transition = λ n x. ns.from n >>= λ k. t.transition k x >>= moved_transition ns.to;
      hold = λ n. option 0 t.hold (ns.from n);
      leave = λ m. option 0 t.leave (ms.from m);
    }

-- the tree, and in each field where it has nothing what another tree has there; its own root stays. Holds and leaving
-- charges are added: the two use no number in common, so one of the two is 0 (document 02, W-205, W-207: a merge carries them along)
unfoldable pub beside : Tree → Tree → Tree
beside t u =
    with_machines
    (with_nodes t (λ n. or_else (t.owner n) (u.owner n)) (λ n. or_else (t.below n) (u.below n))
    (λ n x. or_else (t.transition n x) (u.transition n x)) (λ n. t.hold n + u.hold n))
    (λ m. or_else (t.start m) (u.start m)) (λ m. or_else (t.holder m) (u.holder m)) (λ m. t.leave m + u.leave m)

-- the first tree below node a of the new root r, a its start, and the second, whose root moved to s, below r's other node b
unfoldable pub under_new_root : Tree → Tree → (r a b s : ℕ) → Tree
under_new_root t u r a b s =
    with_held (beside (edited (edited t (crown r a)) (add r b)) (renumbered (machine_moves t u) (node_moves t u) s u)) b s

-- the merged tree: the new root and its nodes, the lower first, take the next lowest numbers after the second tree's
unfoldable pub merged : Tree → Tree → Option Tree
merged t u =
    ranked machines (unused_machine t) (machine_count u) >>= λ r.
    ranked nodes (unused_node t) (node_count u) >>= λ a.
    ranked nodes (unused_node t) (node_count u + 1) >>= λ b.
    (machine_moves t u).to u.root >>= λ s. some (under_new_root t u r a b s)

-- ---- the call

-- the first tree leaves unused at least one machine more than the second has, and at least two nodes more
abbrev pub Enough : Tree → Tree → Type 0
Enough t u = (machine_count u + 1 ≤ count_below machines (unused_machine t)) × (node_count u + 2 ≤ count_below nodes (unused_node t))

-- the refusals of two trees: 12 (either has a machine at level 8, so that there would be 9), 19 (fewer than the numbers needed)
abbrev pub tree_refusals : Tree → Tree → List Refusal
tree_refusals t u = asks 12 ((any_lowest t || any_lowest u) ≡ false) ∷ asks 19 (Enough t u) ∷ []

-- and of the call: before them 1 (a wrong length of any of the four lists), 2 for the first book, 2 for the second. What the third's lists held
-- before is not judged
abbrev pub merge_refusals : List ℕ → List ℕ → List ℕ → List ℕ → List Refusal
merge_refusals first second book sheet =
    asks 1 ((length first ≡ book_length) × (length second ≡ book_length) × RightLengths book sheet)
    ∷ asks 2 (WellFormed first)
    ∷ asks 2 (WellFormed second)
    ∷ tree_refusals (tree_of first) (tree_of second)

-- the merged tree's book and the sheet of an opening: every machine in use marked, all else blank
abbrev pub MergeDone : Tree → Tree → ℕ → List ℕ → List ℕ → Type 0
MergeDone t u number book' sheet' =
    (w : Tree) × (merged t u ≡ some w) × (number ≡ 0) × (book' ≡ encode w) × (sheet' ≡ encode_rows (open_rows w))

-- Merge of two books into a third book and its sheet: the number, and the third's two lists after the call
abbrev pub MergeSays : List ℕ → List ℕ → List ℕ → List ℕ → ℕ → List ℕ → List ℕ → Type 0
MergeSays first second book sheet number book' sheet' =
    InOrder (merge_refusals first second book sheet)
    (λ k. (number ≡ k) × (book' ≡ book) × (sheet' ≡ sheet))
    (MergeDone (tree_of first) (tree_of second) number book' sheet')

-- ---- what a merge keeps

-- states of tree t are states of tree u, at the numbers that `at` gives, and the least cost from one to another, or that there is no way, is
-- the same in both
pub record SameCosts (t u : Tree) (at : ℕ → Option ℕ) : Type 0 where
  pub state : (n : ℕ) → is_state t n ≡ true → (k : ℕ) × (at n ≡ some k) × (is_state u k ≡ true)
  pub there : (a b c d : ℕ) (o : Option ℕ) → is_state t a ≡ true → is_state t b ≡ true → at a ≡ some c → at b ≡ some d
      → LeastCost t a b o → LeastCost u c d o
  pub back : (a b c d : ℕ) (o : Option ℕ) → is_state t a ≡ true → is_state t b ≡ true → at a ≡ some c → at b ≡ some d
      → LeastCost u c d o → LeastCost t a b o

-- the third book is well formed, its sheet is true with every machine in use marked, and costs between states of one old book are the old ones,
-- "no way" included
pub record MergeLeaves (first second book sheet : List ℕ) : Type 0 where
  pub well_formed : WellFormed book
  pub true_sheet : TrueSheet (tree_of book) sheet
  pub marked : (m : ℕ) → UsedMachine (tree_of book) m → (rows_of sheet).stale m ≡ true
  pub first_costs : SameCosts (tree_of first) (tree_of book) some
  pub second_costs : SameCosts (tree_of second) (tree_of book) (node_moves (tree_of first) (tree_of second)).to

-- W-201's claim, of every merge that is done
abbrev pub MergeKeeps : Type 0
MergeKeeps =
    (first second book sheet book' sheet' : List ℕ) → MergeSays first second book sheet 0 book' sheet' → MergeLeaves first second book' sheet'
