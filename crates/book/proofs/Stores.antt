-- What the tree of a book is after one word of it is written. Assumes nothing.
use mathlib.Core.Path.{◌≡◌, ap, ◌∙◌}
use mathlib.Core.Bool.{cond}
use mathlib.Core.Option.{Option, none}
use mathlib.Core.List.{List}
use Prim.Native.Nat.{ℕ, zero, suc, ◌+◌, ◌*◌, ◌≤◌, ◌<◌}
use native.Mathlib.Omega.{arith}
use lib.Dec.{ltb}
use lib.ListN.{length, get_or, set, length-set}
use lib.Seq.{get_or-set_same, get_or-set_other}
use Rattle.definitions.specs.Basics.{put}
use Rattle.definitions.specs.Limits.{machines, nodes, commands, book_length}
use Rattle.definitions.specs.Tree.{Tree, Transition, with_root, with_nodes, with_machines, with_transitions, with_node_hold, with_leave}
use Rattle.definitions.specs.Book.{machine_fields, node_fields, machine_base, node_base, hold_base, leave_base, machine_word, node_word, hold_word, leave_word}
use Rattle.definitions.specs.Book.{number, transition_of, under, tree_of}
use Rattle.definitions.specs.Edit.{with_transition}
use Rattle.definitions.proofs.Words.{same_tree}
use Rattle.book.specs.Fields.{Holds, with_machine_field, with_node_field, without_transitions}
use Rattle.book.proofs.Places.{kept, kept_grid, changed, Apart, place_same, field_put, field_kept, grid_put, grid_kept}
use Rattle.book.proofs.Places.{cleared_to, cleared_more, cleared_all, grid_past}

-- where word k of a machine's record stands, and that each has a place of its own; the same of a node's
abbrev machine_place : ℕ → ℕ → ℕ
machine_place m k = machine_base + m * machine_fields + k

machine_apart : Apart machine_place machine_fields
machine_apart m k i j hk hj e = place_same machine_fields m k i j hk hj (omega arith)

abbrev node_place : ℕ → ℕ → ℕ
node_place n k = node_base + n * node_fields + k

node_apart : Apart node_place node_fields
node_apart n k i j hk hj e = place_same node_fields n k i j hk hj (omega arith)

-- a store before the nodes' words leaves what is read of them
node_far : {A : Type 0} (ws : List ℕ) (p v : ℕ) → p < node_base → (f : ℕ → A) (n k : ℕ) → f (node_word (set ws p v) n k) ≡ f (node_word ws n k)
unfolding node_word
node_far ws p v h f n k = ap f (get_or-set_other ws p (node_place n k) v 0 (omega arith))

-- a store outside the machines' words leaves the numbers that are read of them
machine_far : (ws : List ℕ) (p v k m : ℕ) → (m < machines → machine_place m k ≡ p → ⊥)
    → under machines m (number (machine_word (set ws p v) m k)) ≡ under machines m (number (machine_word ws m k))
unfolding under machine_word
machine_far ws p v k m apart =
    kept machines m number none (λ hm. get_or-set_other ws p (machine_place m k) v 0 (apart hm))

-- a store before the holds leaves them
hold_far : (ws : List ℕ) (p v : ℕ) → p < hold_base → (n : ℕ) → (tree_of (set ws p v)).hold n ≡ (tree_of ws).hold n
unfolding tree_of hold_word
hold_far ws p v h n = ap (λ w. cond (ltb n nodes) w 0) (get_or-set_other ws p (hold_base + n) v 0 (omega arith))

-- and one before the leaving costs leaves these
leave_far : (ws : List ℕ) (p v : ℕ) → p < leave_base → (m : ℕ) → (tree_of (set ws p v)).leave m ≡ (tree_of ws).leave m
unfolding tree_of leave_word
leave_far ws p v h m = ap (λ w. cond (ltb m machines) w 0) (get_or-set_other ws p (leave_base + m) v 0 (omega arith))

-- a store among the holds or behind them leaves the nodes' words
node_same : (ws : List ℕ) (p v : ℕ) → hold_base ≤ p → (n k : ℕ) → n < nodes → k < node_fields → node_word (set ws p v) n k ≡ node_word ws n k
unfolding node_word
node_same ws p v h n k hn hk = get_or-set_other ws p (node_place n k) v 0 (omega arith)

-- a store before the nodes' words leaves what is said of nodes
nodes_stay : (ws : List ℕ) (p v : ℕ) → p < node_base → {root : ℕ} {start holder : ℕ → Option ℕ} → (tree_of (set ws p v)).root ≡ root
    → ((m : ℕ) → (tree_of (set ws p v)).start m ≡ start m) → ((m : ℕ) → (tree_of (set ws p v)).holder m ≡ holder m)
    → tree_of (set ws p v) ≡ with_machines (with_root (tree_of ws) root) start holder (tree_of ws).leave
unfolding tree_of
nodes_stay ws p v hi root start holder =
    same_tree _ _ root
    (λ n. node_far ws p v hi (λ w. under nodes n (number w)) n 0)
    (λ n. node_far ws p v hi (λ w. under nodes n (number w)) n 1)
    start holder
    (λ n x. node_far ws p v hi (λ w. under nodes n (under commands x (transition_of w))) n (2 + x))
    (hold_far ws p v (omega arith)) (leave_far ws p v (omega arith))

-- a store among the nodes' words and the holds leaves the root and what is said of machines
machines_stay : (ws : List ℕ) (p v : ℕ) → node_base ≤ p → p < leave_base → {owner below : ℕ → Option ℕ} {transition : ℕ → ℕ → Option Transition}
    → {hold : ℕ → ℕ} → ((n : ℕ) → (tree_of (set ws p v)).owner n ≡ owner n) → ((n : ℕ) → (tree_of (set ws p v)).below n ≡ below n)
    → ((n x : ℕ) → (tree_of (set ws p v)).transition n x ≡ transition n x) → ((n : ℕ) → (tree_of (set ws p v)).hold n ≡ hold n)
    → tree_of (set ws p v) ≡ with_nodes (tree_of ws) owner below transition hold
unfolding tree_of
machines_stay ws p v h until owner below transition holds =
    same_tree _ _ (get_or-set_other ws p 0 v 0 (omega arith)) owner below
    (λ m. machine_far ws p v 1 m (omega arith)) (λ m. machine_far ws p v 0 m (omega arith)) transition holds (leave_far ws p v until)

-- the root is written
pub root_store : (ws : List ℕ) (m : ℕ) → length ws ≡ book_length → tree_of (set ws 0 m) ≡ with_root (tree_of ws) m
unfolding tree_of
root_store ws m l =
    nodes_stay ws 0 m (omega arith) (get_or-set_same ws 0 m 0 (omega arith)) (λ k. machine_far ws 0 m 1 k (omega arith))
    (λ k. machine_far ws 0 m 0 k (omega arith))

-- a word of machine m's record is written
pub machine_store : (ws : List ℕ) (m k v : ℕ) → length ws ≡ book_length → m < machines → k < machine_fields
    → tree_of (set ws (machine_place m k) v) ≡ with_machine_field (tree_of ws) m k v
unfolding tree_of machine_word under
machine_store ws m zero v l hm hk =
    nodes_stay ws (machine_place m 0) v (omega arith) (get_or-set_other ws (machine_place m 0) 0 v 0 (omega arith))
    (field_kept machine_place machine_fields machine_apart ws m 0 v hk (omega arith) machines 1 number none (omega arith) (omega arith))
    (field_put machine_place machine_fields machine_apart ws m 0 v hk (omega arith) machines number none hm)
machine_store ws m (suc zero) v l hm hk =
    nodes_stay ws (machine_place m 1) v (omega arith) (get_or-set_other ws (machine_place m 1) 0 v 0 (omega arith))
    (field_put machine_place machine_fields machine_apart ws m 1 v hk (omega arith) machines number none hm)
    (field_kept machine_place machine_fields machine_apart ws m 1 v hk (omega arith) machines 0 number none (omega arith) (omega arith))
machine_store ws m (suc (suc k)) v l hm hk = absurd (omega arith)

-- a word of node n's record is written
pub node_store : (ws : List ℕ) (n k v : ℕ) → length ws ≡ book_length → n < nodes → k < node_fields
    → tree_of (set ws (node_place n k) v) ≡ with_node_field (tree_of ws) n k v
unfolding tree_of node_word under with_transition
node_store ws n zero v l hn hk =
    machines_stay ws (node_place n 0) v (omega arith) (omega arith)
    (field_put node_place node_fields node_apart ws n 0 v hk (omega arith) nodes number none hn)
    (field_kept node_place node_fields node_apart ws n 0 v hk (omega arith) nodes 1 number none (omega arith) (omega arith))
    (grid_kept node_place node_fields node_apart ws n 0 v hk (omega arith) nodes commands 2 transition_of (omega arith) (omega arith))
    (hold_far ws (node_place n 0) v (omega arith))
node_store ws n (suc zero) v l hn hk =
    machines_stay ws (node_place n 1) v (omega arith) (omega arith)
    (field_kept node_place node_fields node_apart ws n 1 v hk (omega arith) nodes 0 number none (omega arith) (omega arith))
    (field_put node_place node_fields node_apart ws n 1 v hk (omega arith) nodes number none hn)
    (grid_kept node_place node_fields node_apart ws n 1 v hk (omega arith) nodes commands 2 transition_of (omega arith) (omega arith))
    (hold_far ws (node_place n 1) v (omega arith))
node_store ws n (suc (suc x)) v l hn hk =
    let k : ℕ = suc (suc x) in
    machines_stay ws (node_place n k) v (omega arith) (omega arith)
    (field_kept node_place node_fields node_apart ws n k v hk (omega arith) nodes 0 number none (omega arith) (omega arith))
    (field_kept node_place node_fields node_apart ws n k v hk (omega arith) nodes 1 number none (omega arith) (omega arith))
    (grid_put node_place node_fields node_apart ws n k v hk (omega arith) nodes commands 2 x transition_of hn (omega arith) (omega arith)
    (omega arith))
    (hold_far ws (node_place n k) v (omega arith))

-- the hold of node n is written
hold_store : (ws : List ℕ) (n v : ℕ) → length ws ≡ book_length → n < nodes → tree_of (set ws (hold_base + n) v) ≡ with_node_hold (tree_of ws) n v
unfolding tree_of under hold_word
hold_store ws n v l hn =
    let p : ℕ = hold_base + n in
    machines_stay ws p v (omega arith) (omega arith) (λ i. kept nodes i number none (λ hi. node_same ws p v (omega arith) i 0 hi (omega arith)))
    (λ i. kept nodes i number none (λ hi. node_same ws p v (omega arith) i 1 hi (omega arith)))
    (λ i x. kept_grid nodes commands i x transition_of (λ hi hx. node_same ws p v (omega arith) i (2 + x) hi (omega arith)))
    (changed nodes n v (λ w. w) 0 (λ i. get_or ws (hold_base + i) 0) (λ i. get_or (set ws p v) (hold_base + i) 0) hn
    (get_or-set_same ws p v 0 (omega arith)) (λ i hi other. get_or-set_other ws p (hold_base + i) v 0 (λ same. other (omega arith))))

-- the leaving cost of machine m is written
leave_store : (ws : List ℕ) (m v : ℕ) → length ws ≡ book_length → m < machines → tree_of (set ws (leave_base + m) v) ≡ with_leave (tree_of ws) m v
unfolding tree_of under hold_word leave_word
leave_store ws m v l hm =
    let p : ℕ = leave_base + m in
    same_tree _ _ (get_or-set_other ws p 0 v 0 (omega arith))
    (λ i. kept nodes i number none (λ hi. node_same ws p v (omega arith) i 0 hi (omega arith)))
    (λ i. kept nodes i number none (λ hi. node_same ws p v (omega arith) i 1 hi (omega arith)))
    (λ i. machine_far ws p v 1 i (omega arith)) (λ i. machine_far ws p v 0 i (omega arith))
    (λ i x. kept_grid nodes commands i x transition_of (λ hi hx. node_same ws p v (omega arith) i (2 + x) hi (omega arith)))
    (λ i. kept nodes i (λ w. w) 0 (λ hi. get_or-set_other ws p (hold_base + i) v 0 (omega arith)))
    (changed machines m v (λ w. w) 0 (λ i. get_or ws (leave_base + i) 0) (λ i. get_or (set ws p v) (leave_base + i) 0) hm
    (get_or-set_same ws p v 0 (omega arith)) (λ i hi other. get_or-set_other ws p (leave_base + i) v 0 (λ same. other (omega arith))))

-- ---- the same, of the code's indices

pub root_holds : (ws : List ℕ) (m : ℕ) → length ws ≡ book_length → Holds (set ws 0 m) (with_root (tree_of ws) m)
root_holds ws m l = record { length = length-set ws 0 m ∙ l; tree = root_store ws m l }

pub machine_holds : (ws : List ℕ) (m k v : ℕ) → length ws ≡ book_length → m < machines → k < machine_fields
    → Holds (set ws (1 + 2 * m + k) v) (with_machine_field (tree_of ws) m k v)
machine_holds ws m k v l hm hk =
    let at : 1 + 2 * m + k ≡ machine_place m k = omega arith in
    record { length = length-set ws (1 + 2 * m + k) v ∙ l; tree = rw at (machine_store ws m k v l hm hk) }

pub node_holds : (ws : List ℕ) (n k v : ℕ) → length ws ≡ book_length → n < nodes → k < node_fields
    → Holds (set ws (129 + 18 * n + k) v) (with_node_field (tree_of ws) n k v)
node_holds ws n k v l hn hk =
    let at : 129 + 18 * n + k ≡ node_place n k = omega arith in
    record { length = length-set ws (129 + 18 * n + k) v ∙ l; tree = rw at (node_store ws n k v l hn hk) }

pub hold_holds : (ws : List ℕ) (n v : ℕ) → length ws ≡ book_length → n < nodes
    → Holds (set ws (4737 + n) v) (with_node_hold (tree_of ws) n v)
hold_holds ws n v l hn = record { length = length-set ws (4737 + n) v ∙ l; tree = hold_store ws n v l hn }

pub leave_holds : (ws : List ℕ) (m v : ℕ) → length ws ≡ book_length → m < machines
    → Holds (set ws (4993 + m) v) (with_leave (tree_of ws) m v)
leave_holds ws m v l hm = record { length = length-set ws (4993 + m) v ∙ l; tree = leave_store ws m v l hm }

-- ---- one store after the other

-- a store into a book that holds t changes t
pub holds_then : {ws after : List ℕ} {t : Tree} (f : Tree → Tree) → Holds ws t → Holds after (f (tree_of ws)) → Holds after (f t)
holds_then f first second = record { length = second.length; tree = second.tree ∙ ap f first.tree }

-- a book's tree with node n's transitions cleared below command x
abbrev pub cleared_tree : List ℕ → ℕ → ℕ → Tree
cleared_tree ws n x = with_transitions (tree_of ws) (cleared_to (tree_of ws).transition n x)

-- after one command more, and after the last command
pub clearing_more : (ws : List ℕ) (n x : ℕ) {now after : List ℕ} → Holds now (cleared_tree ws n x)
    → Holds after (with_transition (tree_of now) n x none) → Holds after (cleared_tree ws n (x + 1))
unfolding with_transition
clearing_more ws n x first second =
    let then = holds_then (λ t. with_transition t n x none) first second in
    record { length = then.length; tree = then.tree ∙ ap (with_transitions (tree_of ws)) (cleared_more (tree_of ws).transition n x) }

pub clearing_all : (ws : List ℕ) (n x : ℕ) {now : List ℕ} → x ≡ commands → Holds now (cleared_tree ws n x)
    → Holds now (without_transitions (tree_of ws) n)
unfolding tree_of
clearing_all ws n x e held =
    record { length = held.length; tree = held.tree ∙ ap (cleared_tree ws n) e ∙ ap (with_transitions (tree_of ws)) all }
  where
    all : cleared_to (tree_of ws).transition n commands ≡ put (tree_of ws).transition n (λ a. none)
    all =
        cleared_all (tree_of ws).transition n commands
        (λ a past. grid_past nodes commands n a (transition_of (node_word ws n (2 + a))) past)
