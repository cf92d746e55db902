-- What the parts of a merge are lent and leave.
use Rattle.std.specs.Prelude.{◌≡◌, Bool, true, not, cond, ◌&&◌, List, ℕ, ltb}
use Rattle.std.proofs.Math.Option.{some}
use Rattle.definitions.specs.Basics.{count_below}
use Rattle.definitions.specs.Limits.{machines, nodes}
use Rattle.definitions.specs.Tree.{Tree, used_machine, used_node}
use Rattle.definitions.specs.Book.{machine_field, node_field, tree_of, WellFormed}
use Rattle.definitions.specs.Merge.{Renumbering, rising, machine_moves, node_moves, renumbered, beside, under_new_root}
use Rattle.numbering.specs.Tests.{FrontWords, Tells}
use Rattle.merging.specs.declared.Kind.{Kind}
use Rattle.merging.specs.declared.Kind.TheVariants.{Machines, Nodes}

-- ---- machines and nodes

-- how many numbers there are
abbrev pub size_of : Kind → ℕ
size_of Machines = machines
size_of Nodes = nodes

-- those that a tree uses, those that it does not, and how many it uses
abbrev pub used_of : Kind → Tree → ℕ → Bool
used_of Machines = used_machine
used_of Nodes = used_node

abbrev pub unused_of : Kind → Tree → ℕ → Bool
unused_of kind t k = ltb k (size_of kind) && not (used_of kind t k)

abbrev pub count_of : Kind → Tree → ℕ
count_of kind t = count_below (size_of kind) (used_of kind t)

-- where the second book's move
abbrev pub moves_of : Kind → List ℕ → List ℕ → Renumbering
moves_of kind first second = rising (size_of kind) (used_of kind (tree_of second)) (unused_of kind (tree_of first))

-- what a record names: a machine's the nodes that hold it and start it, a node's its machine and the one below it
abbrev pub named_by : Kind → Kind
named_by Machines = Nodes
named_by Nodes = Machines

-- a word of a record
abbrev pub field_of : Kind → Tree → ℕ → ℕ → ℕ
field_of Machines = machine_field
field_of Nodes = node_field

-- what leaving a machine costs, and a node's hold
abbrev pub charge_of : Kind → Tree → ℕ → ℕ
charge_of Machines t = t.leave
charge_of Nodes t = t.hold

-- ---- lists

-- the list has 1 for each number under the limit that passes the test, and 0 for the others
abbrev pub Flags : ℕ → (ℕ → Bool) → List ℕ → Type 0
Flags limit p = FrontWords limit limit (λ k. cond (p k) 1 0)

-- the list says where the machines or nodes of the second book move, and which moved to a number
abbrev pub To : Kind → List ℕ → List ℕ → List ℕ → Type 0
To kind first second list = Tells (size_of kind) (moves_of kind first second).to list

abbrev pub From : Kind → List ℕ → List ℕ → List ℕ → Type 0
From kind first second list = Tells (size_of kind) (moves_of kind first second).from list

-- there is a number for each node of the second book to move to
abbrev pub NodesMove : List ℕ → List ℕ → Type 0
NodesMove first second = (n : ℕ) → used_node (tree_of second) n ≡ true → (k : ℕ) × ((node_moves (tree_of first) (tree_of second)).to n ≡ some k)

-- two well-formed books with all four lists
pub record MoveLists (first second machine_to machine_from node_to node_from : List ℕ) : Type 0 where
  pub first_formed : WellFormed first
  pub second_formed : WellFormed second
  pub machines_go : To Kind.Machines first second machine_to
  pub machines_came : From Kind.Machines first second machine_from
  pub nodes_go : To Kind.Nodes first second node_to
  pub nodes_came : From Kind.Nodes first second node_from

-- ---- trees

-- the first book's tree, and beside it the second's at its new numbers, s its root's
abbrev pub beside_tree : List ℕ → List ℕ → ℕ → Tree
beside_tree first second s =
    beside (tree_of first) (renumbered (machine_moves (tree_of first) (tree_of second)) (node_moves (tree_of first) (tree_of second)) s (tree_of second))

-- the same with the new root r above both, its nodes a and b
abbrev pub rooted_tree : List ℕ → List ℕ → (r a b s : ℕ) → Tree
rooted_tree first second = under_new_root (tree_of first) (tree_of second)
