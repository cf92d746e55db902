-- What a book's words are after a store: the tree with one field changed at one number, and trees that say nothing of a number.
use Rattle.std.specs.Prelude.{◌≡◌, List, ℕ, zero, suc, length}
use Rattle.std.proofs.Math.Option.{none}
use Rattle.definitions.specs.Basics.{put}
use Rattle.definitions.specs.Limits.{book_length}
use Rattle.definitions.specs.Tree.{Tree, with_nodes, with_machines, with_owner, with_below, with_transitions, with_start_of, with_holder}
use Rattle.definitions.specs.Book.{number, transition_of, tree_of}
use Rattle.definitions.specs.Edit.{with_transition}

-- a book's words hold tree t
pub record Holds (ws : List ℕ) (t : Tree) : Type 0 where
  pub length : length ws ≡ book_length
  pub tree : tree_of ws ≡ t

-- the tree where node n has no transition
abbrev pub without_transitions : Tree → ℕ → Tree
without_transitions t n = with_transitions t (put t.transition n (λ x. none))

-- the tree where the word at a place of machine m's record is v, and the same of node n's record
abbrev pub with_machine_field : Tree → ℕ → ℕ → ℕ → Tree
with_machine_field t m zero v = with_holder t m (number v)
with_machine_field t m (suc k) v = with_start_of t m (number v)

abbrev pub with_node_field : Tree → ℕ → ℕ → ℕ → Tree
with_node_field t n zero v = with_owner t n (number v)
with_node_field t n (suc zero) v = with_below t n (number v)
with_node_field t n (suc (suc x)) v = with_transition t n x (transition_of v)

-- the tree where nothing is said of machine m, and the same of node n: an unused record
abbrev pub without_machine : Tree → ℕ → Tree
without_machine t m = with_machines t (put t.start m none) (put t.holder m none) (put t.leave m 0)

abbrev pub without_node : Tree → ℕ → Tree
without_node t n = with_nodes t (put t.owner n none) (put t.below n none) (put t.transition n (λ x. none)) (put t.hold n 0)
