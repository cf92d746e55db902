-- `book::node_word` meets its contract: the index is the one that the layout gives. Assumes nothing.
use mathlib.Core.Path.{sym, ◌∙◌, ap}
use Prim.Native.Nat.{ℕ}
use native.Mathlib.Omega.{arith}
use lib.ListN.{get_or}
use Rattle.definitions.specs.Book.{node_word}
use Rattle.definitions.proofs.Words.{tree_of_node}
use Rattle.book.proofs.node_word.Goals as goal

pub returns : goal.returns
unfolding node_word
returns c =
    let a = c.args in
    let p = c.requires in
    ap (λ (i : ℕ). get_or a.book.now i 0) (omega arith) ∙ sym (tree_of_node a.book.now a.n a.k p.1 p.2)
