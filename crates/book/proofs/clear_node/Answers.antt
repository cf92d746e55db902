-- `book::clear_node` meets its contract: two stores, its transitions cleared, and its hold. Assumes nothing.
use mathlib.Core.Option.{none}
use Rattle.definitions.specs.Tree.{with_below, with_node_hold}
use Rattle.definitions.specs.Book.{number}
use Rattle.book.specs.Fields.{without_transitions}
use Rattle.book.proofs.Stores.{holds_then}
use Rattle.book.proofs.clear_node.Goals as goal

pub returns : goal.returns
unfolding number
returns c =
    let n = c.args.n in
    holds_then (λ t. with_node_hold t n 0)
    (holds_then (λ t. without_transitions t n)
    (holds_then (λ t. with_below t n none) c.set_owner.ensures c.set_below.ensures)
    c.clear_transitions.ensures)
    c.set_hold.ensures
