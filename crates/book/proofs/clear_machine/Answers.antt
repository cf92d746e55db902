-- `book::clear_machine` meets its contract: its three stores. Assumes nothing.
use mathlib.Core.Option.{none}
use Rattle.definitions.specs.Tree.{with_start_of, with_leave}
use Rattle.definitions.specs.Book.{number}
use Rattle.book.proofs.Stores.{holds_then}
use Rattle.book.proofs.clear_machine.Goals as goal

pub returns : goal.returns
unfolding number
returns c =
    let m = c.args.m in
    holds_then (λ t. with_leave t m 0)
    (holds_then (λ t. with_start_of t m none) c.set_holder.ensures c.set_start.ensures)
    c.set_leave.ensures
