-- `opening::set_link` meets its contract: both transitions are written exactly where there is a lower node. Assumes nothing.
use mathlib.Core.Path.{refl}
use Prim.Native.Nat.{◌+◌, ◌*◌}
use native.Mathlib.Omega.{arith}
use borrow.Author.Tests.{lt-ltb, le-ltb}
use Rattle.definitions.specs.Limits.{nodes, costs}
use Rattle.definitions.specs.Book.{transition_of}
use Rattle.definitions.specs.Edit.{with_transition}
use Rattle.book.proofs.Stores.{holds_then}
use Rattle.opening.specs.Writes.{with_links}
use Rattle.opening.proofs.Reading.{neighbour_word}
use Rattle.opening.proofs.set_link.Goals as goal

pub returns-then-lower-lt-NODES : goal.returns-then-lower-lt-NODES
unfolding with_links
returns-then-lower-lt-NODES c =
    let a = c.args in
    let both = holds_then (λ t. with_transition t a.lower 1 (transition_of (a.n * costs + 1))) c.set_transition.ensures
    c.set_transition-then-lower-lt-NODES.ensures in
    rw (lt-ltb a.lower nodes c.if-lower-lt-NODES.true)
    (rw (neighbour_word a.lower c.if-lower-lt-NODES.true, neighbour_word a.n (omega arith)) at both)

pub returns-else-lower-lt-NODES : goal.returns-else-lower-lt-NODES
unfolding with_links
returns-else-lower-lt-NODES c =
    rw (le-ltb c.args.lower nodes c.if-lower-lt-NODES.false) (record { length = c.requires.0; tree = refl })
