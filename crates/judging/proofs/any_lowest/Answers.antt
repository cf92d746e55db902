-- `judging::any_lowest` meets its contract. The loop's invariant: no machine below `m` stands at the lowest level. Assumes nothing.
use mathlib.Core.Path.{sym, ◌∙◌}
use native.Mathlib.Omega.{arith}
use Rattle.definitions.specs.Book.{tree_of}
use Rattle.judging.proofs.Laws.{machine_lowest, no_machine_lowest}
use Rattle.judging.proofs.any_lowest.Goals as goal

pub returns-then-lowest_machine : goal.returns-then-lowest_machine
returns-then-lowest_machine c =
    let low = sym c.lowest_machine.ensures ∙ c.if-lowest_machine.true in
    sym (machine_lowest (tree_of c.args.book.now) c.requires.sound c.loop-m.m low)

pub returns : goal.returns
returns c =
    sym (no_machine_lowest (tree_of c.args.book.now) c.requires.sound (λ m small. c.loop-m.invariant m (omega arith)))
