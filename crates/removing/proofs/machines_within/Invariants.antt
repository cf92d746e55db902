-- `removing::machines_within` meets its contract: the list is right below m after each turn. Assumes nothing.
use Rattle.definitions.specs.Book.{tree_of}
use Rattle.definitions.specs.Edit.{held_within}
use Rattle.removing.specs.Within.{Listed}
use Rattle.removing.proofs.machines_within.Given as goal

abbrev pub invariant-loop-m : goal.invariant-loop-m
invariant-loop-m l = Listed l.m (held_within (tree_of l.book) l.n) l.list
