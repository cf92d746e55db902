-- `clearing::clear_machines` meets its contract: after each turn the chosen machines below m are out of use. Assumes nothing.
use Rattle.book.specs.Chosen.{chosen, up_to}
use Rattle.clearing.specs.Gone.{MachinesGone}
use Rattle.clearing.proofs.clear_machines.Given as goal

abbrev pub invariant-loop-m : goal.invariant-loop-m
invariant-loop-m l = MachinesGone l.initial.book l.initial.sheet l.book l.sheet (up_to (chosen l.gone) l.m)
