-- `flattening::inherit_level` meets its contract: the machines passed that are held at the level have their rows. Assumes nothing.
use Prim.Native.Nat.{◌<◌}
use Rattle.definitions.specs.Book.{tree_of}
use Rattle.flattening.specs.Flattening.{HandedAt}
use Rattle.flattening.proofs.inherit_level.Given as goal

abbrev pub invariant-loop-m : goal.invariant-loop-m
invariant-loop-m l = HandedAt (tree_of l.book) l.lands l.l (λ p. p < l.m) l.initial.up l.up
