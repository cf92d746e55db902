-- `opening::root` meets its contract: r is the last machine passed that is in use and that no node holds. Assumes nothing.
use mathlib.Core.Path.{◌≡◌}
use Rattle.definitions.specs.Book.{word, tree_of}
use Rattle.opening.specs.Rows.{last_under, free}
use Rattle.opening.proofs.root.Given as goal

abbrev pub invariant-loop-m : goal.invariant-loop-m
invariant-loop-m l = l.r ≡ word (last_under l.m (free (tree_of l.book)))
