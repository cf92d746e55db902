-- `writing::put_level` meets its contract: the adds, and behind them the refines. Assumes nothing.
use Prim.Native.Nat.{◌+◌}
use native.Mathlib.Omega.{arith}
use Rattle.definitions.specs.Book.{tree_of}
use Rattle.storing.proofs.Laws.{stored_is, stored_then}
use Rattle.writing.proofs.Laws.{adds_short, level_pieces}
use Rattle.writing.proofs.put_level.Goals as goal

pub refines-requires : goal.refines-requires
refines-requires c =
    (c.requires.0, c.requires.1, omega (arith, c.adds-q.ensures.place, adds_short (tree_of c.args.book.now) (c.args.l + 1)))

pub returns : goal.returns
returns c =
    stored_is (stored_then c.adds-q.ensures c.refines.ensures) (level_pieces (tree_of c.args.book.now) c.args.l)
