-- `inheriting::inherit` meets its contract: the words passed say what the machine inherits, and those that were right still are. Assumes nothing.
use mathlib.Core.Path.{sym, ◌∙◌}
use native.Mathlib.Omega.{arith}
use Rattle.definitions.specs.Book.{tree_of}
use Rattle.definitions.proofs.Words.{holder_range}
use Rattle.stepping.proofs.Laws.{owner_told}
use Rattle.inheriting.proofs.Inheriting.{inherits_held, handed_more, finds_fits}
use Rattle.inheriting.proofs.inherit.Goals as goal

pub find-requires : goal.find-requires
find-requires c =
    let own =
    (owner_told c.args.book.now c.requires.0 c.args.h (c.requires.0.sound.holder_used c.args.m c.args.h c.requires.3) c.owner-p.ensures).0 in (
      c.requires.0,
      c.requires.1,
      omega (arith, c.requires.2),
      own,
      omega arith,
      λ x range. c.loop-y.invariant.kept c.owner-p.result x range (c.requires.4 c.owner-p.result own x range),
    )

pub after-w-requires : goal.after-w-requires
after-w-requires c =
    finds_fits c.requires.0.sound c.requires.1 c.args.h c.loop-y.y c.find.result c.find.ensures

pub loop-y-preserved : goal.loop-y-preserved
loop-y-preserved c =
    let found = c.find.ensures in
    let machine = (holder_range (tree_of c.args.book.now) c.requires.0.sound c.args.m c.args.h c.requires.3).0 in
    handed_more c.loop-y.invariant (omega (arith, c.requires.2)) machine (omega arith) c.after-w.result (omega arith)
    (c.after-w.ensures
    ∙ rw (found, c.leave-l.ensures) (sym (inherits_held (tree_of c.args.book.now) c.args.lands.now c.args.m c.loop-y.y c.requires.3)))
