-- `flattening::entered_at` meets its contract. Assumes nothing.
use Rattle.definitions.specs.Book.{tree_of}
use Rattle.definitions.proofs.Words.{no_owner, present_word}
use Rattle.flattening.proofs.Laws.{entered_off, entered_on}
use Rattle.flattening.proofs.entered_at.Goals as goal

pub returns-then-owner-eq-ABSENT : goal.returns-then-owner-eq-ABSENT
returns-then-owner-eq-ABSENT c =
    entered_off (tree_of c.args.book.now) c.args.n c.requires.1
    (no_owner (tree_of c.args.book.now) c.requires.0.sound c.args.n c.owner.ensures c.if-owner-eq-ABSENT.true)

pub enter-requires : goal.enter-requires
enter-requires c =
    (c.requires.0, (c.owner.result, present_word ((tree_of c.args.book.now).owner c.args.n) c.owner.ensures c.if-owner-eq-ABSENT.false))

pub returns : goal.returns
returns c =
    entered_on c.requires.0.sound c.args.n
    (c.owner.result, present_word ((tree_of c.args.book.now).owner c.args.n) c.owner.ensures c.if-owner-eq-ABSENT.false) c.enter.ensures
