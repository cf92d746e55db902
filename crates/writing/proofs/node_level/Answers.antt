-- `writing::node_level` meets its contract: a node without an owner is not in use. Assumes nothing.
use Rattle.definitions.specs.Book.{tree_of}
use Rattle.definitions.proofs.Options.{none_some}
use Rattle.definitions.proofs.Words.{present_word, no_owner}
use Rattle.writing.proofs.node_level.Goals as goal

pub returns-then-owner-eq-ABSENT : goal.returns-then-owner-eq-ABSENT
returns-then-owner-eq-ABSENT c =
    let t = tree_of c.args.book.now in
    λ used. absurd (none_some (no_owner t c.requires.0.sound c.args.n c.owner.ensures c.if-owner-eq-ABSENT.true) used.1)

pub level-requires : goal.level-requires
level-requires c =
    let t = tree_of c.args.book.now in
    (c.requires.0, (c.owner.result, present_word (t.owner c.args.n) c.owner.ensures c.if-owner-eq-ABSENT.false))
