-- `ladders::is_start_node` meets its contract: the start node of the owner is the node, or not. Assumes nothing.
use Rattle.definitions.specs.Book.{tree_of}
use Rattle.definitions.proofs.Words.{present_word, no_owner, owner_range}
use Rattle.ladders.proofs.Laws.{unused_starts, used_starts}
use Rattle.ladders.proofs.is_start_node.Goals as goal

pub start-requires : goal.start-requires
start-requires c =
    let t = tree_of c.args.book.now in
    let own = present_word (t.owner c.args.n) c.owner-m.ensures c.if-m-ne-ABSENT.true in
    (c.requires.0.length, (owner_range t c.requires.0.sound c.args.n c.owner-m.result own).1)

pub returns-then-m-ne-ABSENT : goal.returns-then-m-ne-ABSENT
returns-then-m-ne-ABSENT c =
    let t = tree_of c.args.book.now in
    let own = present_word (t.owner c.args.n) c.owner-m.ensures c.if-m-ne-ABSENT.true in
    used_starts c.requires.0.sound c.args.n own c.start.ensures

pub returns-else-m-ne-ABSENT : goal.returns-else-m-ne-ABSENT
returns-else-m-ne-ABSENT c =
    let t = tree_of c.args.book.now in
    rw c.if-m-ne-ABSENT.false (unused_starts t c.args.n (no_owner t c.requires.0.sound c.args.n c.owner-m.ensures c.if-m-ne-ABSENT.false))
