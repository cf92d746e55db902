-- `writing::node_add` meets its contract: a node in use, at the level, and not a start node is added. Assumes nothing.
use mathlib.Core.Path.{sym, ◌∙◌}
use native.Mathlib.Omega.{arith}
use Rattle.definitions.specs.Book.{tree_of}
use Rattle.definitions.proofs.Words.{present_word, owner_range, no_owner}
use Rattle.storing.proofs.Laws.{stored_none, stored_is}
use Rattle.writing.proofs.Laws.{add_unused, add_other, add_start, add_node, start_of_owner}
use Rattle.writing.proofs.node_add.Goals as goal

pub returns-then-m-eq-ABSENT : goal.returns-then-m-eq-ABSENT
returns-then-m-eq-ABSENT c =
    let t = tree_of c.args.book.now in
    stored_none c.args.out.now c.args.at
    (add_unused t c.args.l c.args.n (no_owner t c.requires.0.sound c.args.n c.owner-m.ensures c.if-m-eq-ABSENT.true))

pub returns-then-here-l : goal.returns-then-here-l
returns-then-here-l c =
    let t = tree_of c.args.book.now in
    let own = present_word (t.owner c.args.n) c.owner-m.ensures c.if-m-eq-ABSENT.false in
    stored_none c.args.out.now c.args.at
    (add_other t c.args.l c.args.n (λ same. c.if-here-l.true (c.requires.1.at c.args.n c.requires.2 (c.owner-m.result, own) ∙ same)))

pub start-s-requires : goal.start-s-requires
start-s-requires c =
    let t = tree_of c.args.book.now in
    let own = present_word (t.owner c.args.n) c.owner-m.ensures c.if-m-eq-ABSENT.false in
    (c.requires.0.length, (owner_range t c.requires.0.sound c.args.n c.owner-m.result own).1)

pub returns-then-s-n : goal.returns-then-s-n
returns-then-s-n c =
    let t = tree_of c.args.book.now in
    let own = present_word (t.owner c.args.n) c.owner-m.ensures c.if-m-eq-ABSENT.false in
    let st = start_of_owner c.requires.0.sound own c.start-s.ensures in
    let here = sym (c.requires.1.at c.args.n c.requires.2 (c.owner-m.result, own)) ∙ c.if-here-l.false in
    stored_none c.args.out.now c.args.at (add_start t c.args.l c.args.n own st here c.if-s-n.true)

pub put_machine_pair-requires : goal.put_machine_pair-requires
put_machine_pair-requires c =
    let t = tree_of c.args.book.now in
    let own = present_word (t.owner c.args.n) c.owner-m.ensures c.if-m-eq-ABSENT.false in (
      c.requires.3,
      (owner_range t c.requires.0.sound c.args.n c.owner-m.result own).1,
      omega (arith, c.requires.2),
    )

pub returns : goal.returns
returns c =
    let t = tree_of c.args.book.now in
    let own = present_word (t.owner c.args.n) c.owner-m.ensures c.if-m-eq-ABSENT.false in
    let st = start_of_owner c.requires.0.sound own c.start-s.ensures in
    let here = sym (c.requires.1.at c.args.n c.requires.2 (c.owner-m.result, own)) ∙ c.if-here-l.false in
    stored_is c.put_machine_pair.ensures (add_node t c.args.l c.args.n own st here c.if-s-n.false)
