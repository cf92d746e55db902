-- `writing::node_refine` meets its contract: a refined node at the level, with the machine below it and that machine's start node. Assumes nothing.
use mathlib.Core.Path.{sym, ◌∙◌}
use Rattle.definitions.specs.Book.{tree_of}
use Rattle.definitions.proofs.Words.{present_word, below_range, start_range, no_below}
use Rattle.storing.proofs.Laws.{stored_none, stored_is}
use Rattle.writing.proofs.Laws.{refine_plain, refine_other, refine_node, refined_used, start_of_below}
use Rattle.writing.proofs.node_refine.Goals as goal

pub returns-then-m-eq-ABSENT : goal.returns-then-m-eq-ABSENT
returns-then-m-eq-ABSENT c =
    let t = tree_of c.args.book.now in
    stored_none c.args.out.now c.args.at
    (refine_plain t c.args.l c.args.n (no_below t c.requires.0.sound c.args.n c.below-m.ensures c.if-m-eq-ABSENT.true))

pub returns-then-here-l : goal.returns-then-here-l
returns-then-here-l c =
    let t = tree_of c.args.book.now in
    let bel = present_word (t.below c.args.n) c.below-m.ensures c.if-m-eq-ABSENT.false in
    stored_none c.args.out.now c.args.at
    (refine_other t c.args.l c.args.n (λ same. c.if-here-l.true (c.requires.1.at c.args.n c.requires.2 (refined_used c.requires.0.sound bel) ∙ same)))

pub start-s-requires : goal.start-s-requires
start-s-requires c =
    let t = tree_of c.args.book.now in
    let bel = present_word (t.below c.args.n) c.below-m.ensures c.if-m-eq-ABSENT.false in
    (c.requires.0.length, (below_range t c.requires.0.sound c.args.n c.below-m.result bel).1)

pub put_refine-requires : goal.put_refine-requires
put_refine-requires c =
    let t = tree_of c.args.book.now in
    let m = c.below-m.result in
    let bel = present_word (t.below c.args.n) c.below-m.ensures c.if-m-eq-ABSENT.false in
    let st = start_of_below c.requires.0.sound bel c.start-s.ensures in
    let both = start_range t c.requires.0.sound m c.start-s.result st in
    (c.requires.3, c.requires.2, both.0, both.1)

pub returns : goal.returns
returns c =
    let t = tree_of c.args.book.now in
    let bel = present_word (t.below c.args.n) c.below-m.ensures c.if-m-eq-ABSENT.false in
    let st = start_of_below c.requires.0.sound bel c.start-s.ensures in
    let here = sym (c.requires.1.at c.args.n c.requires.2 (refined_used c.requires.0.sound bel)) ∙ c.if-here-l.false in
    stored_is c.put_refine.ensures (refine_node t c.args.l c.args.n bel st here)
