-- `stepping::judge_states` meets its contract: each way out shows its refusal, or that none holds. Assumes nothing.
use mathlib.Core.Logic.{inl, inr}
use Rattle.definitions.specs.Book.{tree_of}
use Rattle.definitions.proofs.Options.{none_some}
use Rattle.definitions.proofs.Words.{present_word, no_owner, no_below}
use Rattle.stepping.proofs.States.{judged_unused, judged_refined, judged_states}
use Rattle.stepping.proofs.judge_states.Goals as goal

pub returns-then-owner-eq-ABSENT : goal.returns-then-owner-eq-ABSENT
returns-then-owner-eq-ABSENT c =
    judged_unused c.args.book.now c.requires c.args.a c.args.b (c.if-a-ge-NODES.false, c.if-b-ge-NODES.false)
    (inl (no_owner (tree_of c.args.book.now) c.requires.sound c.args.a c.owner.ensures c.if-owner-eq-ABSENT.true))

pub returns-then-owner-eq-ABSENT-2 : goal.returns-then-owner-eq-ABSENT-2
returns-then-owner-eq-ABSENT-2 c =
    judged_unused c.args.book.now c.requires c.args.a c.args.b (c.if-a-ge-NODES.false, c.if-b-ge-NODES.false)
    (inr (no_owner (tree_of c.args.book.now) c.requires.sound c.args.b c.owner-2.ensures c.if-owner-eq-ABSENT-2.true))

pub returns-then-below-ne-ABSENT : goal.returns-then-below-ne-ABSENT
returns-then-below-ne-ABSENT c =
    judged_refined c.args.book.now c.requires c.args.a c.args.b (c.if-a-ge-NODES.false, c.if-b-ge-NODES.false)
    c.owner.ensures c.if-owner-eq-ABSENT.false c.owner-2.ensures c.if-owner-eq-ABSENT-2.false
    (λ plain. none_some plain.0 (present_word ((tree_of c.args.book.now).below c.args.a) c.below.ensures c.if-below-ne-ABSENT.true))

pub returns-then-below-ne-ABSENT-2 : goal.returns-then-below-ne-ABSENT-2
returns-then-below-ne-ABSENT-2 c =
    judged_refined c.args.book.now c.requires c.args.a c.args.b (c.if-a-ge-NODES.false, c.if-b-ge-NODES.false)
    c.owner.ensures c.if-owner-eq-ABSENT.false c.owner-2.ensures c.if-owner-eq-ABSENT-2.false
    (λ plain. none_some plain.1 (present_word ((tree_of c.args.book.now).below c.args.b) c.below-2.ensures c.if-below-ne-ABSENT-2.true))

pub returns : goal.returns
returns c =
    let t = tree_of c.args.book.now in
    judged_states c.args.book.now c.requires c.args.a c.args.b (c.if-a-ge-NODES.false, c.if-b-ge-NODES.false)
    c.owner.ensures c.if-owner-eq-ABSENT.false c.owner-2.ensures c.if-owner-eq-ABSENT-2.false
    (no_below t c.requires.sound c.args.a c.below.ensures c.if-below-ne-ABSENT.false, no_below t c.requires.sound c.args.b c.below-2.ensures c.if-below-ne-ABSENT-2.false)
