-- `truesheet::follow` meets its contract. The loop's invariant: `v` is `steps` steps on from `n`. Assumes nothing.
use native.Mathlib.Omega.{arith}
use Rattle.definitions.specs.Sheet.{rows_of}
use Rattle.definitions.proofs.Words.{present_word}
use Rattle.book.proofs.Said.{unsaid}
use Rattle.sheet.proofs.Reading.{rows_of_read}
use Rattle.truesheet.proofs.Chains.{ahead_more, follows_counted, follows_here, follows_far}
use Rattle.truesheet.proofs.follow.Goals as goal

pub returns-then-k-ne-UNCOUNTED : goal.returns-then-k-ne-UNCOUNTED
returns-then-k-ne-UNCOUNTED c =
    follows_counted c.loop-steps.invariant.1 c.requires.1 c.loop-steps.invariant.0 c.count-k.ensures c.if-k-ne-UNCOUNTED.true

pub returns-then-u-eq-ABSENT : goal.returns-then-u-eq-ABSENT
returns-then-u-eq-ABSENT c =
    let last = unsaid ((rows_of_read c.args.sheet.now).before c.loop-steps.v) c.before-u.ensures c.if-u-eq-ABSENT.true in
    follows_here c.loop-steps.invariant.1 last (omega arith)

pub loop-steps-preserved : goal.loop-steps-preserved
loop-steps-preserved c =
    let next = present_word ((rows_of c.args.sheet.now).before c.loop-steps.v) c.before-u.ensures c.if-u-eq-ABSENT.false in
    (c.requires.0.names c.loop-steps.v c.before-u.result next, ahead_more next c.loop-steps.invariant.1)

pub returns : goal.returns
returns c = follows_far c.loop-steps.invariant.1 (omega arith) (omega arith)
