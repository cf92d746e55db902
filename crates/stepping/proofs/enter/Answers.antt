-- `stepping::enter` meets its contract: the node in hand is entered where the first was, and each turn goes one level down. Assumes nothing.
use mathlib.Core.Path.{refl, ◌∙◌}
use Rattle.stepping.proofs.Laws.{used_range, plain_told, below_told, EnteredOn, down_told}
use Rattle.stepping.proofs.enter.Goals.{After-start-v}
use Rattle.stepping.proofs.enter.Goals as goal

-- the next turn
next : (c : After-start-v) → EnteredOn c.args.book.now
    c.requires.0 c.loop-n.v c.loop-n.invariant.0 c.start-v.result
next c =
    let l = c.loop-n in
    down_told c.args.book.now c.requires.0 l.v l.invariant.0 c.below-b.ensures c.if-b-eq-ABSENT.false c.start-v.ensures

pub loop-n-init : goal.loop-n-init
loop-n-init c = (c.requires.1, refl)

pub below-b-requires : goal.below-b-requires
below-b-requires c =
    (c.requires.0.length, used_range c.args.book.now c.requires.0 c.loop-n.v c.loop-n.invariant.0)

pub returns-then-b-eq-ABSENT : goal.returns-then-b-eq-ABSENT
returns-then-b-eq-ABSENT c =
    let l = c.loop-n in
    l.invariant.1 ∙ plain_told c.args.book.now c.requires.0 l.v l.invariant.0 c.below-b.ensures c.if-b-eq-ABSENT.true

pub start-v-requires : goal.start-v-requires
start-v-requires c =
    let l = c.loop-n in
    (c.requires.0.length, below_told c.args.book.now c.requires.0 l.v l.invariant.0 c.below-b.ensures c.if-b-eq-ABSENT.false)

pub loop-n-smaller : goal.loop-n-smaller
loop-n-smaller c = (next (goal.at.loop-n-smaller c).After-start-v).lower

pub loop-n-preserved : goal.loop-n-preserved
loop-n-preserved c = ((next (goal.at.loop-n-preserved c).After-start-v).used_start, c.loop-n.invariant.1 ∙ (next (goal.at.loop-n-preserved c).After-start-v).same)
