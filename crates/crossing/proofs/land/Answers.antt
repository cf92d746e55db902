-- `crossing::land` meets its contract: the node in hand lands where the first does, and each turn goes one level down. Assumes nothing.
use mathlib.Core.Path.{◌∙◌}
use native.Mathlib.Omega.{arith}
use Rattle.stepping.proofs.Laws.{used_range, below_told}
use Rattle.crossing.proofs.Landing.{lands_plain, lands_shut, LandsOn, lands_on}
use Rattle.crossing.proofs.land.Goals.{After-start-w}
use Rattle.crossing.proofs.land.Goals as goal

-- the next turn
next : (c : After-start-w) → LandsOn c.args.book.now
    c.requires.0
    c.args.opened.now
    c.loop-v.w c.loop-v.invariant.0
    c.below-b.ensures c.if-b-eq-ABSENT.false c.start-w.result
next c =
    lands_on c.args.book.now c.requires.0 c.args.opened.now c.loop-v.w c.loop-v.invariant.0 c.below-b.ensures
    c.if-b-eq-ABSENT.false c.if-opened-b-ne1.false c.start-w.ensures

pub returns-then-b-eq-ABSENT : goal.returns-then-b-eq-ABSENT
returns-then-b-eq-ABSENT c = (
  c.loop-v.invariant.1
      ∙ lands_plain c.args.book.now c.requires.0 c.args.opened.now c.loop-v.w c.loop-v.invariant.0 c.below-b.ensures
      c.if-b-eq-ABSENT.true,
  used_range c.args.book.now c.requires.0 c.loop-v.w c.loop-v.invariant.0,
)

pub bounds-opened-b : goal.bounds-opened-b
bounds-opened-b c =
    omega (
      arith,
      below_told c.args.book.now c.requires.0 c.loop-v.w c.loop-v.invariant.0 c.below-b.ensures c.if-b-eq-ABSENT.false,
      c.requires.1,
    )

pub returns-then-opened-b-ne1 : goal.returns-then-opened-b-ne1
returns-then-opened-b-ne1 c = (
  c.loop-v.invariant.1
      ∙ lands_shut c.args.book.now c.requires.0 c.args.opened.now c.loop-v.w c.loop-v.invariant.0 c.below-b.ensures
      c.if-b-eq-ABSENT.false c.if-opened-b-ne1.true,
  used_range c.args.book.now c.requires.0 c.loop-v.w c.loop-v.invariant.0,
)

pub loop-v-smaller : goal.loop-v-smaller
loop-v-smaller c = (next (goal.at.loop-v-smaller c).After-start-w).lower

pub loop-v-preserved : goal.loop-v-preserved
loop-v-preserved c = ((next (goal.at.loop-v-preserved c).After-start-w).used_start, c.loop-v.invariant.1 ∙ (next (goal.at.loop-v-preserved c).After-start-w).same)
