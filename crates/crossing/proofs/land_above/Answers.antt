-- `crossing::land_above` meets its contract: of the nodes that hold a machine above the first node, those passed have where they land, and each
-- turn goes one level up. Assumes nothing.
use native.Mathlib.Omega.{arith}
use Rattle.stepping.proofs.Laws.{used_range, owner_told}
use Rattle.stepping.proofs.Upward.{used_holder, higher}
use Rattle.crossing.proofs.Landing.{landing_ends, landing_on}
use Rattle.crossing.proofs.land_above.Goals as goal

pub holder-v-requires : goal.holder-v-requires
holder-v-requires c =
    (c.requires.0.length, (owner_told c.args.book.now c.requires.0 c.loop-s.n c.loop-s.invariant.used c.owner.ensures).1)

pub returns-then-v-eq-ABSENT : goal.returns-then-v-eq-ABSENT
returns-then-v-eq-ABSENT c =
    landing_ends c.args.book.now c.requires.0 c.loop-s.invariant c.owner.ensures c.holder-v.ensures c.if-v-eq-ABSENT.true

pub land-requires : goal.land-requires
land-requires c = (
  c.requires.0,
  c.requires.1,
  used_holder c.args.book.now c.requires.0 c.loop-s.n c.loop-s.invariant.used c.owner.ensures c.holder-v.ensures c.if-v-eq-ABSENT.false,
)

pub bounds-lands-v : goal.bounds-lands-v
bounds-lands-v c =
    let used =
    used_holder c.args.book.now c.requires.0 c.loop-s.n c.loop-s.invariant.used c.owner.ensures c.holder-v.ensures c.if-v-eq-ABSENT.false in
    omega (arith, used_range c.args.book.now c.requires.0 c.holder-v.result used, c.loop-s.invariant.room)

pub loop-s-smaller : goal.loop-s-smaller
loop-s-smaller c =
    higher c.args.book.now c.requires.0 c.loop-s.n c.loop-s.invariant.used c.owner.ensures c.holder-v.ensures c.if-v-eq-ABSENT.false

pub loop-s-preserved : goal.loop-s-preserved
loop-s-preserved c =
    landing_on c.args.book.now c.requires.0 c.loop-s.invariant c.owner.ensures c.holder-v.ensures c.if-v-eq-ABSENT.false
    c.land.ensures
