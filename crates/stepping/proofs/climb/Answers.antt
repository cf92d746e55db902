-- `stepping::climb` meets its contract: the climb from the state comes to the node in hand, having left machines at this cost, and each turn goes
-- one level up. What was left costs at most 65,535 for each level. Assumes nothing.
use mathlib.Core.Path.{◌≡◌, sym}
use native.Mathlib.Omega.{arith}
use Rattle.definitions.specs.Book.{tree_of}
use Rattle.definitions.proofs.Simple.{level_small}
use Rattle.stepping.proofs.Laws.{used_range, owner_told}
use Rattle.stepping.proofs.Upward.{higher}
use Rattle.stepping.proofs.Climbing.{climbed_first, climbed_found, climbed_ends, climbed_on}
use Rattle.stepping.proofs.climb.Goals as goal

pub loop-cost-init : goal.loop-cost-init
loop-cost-init c =
    (climbed_first c.args.s c.args.x c.requires.1, omega (arith, level_small (tree_of c.args.book.now) c.args.s))

pub counting-w-requires : goal.counting-w-requires
counting-w-requires c =
    (c.requires.0, used_range c.args.book.now c.requires.0 c.loop-cost.n c.loop-cost.invariant.0.used, c.requires.2)

pub owner-m-requires : goal.owner-m-requires
owner-m-requires c =
    (c.requires.0.length, used_range c.args.book.now c.requires.0 c.loop-cost.n c.loop-cost.invariant.0.used)

pub holder-h-requires : goal.holder-h-requires
holder-h-requires c =
    (c.requires.0.length, (owner_told c.args.book.now c.requires.0 c.loop-cost.n c.loop-cost.invariant.0.used c.owner-m.ensures).1)

pub overflow_add-cost : goal.overflow_add-cost
overflow_add-cost c = omega (arith, c.loop-cost.invariant.1)

pub returns-then-w : goal.returns-then-w
returns-then-w c =
    climbed_found c.args.book.now c.requires.0 c.loop-cost.invariant.0 c.counting-w.ensures c.if-w.true

pub returns-then-h-eq-ABSENT : goal.returns-then-h-eq-ABSENT
returns-then-h-eq-ABSENT c = (
  _,
  climbed_ends c.args.book.now c.requires.0 c.loop-cost.invariant.0 c.counting-w.ensures c.if-w.false c.owner-m.ensures c.holder-h.ensures
      c.if-h-eq-ABSENT.true,
)

pub leave-left-requires : goal.leave-left-requires
leave-left-requires c =
    (c.requires.0.length, (owner_told c.args.book.now c.requires.0 c.loop-cost.n c.loop-cost.invariant.0.used c.owner-m.ensures).1)

pub overflow_add-left : goal.overflow_add-left
overflow_add-left c =
    omega (arith, c.loop-cost.invariant.1, c.leave-left.ensures, c.requires.0.sound.leave_range c.owner-m.result)

pub loop-cost-smaller : goal.loop-cost-smaller
loop-cost-smaller c =
    higher c.args.book.now c.requires.0 c.loop-cost.n c.loop-cost.invariant.0.used c.owner-m.ensures c.holder-h.ensures c.if-h-eq-ABSENT.false

pub loop-cost-preserved : goal.loop-cost-preserved
loop-cost-preserved c =
    let t = tree_of c.args.book.now in
    let up =
    climbed_on c.args.book.now c.requires.0 c.loop-cost.invariant.0 c.counting-w.ensures c.if-w.false c.owner-m.ensures c.holder-h.ensures
    c.if-h-eq-ABSENT.false in
    let same : t.leave c.owner-m.result ≡ c.leave-left.result = sym c.leave-left.ensures in (
      rw same at up,
      omega (
        arith,
        c.loop-cost.invariant.1,
        c.leave-left.ensures,
        c.requires.0.sound.leave_range c.owner-m.result,
        higher c.args.book.now c.requires.0 c.loop-cost.n c.loop-cost.invariant.0.used c.owner-m.ensures c.holder-h.ensures c.if-h-eq-ABSENT.false,
      ),
    )
