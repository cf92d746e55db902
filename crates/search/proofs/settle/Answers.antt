-- `search::settle` meets its contract: n nodes are settled, and the list has the reached ones; the measure is how many are not settled.
-- Assumes nothing.
use mathlib.Core.Path.{refl, ◌∙◌}
use Prim.Native.Nat.{◌+◌}
use native.Mathlib.Omega.{arith}
use Rattle.search.specs.Parts.{labels}
use Rattle.search.proofs.Turning.{Turns, turns_first, turns_few, turns_places, turns_row, turns_listing, turned, searched_all, searched_goal}
use Rattle.search.proofs.settle.Goals.{After-relax_all-count}
use Rattle.search.proofs.settle.Goals as goal

-- one node more is settled
settled-more : (c : After-relax_all-count)
    → let a = c.args in
    Turns a.k a.source a.target.now a.price.now (labels a.dist.now a.before.now a.by.now)
    c.relax_all-count.new.dist c.relax_all-count.new.before c.relax_all-count.new.by c.relax_all-count.new.order c.relax_all-count.result (c.loop-n.n + 1)
settled-more c =
    turned c.requires.0 c.loop-n.invariant.1 c.bring-u.ensures _ _ _ _ c.relax_all-count.ensures

pub loop-n-init : goal.loop-n-init
loop-n-init c =
    let a = c.args in
    (refl, turns_first c.requires.0 a.dist.now a.before.now a.by.now _ c.requires.2 refl)

pub bring-u-requires : goal.bring-u-requires
bring-u-requires c =
    let p = c.requires in
    let i = c.loop-n.invariant in
    turns_places p.0 i.1 c.loop-n-test.true (omega (arith, c.loop-n.auto.dist, p.1)) (omega (arith, i.0))

pub returns-then-u-goal : goal.returns-then-u-goal
returns-then-u-goal c =
    searched_goal c.requires.0 c.loop-n.invariant.1 c.bring-u.ensures c.if-u-goal.true

pub relax_all-count-requires : goal.relax_all-count-requires
relax_all-count-requires c =
    let p = c.requires in
    let i = c.loop-n.invariant in
    let same = c.loop-n.auto in
    let b = c.bring-u in (
      turns_row p.0 i.1 b.ensures (record {
        dist_room = omega (arith, same.dist, p.1);
        before_room = omega (arith, same.before, p.1);
        by_room = omega (arith, same.by, p.1);
      }),
      turns_listing p.0 i.1 b.ensures,
      omega (arith, b.auto.order, i.0),
    )

pub loop-n-smaller : goal.loop-n-smaller
loop-n-smaller c =
    omega (arith, turns_few c.requires.0 (settled-more (goal.at.loop-n-smaller c).After-relax_all-count))

pub loop-n-preserved : goal.loop-n-preserved
loop-n-preserved c = (
  c.relax_all-count.auto.order ∙ c.bring-u.auto.order ∙ c.loop-n.invariant.0,
  settled-more (goal.at.loop-n-preserved c).After-relax_all-count,
)

pub returns : goal.returns
returns c = searched_all c.requires.0 c.loop-n.invariant.1 c.loop-n-test.false
