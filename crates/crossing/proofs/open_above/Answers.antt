-- `crossing::open_above` meets its contract: what is opened, with the machines over the node in hand, stays the same, and each turn goes
-- one level up. Assumes nothing.
use Rattle.stepping.proofs.Upward.{higher}
use Rattle.crossing.proofs.Opening.{machine_range, machine_room, walk_ends, walk_on}
use Rattle.crossing.proofs.open_above.Goals as goal

pub bounds-opened-m : goal.bounds-opened-m
bounds-opened-m c =
    machine_room c.args.book.now c.requires.0 c.loop-s.invariant c.owner-m.ensures

pub holder-h-requires : goal.holder-h-requires
holder-h-requires c =
    (c.requires.0.length, machine_range c.args.book.now c.requires.0 c.loop-s.invariant c.owner-m.ensures)

pub returns-then-h-eq-ABSENT : goal.returns-then-h-eq-ABSENT
returns-then-h-eq-ABSENT c =
    walk_ends c.args.book.now c.requires.0 c.loop-s.invariant c.owner-m.ensures c.holder-h.ensures c.if-h-eq-ABSENT.true

pub loop-s-smaller : goal.loop-s-smaller
loop-s-smaller c =
    higher c.args.book.now c.requires.0 c.loop-s.n c.loop-s.invariant.used c.owner-m.ensures c.holder-h.ensures c.if-h-eq-ABSENT.false

pub loop-s-preserved : goal.loop-s-preserved
loop-s-preserved c =
    walk_on c.args.book.now c.requires.0 c.loop-s.invariant c.owner-m.ensures c.holder-h.ensures c.if-h-eq-ABSENT.false
