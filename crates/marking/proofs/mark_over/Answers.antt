-- `marking::mark_over` meets its contract: the machines over n are those listed and those over the node in hand, and each turn goes one
-- level up. Assumes nothing.
use Rattle.definitions.specs.Book.{tree_of}
use Rattle.marking.proofs.Climb.{climb_starts, machine_range, stops_told, ends_told, goes_on_told, holder_used, higher_told}
use Rattle.marking.proofs.mark_over.Goals as goal

pub loop-list-init : goal.loop-list-init
loop-list-init c =
    (c.requires.2, climb_starts (tree_of c.args.book.now) c.args.sheet.now c.args.n c.requires.1.length)

pub stale-requires : goal.stale-requires
stale-requires c = (
  c.loop-list.invariant.1.left.length,
  machine_range c.args.book.now c.requires.0 c.requires.1 c.loop-list.k c.loop-list.invariant.0 c.owner-m.ensures,
)

pub returns-then-stale-eq1 : goal.returns-then-stale-eq1
returns-then-stale-eq1 c =
    stops_told c.args.book.now c.requires.0 c.requires.1 c.loop-list.k c.loop-list.invariant.0 c.owner-m.ensures c.loop-list.invariant.1
    c.stale.ensures
    c.if-stale-eq1.true

pub mark-requires : goal.mark-requires
mark-requires c = (
  c.loop-list.invariant.1.left.length,
  machine_range c.args.book.now c.requires.0 c.requires.1 c.loop-list.k c.loop-list.invariant.0 c.owner-m.ensures,
)

pub bounds-list-m : goal.bounds-list-m
bounds-list-m c =
    machine_range c.args.book.now c.requires.0 c.requires.1 c.loop-list.k c.loop-list.invariant.0 c.owner-m.ensures

pub holder-h-requires : goal.holder-h-requires
holder-h-requires c = (
  c.requires.0.length,
  machine_range c.args.book.now c.requires.0 c.requires.1 c.loop-list.k c.loop-list.invariant.0 c.owner-m.ensures,
)

pub returns-then-h-eq-ABSENT : goal.returns-then-h-eq-ABSENT
returns-then-h-eq-ABSENT c =
    ends_told c.args.book.now c.requires.0 c.requires.1 c.loop-list.k c.loop-list.invariant.0 c.owner-m.ensures c.loop-list.invariant.1
    c.stale.ensures
    c.if-stale-eq1.false
    c.mark.ensures
    c.holder-h.ensures
    c.if-h-eq-ABSENT.true

pub loop-list-smaller : goal.loop-list-smaller
loop-list-smaller c =
    higher_told c.args.book.now c.requires.0 c.requires.1 c.loop-list.k c.loop-list.invariant.0 c.owner-m.ensures c.holder-h.ensures
    c.if-h-eq-ABSENT.false

pub loop-list-preserved : goal.loop-list-preserved
loop-list-preserved c = (
  holder_used c.args.book.now c.requires.0 c.requires.1 c.loop-list.k c.loop-list.invariant.0 c.owner-m.ensures c.holder-h.ensures
      c.if-h-eq-ABSENT.false,
  goes_on_told c.args.book.now c.requires.0 c.requires.1 c.loop-list.k c.loop-list.invariant.0 c.owner-m.ensures c.loop-list.invariant.1
      c.stale.ensures
      c.if-stale-eq1.false
      c.mark.ensures
      c.holder-h.ensures
      c.if-h-eq-ABSENT.false,
)
