-- `expanding::open_node` meets its contract: a node opens into the steps that its machine's last node is traced to, and the one that leaves
-- it. Assumes nothing.
use native.Mathlib.Omega.{arith}
use Rattle.definitions.specs.Book.{tree_of}
use Rattle.definitions.proofs.Words.{present_word, no_below}
use Rattle.plantheory.proofs.Expanded.{part_plain}
use Rattle.expanding.proofs.Tracing.{steps_none, steps_more}
use Rattle.expanding.proofs.Opening.{part_none, opens_none, opens_path, held, last_traceable, no_last}
use Rattle.expanding.proofs.open_node.Goals as goal

pub returns-then-m-eq-ABSENT : goal.returns-then-m-eq-ABSENT
returns-then-m-eq-ABSENT c =
    let p = c.requires in
    let plain = no_below (tree_of c.args.book.now) p.0.well_formed.sound c.args.n c.below-m.ensures c.if-m-eq-ABSENT.true in
    opens_none (steps_none p.3 p.4) (λ d. part_plain d _ _ _ _ plain)

pub last-u-requires : goal.last-u-requires
last-u-requires c =
    let p = c.requires in
    (p.0.true_sheet.length, (held p.0 c.args.n c.args.x p.2 c.below-m.ensures c.if-m-eq-ABSENT.false).1, p.2)

pub returns-then-u-eq-ABSENT : goal.returns-then-u-eq-ABSENT
returns-then-u-eq-ABSENT c =
    let p = c.requires in
    let (bel, range) = held p.0 c.args.n c.args.x p.2 c.below-m.ensures c.if-m-eq-ABSENT.false in
    let shut = no_last p.0 c.args.n c.args.x p.2 bel c.last-u.ensures c.if-u-eq-ABSENT.true in
    opens_none (steps_none p.3 p.4) (λ d. part_none d _ _ _ _ bel shut)

pub trace_rows-requires : goal.trace_rows-requires
trace_rows-requires c =
    let p = c.requires in
    let u = c.last-u.result in
    let (bel, range) = held p.0 c.args.n c.args.x p.2 c.below-m.ensures c.if-m-eq-ABSENT.false in
    let last = present_word _ c.last-u.ensures c.if-u-eq-ABSENT.false in
    let tr = last_traceable p.0 c.args.n c.args.x p.2 bel last in (
      p.0.true_sheet.length,
      tr,
      rw (c.note.ensures.0, c.note.ensures.1)
          (steps_more {left = c.args.left.now} {given = c.args.given.now} u c.args.x (steps_none p.3 p.4) (omega arith)
          tr.here p.2),
      omega arith,
    )

pub returns : goal.returns
returns c =
    let p = c.requires in
    let (bel, range) = held p.0 c.args.n c.args.x p.2 c.below-m.ensures c.if-m-eq-ABSENT.false in
    let last = present_word _ c.last-u.ensures c.if-u-eq-ABSENT.false in
    opens_path c.args.left.now c.args.given.now bel last (omega (arith, p.3)) (omega (arith, p.4))
    (rw (c.note.ensures.0, c.note.ensures.1) at c.trace_rows.ensures)
