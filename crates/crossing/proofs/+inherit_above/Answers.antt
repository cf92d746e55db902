-- `crossing::inherit_above` meets its contract: first the rows above the machine, then its own. It ends at the root: the node that holds a
-- machine is one level higher. Assumes nothing.
use mathlib.Core.Path.{◌∙◌}
use native.Mathlib.Omega.{arith}
use Rattle.stepping.proofs.Laws.{owner_told}
use Rattle.stepping.proofs.Upward.{held, used_holder, higher}
use Rattle.crossing.proofs.Inheriting.{handed_root, handed_row, handed_on}
use Rattle.crossing.proofs.+inherit_above.Goals as goal

pub holder-above-requires : goal.holder-above-requires
holder-above-requires t c =
    let p = c.requires in
    (p.0.length, (owner_told c.args.book.now p.0 c.args.n p.3 c.owner-m.ensures).1)

pub returns-then-above-eq-ABSENT : goal.returns-then-above-eq-ABSENT
returns-then-above-eq-ABSENT t c =
    let p = c.requires in
    handed_root c.args.book.now p.0 c.args.lands.now c.args.n p.3 c.owner-m.ensures c.holder-above.ensures c.if-above-eq-ABSENT.true p.4

pub inherit_above-requires : goal.inherit_above-requires
inherit_above-requires t c =
    let p = c.requires in
    let there = c.if-above-eq-ABSENT.false in (
      omega (
        arith,
        higher c.args.book.now p.0 c.args.n p.3 c.owner-m.ensures c.holder-above.ensures there,
      ),
      (
        p.0,
        p.1,
        p.2,
        used_holder c.args.book.now p.0 c.args.n p.3 c.owner-m.ensures c.holder-above.ensures there,
        p.4,
      ),
    )

pub inherit-requires : goal.inherit-requires
inherit-requires t c =
    let p = c.requires in (
      p.0,
      p.1,
      c.inherit_above.auto.up ∙ p.2,
      held c.args.book.now p.0 c.args.n p.3 c.owner-m.ensures c.holder-above.ensures c.if-above-eq-ABSENT.false,
      handed_row c.holder-above.result c.inherit_above.ensures,
    )

pub returns : goal.returns
returns t c =
    let p = c.requires in
    handed_on c.args.book.now p.0 c.args.lands.now c.args.n p.3 c.owner-m.ensures c.holder-above.ensures
    c.if-above-eq-ABSENT.false c.inherit_above.ensures c.inherit.ensures
