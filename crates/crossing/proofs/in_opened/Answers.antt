-- `crossing::in_opened` meets its contract: the word of the node's owner says it. Assumes nothing.
use native.Mathlib.Omega.{arith}
use Rattle.crossing.proofs.Opening.{in_none, in_range, in_some}
use Rattle.crossing.proofs.in_opened.Goals as goal

pub returns-then-m-eq-ABSENT : goal.returns-then-m-eq-ABSENT
returns-then-m-eq-ABSENT c =
    in_none c.args.book.now c.requires.0 c.args.opened.now c.args.n c.owner-m.ensures c.if-m-eq-ABSENT.true

pub bounds-opened-m : goal.bounds-opened-m
bounds-opened-m c =
    omega (
      arith,
      in_range c.args.book.now c.requires.0 c.args.opened.now c.args.n c.owner-m.ensures c.if-m-eq-ABSENT.false,
      c.requires.1,
    )

pub returns : goal.returns
returns c =
    in_some c.args.book.now c.requires.0 c.args.opened.now c.args.n c.owner-m.ensures c.if-m-eq-ABSENT.false
