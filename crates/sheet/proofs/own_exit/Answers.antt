-- `sheet::own_exit` meets its contract: what the machine below says, by its words. Assumes nothing.
use mathlib.Core.Path.{sym, ◌∙◌}
use native.Mathlib.Omega.{arith}
use Rattle.sheet.proofs.Reading.{rows_of_read}
use Rattle.sheet.proofs.Exits.{exits_plain, exits_never, exits_costs}
use Rattle.sheet.proofs.own_exit.Goals.{then-b-eq-ABSENT, else-b-eq-ABSENT}
use Rattle.sheet.proofs.own_exit.Goals as goal

pub returns-then-own : goal.returns-then-own
returns-then-own c =
    elim c.if-b-eq-ABSENT.branch [
      | then-b-eq-ABSENT w ↦ absurd (omega (arith, w.own-is))
      | else-b-eq-ABSENT w ↦
          exits_never c.requires.0.well_formed.sound (rows_of_read c.args.sheet.now) c.args.n c.args.x c.below-b.ensures
          w.if-b-eq-ABSENT.false c.exit-e.ensures (sym w.own-is ∙ c.if-own.true)
    ]

pub returns : goal.returns
returns c =
    let sound = c.requires.0.well_formed.sound in
    let rows = rows_of_read c.args.sheet.now in
    let left = c.from-2.ensures ∙ c.left_at-left.ensures in
    elim c.if-b-eq-ABSENT.branch [
      | then-b-eq-ABSENT w ↦ exits_plain sound rows c.args.n c.args.x c.below-b.ensures w.if-b-eq-ABSENT.true (c.from.ensures ∙ w.own-is) left
      | else-b-eq-ABSENT w ↦
          exits_costs sound rows c.args.n c.args.x c.below-b.ensures w.if-b-eq-ABSENT.false c.exit-e.ensures
          (λ z. c.if-own.false (w.own-is ∙ z)) (c.from.ensures ∙ w.own-is) (omega (arith, c.from.ensures)) left
    ]
