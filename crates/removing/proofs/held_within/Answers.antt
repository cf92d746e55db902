-- `removing::held_within` meets its contract: the climb goes from the node that holds the machine. Assumes nothing.
use mathlib.Core.Path.{◌≡◌, ◌∙◌}
use native.Mathlib.Omega.{arith}
use lib.Dec.{eqb}
use Rattle.std.proofs.lemmas.Grind.{common_steps}
use Rattle.removing.proofs.Lists.{not_held, held_range, held_told}
use Rattle.removing.proofs.held_within.Goals as goal

pub returns-then-h-eq-ABSENT : goal.returns-then-h-eq-ABSENT
returns-then-h-eq-ABSENT c =
    not_held c.args.book.now c.requires.0 c.args.n c.args.m c.holder-h.ensures c.if-h-eq-ABSENT.true

pub within-requires : goal.within-requires
within-requires c =
    (c.requires.0, held_range c.args.book.now c.requires.0 c.args.n c.args.m c.holder-h.ensures c.if-h-eq-ABSENT.false)

pub returns : goal.returns
returns c =
    let flag : eqb c.from.result 1 ≡ c.within.result = grind (arith, common_steps) in
    flag ∙ c.within.ensures ∙ held_told c.args.book.now c.requires.0 c.args.n c.args.m c.holder-h.ensures c.if-h-eq-ABSENT.false
