-- `crossing::tables` meets its contract: the machines above both nodes are opened, nodes land in them and they inherit, and the rows are filled
-- from that. Assumes nothing.
use mathlib.Core.Path.{refl, ◌∙◌}
use borrow.Author.Rules.{rules}
use Rattle.crossing.proofs.Opening.{closed, opened_both}
use Rattle.crossing.proofs.Inheriting.{root_zeros, prepared}
use Rattle.crossing.proofs.tables.Goals as goal

pub landings-requires : goal.landings-requires
landings-requires c =
    (c.requires.0.well_formed, search rules, c.requires.1, c.requires.2, opened_both (closed 64) c.open_above.ensures c.open_above-2.ensures, refl)

pub inherit_above-requires : goal.inherit_above-requires
inherit_above-requires c =
    let list = c.landings.ensures.list in
    (c.requires.0.well_formed, list, refl, c.requires.1, root_zeros c.requires.0.well_formed.sound _ 1024)

pub inherit_above-requires-2 : goal.inherit_above-requires-2
inherit_above-requires-2 c = (
  c.requires.0.well_formed,
  c.landings.ensures.list,
  c.inherit_above.auto.up,
  c.requires.2,
  λ x range. c.inherit_above.ensures.kept _ x range (root_zeros c.requires.0.well_formed.sound _ 1024 x range),
)

pub rows-requires : goal.rows-requires
rows-requires c = (
  c.requires.0,
  search rules,
  prepared _ c.args.a c.args.b (opened_both (closed 64) c.open_above.ensures c.open_above-2.ensures) c.landings.ensures
      (c.inherit_above-2.auto.up ∙ c.inherit_above.auto.up) c.inherit_above.ensures c.inherit_above-2.ensures,
  c.requires.3,
  c.requires.4,
)

pub returns : goal.returns
returns c =
    rw (← opened_both (closed 64) c.open_above.ensures c.open_above-2.ensures) c.rows.ensures
