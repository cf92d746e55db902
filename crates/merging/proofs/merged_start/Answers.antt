-- `merging::merged_start` meets its contract: the new root starts at the lower of its nodes. Assumes nothing.
use mathlib.Core.Path.{◌∙◌}
use Rattle.merging.proofs.Rooted.{start_root, start_else}
use Rattle.merging.proofs.merged_start.Goals as goal

pub returns-then-m-h : goal.returns-then-m-h
returns-then-m-h c =
    let a = c.args in
    start_root a.first.now a.second.now a.h.root a.h.first a.h.second a.h.top a.m c.if-m-h.true

pub returns : goal.returns
returns c =
    let a = c.args in
    c.beside_field.ensures a.h.top ∙ start_else a.first.now a.second.now a.h.root a.h.first a.h.second a.h.top a.m c.if-m-h.false
