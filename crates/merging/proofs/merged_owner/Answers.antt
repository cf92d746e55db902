-- `merging::merged_owner` meets its contract: the new root's nodes belong to it. Assumes nothing.
use mathlib.Core.Path.{◌∙◌}
use Rattle.merging.proofs.Rooted.{owner_second, owner_first, owner_else}
use Rattle.merging.proofs.merged_owner.Goals as goal

pub returns-then-n-h : goal.returns-then-n-h
returns-then-n-h c =
    let a = c.args in
    owner_second a.first.now a.second.now a.h.root a.h.first a.h.second a.h.top a.n c.if-n-h.true

pub returns-then-n-h-2 : goal.returns-then-n-h-2
returns-then-n-h-2 c =
    let a = c.args in
    owner_first a.first.now a.second.now a.h.root a.h.first a.h.second a.h.top a.n c.if-n-h.false c.if-n-h-2.true

pub returns : goal.returns
returns c =
    let a = c.args in
    c.beside_field.ensures a.h.top ∙ owner_else a.first.now a.second.now a.h.root a.h.first a.h.second a.h.top a.n c.if-n-h.false c.if-n-h-2.false
