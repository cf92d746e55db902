-- `merging::merged_below` meets its contract: the new root's nodes hold the two old roots. Assumes nothing.
use mathlib.Core.Path.{◌∙◌}
use Rattle.merging.proofs.Rooted.{below_second, below_first, below_else}
use Rattle.merging.proofs.merged_below.Goals as goal

pub returns-then-n-h : goal.returns-then-n-h
returns-then-n-h c =
    let a = c.args in
    below_second a.first.now a.second.now a.h.root a.h.first a.h.second a.h.top a.n c.if-n-h.true

pub returns-then-n-h-2 : goal.returns-then-n-h-2
returns-then-n-h-2 c =
    let a = c.args in
    c.root.ensures ∙ below_first a.first.now a.second.now a.h.root a.h.first a.h.second a.h.top a.n c.if-n-h.false c.if-n-h-2.true

pub returns : goal.returns
returns c =
    let a = c.args in
    c.beside_field.ensures a.h.top ∙ below_else a.first.now a.second.now a.h.root a.h.first a.h.second a.h.top a.n c.if-n-h.false c.if-n-h-2.false
