-- `merging::merged_holder` meets its contract: the two old roots are held by the new root's nodes. Assumes nothing.
use mathlib.Core.Path.{sym, ◌∙◌}
use Rattle.merging.proofs.Rooted.{holder_second, holder_first, holder_else}
use Rattle.merging.proofs.merged_holder.Goals as goal

pub returns-then-m-h : goal.returns-then-m-h
returns-then-m-h c =
    let a = c.args in
    holder_second a.first.now a.second.now a.h.root a.h.first a.h.second a.h.top a.m c.if-m-h.true

pub returns-then-m-root : goal.returns-then-m-root
returns-then-m-root c =
    let a = c.args in
    holder_first a.first.now a.second.now a.h.root a.h.first a.h.second a.h.top a.m c.if-m-h.false (c.if-m-root.true ∙ c.root.ensures)

pub returns : goal.returns
returns c =
    let a = c.args in
    c.beside_field.ensures a.h.top
    ∙ holder_else a.first.now a.second.now a.h.root a.h.first a.h.second a.h.top a.m c.if-m-h.false (λ e. c.if-m-root.false (e ∙ sym c.root.ensures))
