-- `bycommand::merge` meets its contract: turning changes no length, so a wrong one is refused as by node. Assumes nothing.
use mathlib.Core.Path.{refl, sym, ◌∙◌}
use mathlib.Core.Logic.{inl}
use Rattle.bycommand.proofs.Laws.{node_same}
use Rattle.bycommand.proofs.merge.Goals as goal

pub returns-then-first-ne-TURNED : goal.returns-then-first-ne-TURNED
returns-then-first-ne-TURNED c =
    inl (λ right. c.if-first-ne-TURNED.true (sym (node_same c.args.first.now) ∙ right.0), (refl, refl, refl))

pub returns-then-second-ne-TURNED : goal.returns-then-second-ne-TURNED
returns-then-second-ne-TURNED c =
    inl (λ right. c.if-second-ne-TURNED.true (sym (node_same c.args.second.now) ∙ right.1), (refl, refl, refl))

pub returns-then-book-ne-TURNED : goal.returns-then-book-ne-TURNED
returns-then-book-ne-TURNED c =
    inl (λ right. c.if-book-ne-TURNED.true (sym (node_same c.args.book.now) ∙ right.2.0), (refl, refl, refl))
