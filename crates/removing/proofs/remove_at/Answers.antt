-- `removing::remove_at` meets its contract: the node goes, or its transitions into n are cleared, or it has none. Assumes nothing.
use mathlib.Core.Path.{sym, ◌∙◌}
use borrow.Author.Tests.{ne_eqb}
use Rattle.definitions.specs.Book.{tree_of}
use Rattle.book.specs.Chosen.{chosen}
use Rattle.removing.specs.Within.{goes_with}
use Rattle.removing.proofs.Pass.{node_stays}
use Rattle.removing.proofs.remove_at.Goals as goal

pub returns-then-owner-p : goal.returns-then-owner-p
returns-then-owner-p c =
    node_stays c.args.book.now (goes_with (tree_of c.args.book.now) (chosen c.args.gone.now) c.args.n) c.args.n
    c.args.k
    c.args.sheet.now
    c.requires.0
    (sym c.goes_with.ensures ∙ ne_eqb c.goes_with.result 1 c.if-goes_with-eq1.false)
    c.requires.3
    c.owner.ensures
    c.if-owner-p.true
