-- `crossing::entry` meets its contract: what is stored is the move by what the command finds, where the node is left. Assumes nothing.
use mathlib.Core.Path.{refl, ◌∙◌}
use Rattle.definitions.specs.Book.{tree_of}
use Rattle.definitions.specs.Sheet.{rows_of}
use Rattle.search.proofs.Tables.{entry_stored}
use Rattle.inheriting.proofs.Inheriting.{finds_fits}
use Rattle.crossing.proofs.Tabling.{move_parts}
use Rattle.crossing.proofs.entry.Goals as goal

pub priced-found-requires : goal.priced-found-requires
priced-found-requires c = (
  record { is = refl; small = c.own_exit.ensures.small },
  finds_fits c.requires.0.well_formed.sound c.requires.1 c.args.n c.args.x c.find-w.result c.find-w.ensures,
)

pub returns : goal.returns
returns c =
    let a = c.args in
    entry_stored c.requires.6 (c.requires.0.well_formed.sound.node_range a.n a.m c.requires.3) c.requires.4 refl _ _
    (c.priced-found.ensures
    ∙ move_parts (tree_of a.book.now) (rows_of a.sheet.now) a.lands.now a.n a.x c.own_exit.ensures.is
    c.find-w.ensures)
