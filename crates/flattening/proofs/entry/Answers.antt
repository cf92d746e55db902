-- `flattening::entry` meets its contract: what is stored is the step by what the command finds. Assumes nothing.
use mathlib.Core.Path.{refl}
use Rattle.search.proofs.Tables.{entry_stored}
use Rattle.flattening.proofs.Laws.{entry_step}
use Rattle.flattening.proofs.entry.Goals as goal

pub returns : goal.returns
returns c =
    let a = c.args in
    entry_stored c.requires.6 (c.requires.0.sound.node_range a.n a.m c.requires.3) c.requires.4 refl _ _
    (entry_step c.requires.0.sound c.requires.1 a.n a.x c.find-w.result c.find-w.ensures)
