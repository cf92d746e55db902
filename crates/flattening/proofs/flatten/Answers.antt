-- `flattening::flatten` meets its contract: where the nodes are entered, what the machines inherit, and the rows from both. Assumes nothing.
use mathlib.Core.Path.{refl}
use Rattle.inheriting.proofs.Inheriting.{root_zeros}
use Rattle.flattening.proofs.flatten.Goals as goal

pub inherit_all-requires : goal.inherit_all-requires
inherit_all-requires c =
    (c.requires.0, c.entered.ensures.list, refl, root_zeros c.requires.0.sound _ 1024)
