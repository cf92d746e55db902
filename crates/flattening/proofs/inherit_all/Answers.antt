-- `flattening::inherit_all` meets its contract: the machines of the levels passed have their rows. Assumes nothing.
use Rattle.flattening.proofs.Laws.{root_level}
use Rattle.flattening.proofs.inherit_all.Goals as goal

pub loop-l-init : goal.loop-l-init
loop-l-init c = root_level c.requires.0.sound c.args.lands.now c.args.up.now c.requires.3
