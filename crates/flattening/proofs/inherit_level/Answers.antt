-- `flattening::inherit_level` meets its contract: the machines passed that are held at the level have their rows. Assumes nothing.
use native.Mathlib.Omega.{arith}
use Rattle.flattening.proofs.Laws.{level_next}
use Rattle.flattening.proofs.inherit_level.Goals as goal

pub returns : goal.returns
returns c = level_next c.requires.0.sound (omega arith) c.requires.3 c.requires.4 c.loop-m.invariant
