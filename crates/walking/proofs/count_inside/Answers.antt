-- `walking::count_inside` meets its contract: those counted and those from the index on are all. Assumes nothing.
use native.Mathlib.Omega.{arith}
use Rattle.walking.proofs.Laws.{inside_on, inside_end}
use Rattle.walking.proofs.count_inside.Goals as goal

pub loop-s-preserved : goal.loop-s-preserved
loop-s-preserved c = grind (arith, inside_on, c.loop-s.invariant)

pub returns : goal.returns
returns c = grind (arith, inside_end, c.loop-s.invariant)
