-- `lines::put_numbers` meets its contract: what is stored so far is the numbers passed. Assumes nothing.
use lib.ListN.{take}
use Rattle.storing.specs.Stored.{Stored}
use Rattle.lines.specs.Meaning.{numbers}
use Rattle.lines.proofs.put_numbers.Given as goal

abbrev pub invariant-loop-i : goal.invariant-loop-i
invariant-loop-i l = Stored l.initial.list l.at (numbers (take l.i l.bytes)) l.p l.list
