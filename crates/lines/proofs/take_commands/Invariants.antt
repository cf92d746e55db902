-- `lines::take_commands` meets its contract: commands are taken from the first offset to the one in hand, and each turn takes a byte at least.
-- Assumes nothing.
use Prim.Native.Nat.{◌-◌}
use lib.ListN.{length}
use Rattle.lines.specs.Meaning.{Taken}
use Rattle.lines.proofs.take_commands.Given as goal

abbrev pub invariant-loop-size : goal.invariant-loop-size
invariant-loop-size l = Taken l.input l.initial.book l.initial.sheet l.at l.to l.book l.sheet

abbrev pub decreases-loop-size : goal.decreases-loop-size
decreases-loop-size l = length l.input - l.to
