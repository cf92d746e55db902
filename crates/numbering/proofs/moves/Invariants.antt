-- `numbering::moves` meets its contract. The loop's invariant: the list has where each number under d moves, and next is where the next
-- one goes. Assumes nothing.
use lib.ListN.{length}
use Rattle.numbering.specs.Tests.{has}
use Rattle.numbering.proofs.Laws.{MovedUpto}
use Rattle.numbering.proofs.moves.Given as goal

abbrev pub invariant-loop-d : goal.invariant-loop-d
invariant-loop-d l = MovedUpto (length l.list) (has l.list l.v) (has l.other l.w) l.out l.next l.d
