-- `walking::judge` meets its contract: where those from the index on have what is asked, all have it. Assumes nothing.
use lib.ListN.{drop}
use Rattle.definitions.specs.Basics.{All}
use Rattle.definitions.specs.Book.{tree_of}
use Rattle.walking.specs.Meaning.{Meets}
use Rattle.walking.proofs.judge.Given as goal

abbrev pub invariant-loop-s : goal.invariant-loop-s
invariant-loop-s l = All (Meets l.asked (tree_of l.book)) (drop l.s-index l.states) → All (Meets l.asked (tree_of l.book)) l.states
