-- `beginning::empty` meets its contract: every node and every machine is dropped. Assumes nothing.
use lib.ListN.{replicate}
use Rattle.definitions.specs.Limits.{machines, nodes}
use Rattle.beginning.proofs.Laws.{ones, all_empty}
use Rattle.beginning.proofs.empty.Goals as goal

pub returns : goal.returns
returns c =
    all_empty c.args.book.now (replicate nodes 1) (replicate machines 1) (ones nodes) (ones machines)
    c.requires.1 c.clear_nodes.ensures
    c.clear_machines.ensures
