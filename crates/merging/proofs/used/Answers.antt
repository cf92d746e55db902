-- `merging::used` meets its contract. Assumes nothing.
use Rattle.judging.proofs.Laws.{machine_told, node_told}
use Rattle.merging.proofs.used.Goals as goal

pub returns-in-Machines : goal.returns-in-Machines
returns-in-Machines c = rw c.in-Machines.is (machine_told c.args.book.now c.requires.0 c.args.k c.start.ensures)

pub returns-in-Nodes : goal.returns-in-Nodes
returns-in-Nodes c = rw c.in-Nodes.is (node_told c.args.book.now c.requires.0 c.args.k c.owner.ensures)
