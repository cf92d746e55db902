-- `walking::meets` meets its contract, by what is asked. Assumes nothing.
use Rattle.walking.proofs.Laws.{used_by, plain_by, plain_out}
use Rattle.walking.proofs.meets.Goals as goal

pub returns-then-s-lt-NODES : goal.returns-then-s-lt-NODES
returns-then-s-lt-NODES c =
    rw c.in-Used.is (used_by c.requires.sound c.args.s c.owner.ensures)

pub returns-then-s-ge-NODES : goal.returns-then-s-ge-NODES
returns-then-s-ge-NODES c =
    rw c.in-Plain.is (plain_out c.requires.sound c.args.s c.if-s-ge-NODES.true)

pub returns-else-s-ge-NODES : goal.returns-else-s-ge-NODES
returns-else-s-ge-NODES c =
    rw c.in-Plain.is (plain_by c.requires.sound c.args.s c.below.ensures)
