-- `writing::machine_leave` meets its contract: the machine's word is 0 and nothing is stored, or its bytes are. Assumes nothing.
use Rattle.definitions.specs.Book.{tree_of}
use Rattle.storing.proofs.Laws.{stored_none, stored_is}
use Rattle.writing.proofs.Laws.{leave_none, leave_machine}
use Rattle.writing.proofs.machine_leave.Goals as goal

pub returns-then-v-eq0 : goal.returns-then-v-eq0
returns-then-v-eq0 c =
    let t = tree_of c.args.book.now in
    stored_none c.args.out.now c.args.at (leave_none t c.args.m c.leave-v.ensures c.if-v-eq0.true)

pub returns : goal.returns
returns c =
    let t = tree_of c.args.book.now in
    stored_is c.put_machine_pair.ensures (leave_machine t c.args.m c.leave-v.ensures c.if-v-eq0.false)
