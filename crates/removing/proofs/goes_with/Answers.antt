-- `removing::goes_with` meets its contract: the list is read at the node's machine. Assumes nothing.
use Rattle.removing.proofs.Pass.{goes_unused, machine_range, goes_owned}
use Rattle.removing.proofs.goes_with.Goals as goal

pub returns-then-m-eq-ABSENT : goal.returns-then-m-eq-ABSENT
returns-then-m-eq-ABSENT c =
    goes_unused c.args.book.now c.args.gone.now c.args.n c.args.k c.requires.2 c.if-n-k.false
    c.owner-m.ensures
    c.if-m-eq-ABSENT.true

pub bounds-gone-m : goal.bounds-gone-m
bounds-gone-m c =
    machine_range c.args.book.now c.args.gone.now c.args.n c.args.k c.requires.2 c.if-n-k.false
    c.owner-m.ensures
    c.if-m-eq-ABSENT.false

pub returns : goal.returns
returns c =
    goes_owned c.args.book.now c.args.gone.now c.args.n c.args.k c.requires.2 c.if-n-k.false
    c.owner-m.ensures
    c.if-m-eq-ABSENT.false
