-- `refreshing::gather_node` meets its contract: a node of the machine gets the next place. Assumes nothing.
use Rattle.refreshing.proofs.Gathering.{not_owned, is_owned, gathered_skip, gathered_more}
use Rattle.refreshing.proofs.gather_node.Goals as goal

pub returns-then-owner-m : goal.returns-then-owner-m
returns-then-owner-m c =
    gathered_skip c.requires.3 (not_owned c.owner.ensures c.if-owner-m.true)

pub returns : goal.returns
returns c =
    let p = c.requires in
    gathered_more p.3 p.2 (is_owned c.owner.ensures c.if-owner-m.false p.1)
