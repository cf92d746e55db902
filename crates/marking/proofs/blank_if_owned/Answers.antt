-- `marking::blank_if_owned` meets its contract: the list is read at the node's machine. Assumes nothing.
use borrow.Author.Tests.{eq-eqb, ne_eqb}
use lib.ListN.{get_or}
use Rattle.marking.proofs.Blanks.{blank_unused, owner_in_range, blank_other, blank_own}
use Rattle.marking.proofs.blank_if_owned.Goals as goal

pub returns-then-m-eq-ABSENT : goal.returns-then-m-eq-ABSENT
returns-then-m-eq-ABSENT c =
    blank_unused c.args.book.now c.requires.0 c.args.list.now c.args.n c.owner-m.ensures c.args.sheet.now
    c.requires.1
    c.if-m-eq-ABSENT.true

pub bounds-list-m : goal.bounds-list-m
bounds-list-m c =
    owner_in_range c.args.book.now c.requires.0 c.args.list.now c.args.n c.owner-m.ensures c.if-m-eq-ABSENT.false

pub returns-then-list-m-ne1 : goal.returns-then-list-m-ne1
returns-then-list-m-ne1 c =
    blank_other c.args.book.now c.requires.0 c.args.list.now c.args.n c.owner-m.ensures c.if-m-eq-ABSENT.false
    c.args.sheet.now
    c.requires.1
    (ne_eqb (get_or c.args.list.now c.owner-m.result 0) 1 c.if-list-m-ne1.true)

pub returns : goal.returns
returns c =
    blank_own c.args.book.now c.requires.0 c.args.list.now c.args.n c.owner-m.ensures c.if-m-eq-ABSENT.false
    (eq-eqb (get_or c.args.list.now c.owner-m.result 0) 1 c.if-list-m-ne1.false)
    c.blank_node_row.ensures
