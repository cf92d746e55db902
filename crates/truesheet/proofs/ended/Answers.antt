-- `truesheet::ended` meets its contract: each test settles one thing that is asked of a last node. Assumes nothing.
use Rattle.definitions.specs.Sheet.{rows_of}
use Rattle.truesheet.proofs.Machines.{ended_far, ended_other, ended_moves, ended_decides}
use Rattle.truesheet.proofs.ended.Goals as goal

pub returns-then-u-ge-NODES : goal.returns-then-u-ge-NODES
returns-then-u-ge-NODES c =
    let a = c.args in
    ended_far c.requires.0.well_formed.sound (rows_of a.sheet.now) a.m a.x a.c c.last-u.ensures c.if-u-ge-NODES.true

pub returns-then-owner-m : goal.returns-then-owner-m
returns-then-owner-m c =
    let a = c.args in
    ended_other c.requires.0.well_formed.sound (rows_of a.sheet.now) a.m a.x a.c c.last-u.ensures
    c.owner.ensures c.if-owner-m.true

pub returns-then-counting : goal.returns-then-counting
returns-then-counting c =
    let a = c.args in
    ended_moves c.requires.0.well_formed.sound (rows_of a.sheet.now) a.m a.x a.c c.last-u.ensures
    c.counting.ensures c.if-counting.true

pub returns : goal.returns
returns c =
    let a = c.args in
    ended_decides c.requires.0.well_formed.sound (rows_of a.sheet.now) a.m a.x a.c c.last-u.ensures c.adds_up.result
    c.requires.1 c.if-u-ge-NODES.false c.owner.ensures c.if-owner-m.false c.counting.ensures c.if-counting.false
    c.adds_up.ensures
