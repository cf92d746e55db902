-- `truesheet::named` meets its contract: each test settles one thing that is asked of a name. Assumes nothing.
use Rattle.definitions.specs.Sheet.{rows_of}
use Rattle.truesheet.proofs.Nodes.{named_far, named_command, named_other, named_stays, named_elsewhere, named_decides}
use Rattle.truesheet.proofs.named.Goals as goal

pub returns-then-u-ge-NODES : goal.returns-then-u-ge-NODES
returns-then-u-ge-NODES c =
    let a = c.args in
    named_far c.requires.0.well_formed.sound (rows_of a.sheet.now) a.m a.n a.c c.before-u.ensures
    c.if-u-ge-NODES.true

pub returns-then-x-ge-COMMANDS : goal.returns-then-x-ge-COMMANDS
returns-then-x-ge-COMMANDS c =
    let a = c.args in
    named_command c.requires.0.well_formed.sound (rows_of a.sheet.now) a.m a.n a.c c.before-u.ensures
    c.by-x.ensures c.if-x-ge-COMMANDS.true

pub returns-then-owner-m : goal.returns-then-owner-m
returns-then-owner-m c =
    let a = c.args in
    named_other c.requires.0.well_formed.sound (rows_of a.sheet.now) a.m a.n a.c c.before-u.ensures c.by-x.ensures
    c.owner.ensures c.if-owner-m.true

pub returns-then-w : goal.returns-then-w
returns-then-w c =
    let a = c.args in
    named_stays c.requires.0.well_formed.sound (rows_of a.sheet.now) a.m a.n a.c c.before-u.ensures c.by-x.ensures
    c.counting-w.ensures c.if-w.true

pub returns-then-w-n : goal.returns-then-w-n
returns-then-w-n c =
    let a = c.args in
    named_elsewhere c.requires.0.well_formed.sound (rows_of a.sheet.now) a.m a.n a.c c.before-u.ensures
    c.by-x.ensures c.counting-w.ensures c.if-w.false c.if-w-n.true

pub returns : goal.returns
returns c =
    let a = c.args in
    named_decides c.requires.0.well_formed.sound (rows_of a.sheet.now) a.m a.n a.c c.before-u.ensures c.by-x.ensures
    c.counting-w.ensures c.adds_up.result c.requires.1 c.if-u-ge-NODES.false c.if-x-ge-COMMANDS.false c.owner.ensures
    c.if-owner-m.false c.if-w.false c.if-w-n.false c.adds_up.ensures
