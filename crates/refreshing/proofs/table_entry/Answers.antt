-- `refreshing::table_entry` meets its contract: no move without a transition or an exit; else the target's place and the sum. Assumes
-- nothing.
use Rattle.definitions.specs.Sheet.{rows_of}
use Rattle.refreshing.proofs.Exits.{leave_none, leave_some}
use Rattle.refreshing.proofs.Tabling.{entry_blank, entry_never, entry_costs}
use Rattle.refreshing.proofs.table_entry.Goals as goal

pub returns-then-w : goal.returns-then-w
returns-then-w c =
    let a = c.args in
    entry_blank c.requires.0.well_formed.sound (rows_of a.sheet.now) a.places.now a.n a.x c.counting-w.ensures
    c.if-w.true

pub returns-then-price : goal.returns-then-price
returns-then-price c =
    let a = c.args in
    entry_never c.requires.0.well_formed.sound (rows_of a.sheet.now) a.places.now a.n a.x c.counting-w.ensures
    (leave_none c.leave-price.ensures c.if-price.true)

pub returns : goal.returns
returns c =
    let a = c.args in
    let (cost, exit, sum) = leave_some c.leave-price.ensures c.if-price.false in
    entry_costs c.requires.0.well_formed.sound (rows_of a.sheet.now) a.places.now a.n a.x c.counting-w.ensures
    c.if-w.false c.requires.1 exit c.word-v.ensures sum
