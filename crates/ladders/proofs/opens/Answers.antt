-- `ladders::opens` meets its contract: the filled book is judged, and then the starts. Assumes nothing.
use Rattle.book.proofs.Decide.{decides_same}
use Rattle.ladders.proofs.Laws.{formed, opens_by, starts_by}
use Rattle.ladders.proofs.opens.Goals as goal

pub returns-then-well_formed : goal.returns-then-well_formed
returns-then-well_formed c =
    let rows = c.args.rows.now in
    let held = c.open_book.ensures in
    decides_same c.starts_right.result (opens_by rows held c.if-well_formed.ensures) (starts_by rows held) c.starts_right.ensures

pub returns-else-well_formed : goal.returns-else-well_formed
returns-else-well_formed c =
    let rows = c.args.rows.now in
    rw c.if-well_formed.false (λ opens. c.if-well_formed.ensures (formed rows c.open_book.ensures opens))
