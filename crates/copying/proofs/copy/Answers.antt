-- `copying::copy` meets its contract: past the refusals, what Write says and what Load says of the stream written, taken together. Assumes
-- nothing.
use mathlib.Core.List.{[]}
use mathlib.Core.Path.{refl}
use Rattle.definitions.specs.Calls.{sheet_refusals}
use Rattle.refusals.proofs.Judging.{judged_ok}
use Rattle.copying.proofs.Copied.{copied}
use Rattle.copying.proofs.copy.Goals as goal

pub returns : goal.returns
returns c =
    let a = c.args in
    let lent = judged_ok (sheet_refusals a.other.now a.sheet.now []) c.judge.ensures c.in_ok-judge.was refl in
    copied a.book.now a.out.now a.other.now a.sheet.now lent.1.0 lent.1.1.0 c.in_ok-n.ensures c.load.ensures
