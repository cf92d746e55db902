-- `walking::walk` meets its contract: past its refusals it says what the walker's own command does. Assumes nothing.
use mathlib.Core.Path.{refl}
use Rattle.definitions.specs.Walk.{handed_refusals}
use Rattle.refusals.proofs.Judging.{judged_ok}
use Rattle.stepping.specs.Meaning.{answer_of}
use Rattle.walking.proofs.Says.{goes}
use Rattle.walking.proofs.walk.Goals as goal

pub returns : goal.returns
returns c =
    let a = c.args in
    goes a.book.now a.node a.limit a.walkers.now a.walker a.command
    (judged_ok (handed_refusals a.book.now a.node a.limit a.walkers.now) c.open_walkers.ensures c.in_ok-open_walkers.was refl)
    c.if-walkers-at.false c.if-command-ge-COMMANDS.false c.advance-answer.new.w.state (answer_of c.advance-answer.result) (rw (← c.count_inside.ensures) c.advance-answer.ensures)
