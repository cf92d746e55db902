-- `loading::take_next` meets its contract: the end, a refusal as it is written or on the tree, or the command done. Assumes nothing.
use mathlib.Core.Path.{◌≡◌, refl, sym, ◌∙◌, ap}
use lib.ListN.{drop}
use Rattle.std.proofs.Common.{Option, Ok}
use Rattle.std.proofs.lemmas.Result.{err_from_is_err_and}
use Rattle.definitions.specs.Stream.{taken, read_next}
use Rattle.refusals.proofs.Judging.{number_positive}
use Rattle.reading.specs.Meaning.{command_of, read_of}
use Rattle.reading.specs.declared.Taken.{Taken}
use Rattle.loading.proofs.Turns.{turn_ended, turn_unread, turn_refused, turn_taken}
use Rattle.loading.proofs.take_next.Goals.{In-Some}
use Rattle.loading.proofs.take_next.Goals as goal

-- the command that stands next
stands : (c : In-Some)
    → let a = c.args in
    let t = c.in-Some.field-0 in
    taken (command_of t.command) t.size ≡ read_next (drop a.taken a.stream.now)
stands c = ap (λ (o : Option Taken). read_of (Ok o)) (sym c.in-Some.is) ∙ c.in_ok-command.ensures.next

pub returns-in_err-command : goal.returns-in_err-command
returns-in_err-command c =
    let a = c.args in
    let p = err_from_is_err_and c.from_residual.result c.from_residual.ensures.1 in
    rw (p.1, p.2) (turn_unread a.book.now a.sheet.now (drop a.taken a.stream.now) c.in_err-command.ensures.next)

pub returns-in_default : goal.returns-in_default
returns-in_default c =
    let a = c.args in
    turn_ended a.book.now a.sheet.now (drop a.taken a.stream.now)
    (ap (λ (o : Option Taken). read_of (Ok o)) (sym c.in_default.is) ∙ c.in_ok-command.ensures.next)

pub returns-in_err-judge : goal.returns-in_err-judge
returns-in_err-judge c =
    let a = c.args in
    let p = err_from_is_err_and c.from_residual-in_err-judge.result c.from_residual-in_err-judge.ensures.1 in
    rw (p.1, p.2)
    (turn_refused a.book.now a.sheet.now (drop a.taken a.stream.now) (stands (goal.at.returns-in_err-judge c).In-Some) c.in_err-judge.ensures
    (number_positive c.in_err-judge.field-0.0))

pub returns : goal.returns
returns c =
    let a = c.args in
    turn_taken a.book.now a.sheet.now (drop a.taken a.stream.now) (stands (goal.at.returns c).In-Some) c.in_ok-judge.ensures refl c.do_command.ensures
