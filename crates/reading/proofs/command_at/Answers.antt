-- `reading::command_at` meets its contract: the end, an unknown opcode, a command cut short, or a command. Assumes nothing.
use mathlib.Core.Path.{◌≡◌, sym, ◌∙◌, ap, subst}
use mathlib.Core.Option.{some}
use native.Mathlib.Omega.{arith}
use Rattle.std.proofs.Common.{Some, None}
use Rattle.std.proofs.lemmas.Result.{err_from_is_err_and}
use Rattle.definitions.specs.Stream.{operand_length}
use Rattle.refusals.specs.Meaning.{value_of}
use Rattle.refusals.specs.declared.Refusal.{Refusal}
use Rattle.reading.specs.Meaning.{decoded_of, NarrowDecoded}
use Rattle.reading.proofs.Laws.{next_ended, next_unknown, next_cut, next_whole, never_undecoded}
use Rattle.reading.proofs.command_at.Goals.{In_ok-size}
use Rattle.reading.proofs.command_at.Goals as goal

-- the opcode is known
known : (c : In_ok-size) → some c.in_ok-size.size ≡ operand_length c.byte-op.result
known c =
    let there : c.operand_length.result ≡ Some c.in_ok-size.size = grind arith in
    ap value_of (sym there) ∙ c.operand_length.ensures

pub returns-then-stream-taken : goal.returns-then-stream-taken
returns-then-stream-taken c =
    let a = c.args in
    record { next = next_ended a.stream.now a.taken c.if-stream-taken.true; narrow = tt }

pub returns-in_err-size : goal.returns-in_err-size
returns-in_err-size c =
    let a = c.args in
    let nothing : c.operand_length.result ≡ None = grind arith in
    let none_known = ap value_of (sym nothing) ∙ c.operand_length.ensures in
    let p = err_from_is_err_and c.from_residual.result c.from_residual.ensures.1 in
    let same : c.in_err-size.field-0.0 ≡ Refusal.UnknownOpcode = grind arith in
    rw (p.1, p.2, same) (record {
      next = next_unknown a.stream.now a.taken c.byte-op.ensures.0 c.if-stream-taken.false none_known;
      narrow = tt;
    })

pub returns-then-stream-taken-2 : goal.returns-then-stream-taken-2
returns-then-stream-taken-2 c =
    let a = c.args in
    record {
      next = next_cut a.stream.now a.taken c.byte-op.ensures.0 c.if-stream-taken.false (known (goal.at.returns-then-stream-taken-2 c).In_ok-size) c.if-stream-taken-2.true;
      narrow = tt;
    }

pub returns-in_err-command : goal.returns-in_err-command
returns-in_err-command c =
    let a = c.args in
    let nothing : c.decode.result ≡ None = grind arith in
    let missing = ap decoded_of (sym nothing) ∙ c.decode.ensures.0 in
    absurd (never_undecoded a.stream.now a.taken c.byte-op.ensures.0 c.if-stream-taken.false (known (goal.at.returns-in_err-command c).In_ok-size) missing)

pub returns : goal.returns
returns c =
    let a = c.args in
    let there : c.decode.result ≡ Some c.in_ok-command.command = grind arith in
    let says = ap decoded_of (sym there) ∙ c.decode.ensures.0 in
    record {
      next = next_whole a.stream.now a.taken c.byte-op.ensures.0 c.if-stream-taken.false (known (goal.at.returns c).In_ok-size) c.if-stream-taken-2.false says;
      narrow = subst NarrowDecoded there c.decode.ensures.1;
    }
