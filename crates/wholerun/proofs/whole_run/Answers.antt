-- `wholerun::whole_run` meets its contract: each way out shows its refusal, or that none holds and demand 3 is met. Assumes nothing.
use mathlib.Core.Path.{refl}
use native.Mathlib.Omega.{arith}
use Rattle.definitions.specs.Demand.{with_refresh}
use Rattle.definitions.proofs.Kept.{expected_sound}
use Rattle.definitions.proofs.Opened.{comes_sound}
use Rattle.book.proofs.Decide.{passed}
use Rattle.wholerun.specs.Ends.{streams_of}
use Rattle.wholerun.specs.Meaning.{opening_of}
use Rattle.wholerun.proofs.Streams.{all_bytes, streams_bytes}
use Rattle.wholerun.proofs.Demand3.{refreshed_bytes, answered}
use Rattle.wholerun.proofs.Says.{says_answered}
use Rattle.std.proofs.lemmas.Bool.{not_from_true}
use Rattle.wholerun.proofs.whole_run.Goals as goal

pub returns : goal.returns
returns c =
    let bytes = all_bytes c.args.bytes.now (λ i. omega (arith, c.type_inv.bytes i)) in
    let streams = streams_of 0 c.args.ends.now c.args.bytes.now in
    says_answered (opening_of c.args.opening c.args.rows.now) c.args.book.now c.args.sheet.now c.args.bytes.now c.args.ends.now c.args.a c.args.b
    c.args.buffer.now
    c.if-buffer-ne-BUFFER.false (passed c.well_ended.result c.well_ended.ensures (not_from_true _ c.if-not-well_ended.false)) refl c.in_default.ensures
    (λ t comes ready.
    answered
    (expected_sound (comes_sound (opening_of c.args.opening c.args.rows.now) t comes) (with_refresh streams)
    (refreshed_bytes streams (streams_bytes 0 c.args.ends.now c.args.bytes.now bytes)))
    ready c.args.a c.args.b c.if-buffer-ne-BUFFER.false c.plan.ensures)
