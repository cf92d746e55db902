-- `printing::print_session` meets its contract: the front of a long input has as many bytes as a session reads, and a shorter input is its own
-- front. Assumes nothing.
use mathlib.Core.Path.{sym}
use native.Mathlib.Omega.{arith}
use lib.Seq.{length-take-le}
use Rattle.definitions.specs.Limits.{longest_input}
use Rattle.printing.proofs.Runs.{session_made, session_whole}
use Rattle.printing.proofs.print_session.Goals as goal

pub slice_bounds-print_input-end : goal.slice_bounds-print_input-end
slice_bounds-print_input-end c =
    sym (length-take-le longest_input c.args.input.now (omega (arith, c.if-input-gt-INPUT.true)))

pub returns-then-input-gt-INPUT : goal.returns-then-input-gt-INPUT
returns-then-input-gt-INPUT c = session_made c.print_input.ensures

pub returns : goal.returns
returns c = session_whole (omega (arith, c.if-input-gt-INPUT.false)) c.print_input-2.ensures
