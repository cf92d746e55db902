-- `wholerun::prepare` meets its contract: the streams and the refresh are one list of Loads on what the opening left. Assumes nothing.
use native.Mathlib.Omega.{arith}
use Rattle.wholerun.specs.Ends.{streams_of}
use Rattle.wholerun.specs.Meaning.{opening_of}
use Rattle.wholerun.proofs.Streams.{loads_both, all_bytes, streams_bytes}
use Rattle.wholerun.proofs.Demand3.{prepared}
use Rattle.wholerun.proofs.Says.{opens}
use Rattle.wholerun.proofs.prepare.Goals as goal

pub returns : goal.returns
returns c =
    let o = opening_of c.args.opening c.args.rows.now in
    let streams = streams_of 0 c.args.ends.now c.args.bytes.now in
    let bytes = all_bytes c.args.bytes.now (λ i. omega (arith, c.type_inv.bytes i)) in
    let opened = c.in_ok-open.ensures in
    opens o streams c.args.book.now c.args.sheet.now c.open.new.book c.open.new.sheet opened
    (prepared o streams (streams_bytes 0 c.args.ends.now c.args.bytes.now bytes) c.args.book.now c.args.sheet.now opened
    (loads_both c.load_all.ensures c.refresh.ensures))
