-- `truesheet::chains_fit` meets its contract. The loop's invariant: the names of nodes below `n` lead to a start, and what is counted is
-- counted right. Assumes nothing.
use mathlib.Core.Path.{refl}
use lib.ListN.{get_or-replicate}
use borrow.Author.Count.{below_none, below_more}
use Rattle.definitions.specs.Sheet.{rows_of}
use Rattle.truesheet.specs.Fits.{uncounted, ChainFits}
use Rattle.truesheet.proofs.Chains.{counted_none}
use Rattle.truesheet.proofs.chains_fit.Goals as goal

pub loop-n-init : goal.loop-n-init
loop-n-init c =
    let r = rows_of c.args.sheet.now in
    (counted_none r refl (λ n small. get_or-replicate 256 n uncounted 0 small), below_none (ChainFits r))

pub loop-n-preserved : goal.loop-n-preserved
loop-n-preserved c =
    let f = c.follow-k in
    let near = c.if-k-gt-STEPS.false in (
      c.settle.ensures,
      below_more (ChainFits (rows_of c.args.sheet.now)) c.loop-n.n c.loop-n.invariant.1 (f.result, near, f.ensures.near near),
    )
