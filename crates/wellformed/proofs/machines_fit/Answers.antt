-- `wellformed::machines_fit` meets its contract. The loop's invariant: the machines below `m` fit. Assumes nothing.
use borrow.Author.Count.{below_more}
use Rattle.definitions.specs.Book.{tree_of}
use Rattle.wellformed.specs.Fits.{MachineFits}
use Rattle.book.proofs.Decide.{passed}
use Rattle.std.proofs.lemmas.Bool.{not_from_true}
use Rattle.wellformed.proofs.machines_fit.Goals as goal

pub loop-m-preserved : goal.loop-m-preserved
loop-m-preserved c =
    let r = c.machine_fits in
    below_more (MachineFits (tree_of c.args.book.now)) c.loop-m.m c.loop-m.invariant
    (passed r.result r.ensures (not_from_true _ c.if-not-machine_fits.false))
