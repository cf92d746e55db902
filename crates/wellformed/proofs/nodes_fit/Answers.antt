-- `wellformed::nodes_fit` meets its contract. The loop's invariant: the nodes below `n` fit. Assumes nothing.
use borrow.Author.Count.{below_more}
use Rattle.definitions.specs.Book.{tree_of}
use Rattle.wellformed.specs.Fits.{NodeFits}
use Rattle.book.proofs.Decide.{passed}
use Rattle.std.proofs.lemmas.Bool.{not_from_true}
use Rattle.wellformed.proofs.nodes_fit.Goals as goal

pub loop-n-preserved : goal.loop-n-preserved
loop-n-preserved c =
    let r = c.node_fits in
    below_more (NodeFits (tree_of c.args.book.now)) c.loop-n.n c.loop-n.invariant
    (passed r.result r.ensures (not_from_true _ c.if-not-node_fits.false))
