-- `merging::write_transitions` meets its contract. The loop's invariant: the book has the node's transitions for the commands under `x`. Assumes
-- nothing.
use Rattle.merging.proofs.Rooted.{recorded_transition}
use Rattle.merging.proofs.write_transitions.Goals as goal

pub loop-x-preserved : goal.loop-x-preserved
loop-x-preserved c = (
  c.set_transition.ensures.length,
  λ r a b s less.
      recorded_transition c.args.first.now c.args.second.now r a b s c.args.n c.loop-x.x c.beside_transition-w.result
      (c.loop-x.invariant.1 r a b s less) c.set_transition.ensures (c.beside_transition-w.ensures s),
)
