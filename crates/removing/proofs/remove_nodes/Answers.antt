-- `removing::remove_nodes` meets its contract: after each turn the nodes below k are as remove leaves them. Assumes nothing.
use native.Mathlib.Omega.{arith}
use Rattle.stepping.proofs.Laws.{used_range}
use Rattle.clearing.proofs.Laws.{left_sized}
use Rattle.removing.proofs.Pass.{pass_linked, pass_more, pass_all}
use Rattle.removing.proofs.remove_nodes.Goals as goal

pub remove_at-requires : goal.remove_at-requires
remove_at-requires c = (
  left_sized c.loop-k.invariant,
  used_range c.args.book.now c.requires.0 c.args.n c.requires.2,
  omega arith,
  pass_linked c.args.book.now c.requires.0 c.args.sheet.now c.args.n c.loop-k.k c.loop-k.invariant c.requires.2
      c.owner-p.ensures,
)

pub loop-k-preserved : goal.loop-k-preserved
loop-k-preserved c =
    pass_more c.args.book.now c.requires.0 c.args.sheet.now c.args.n c.loop-k.k c.loop-k.invariant c.args.gone.now
    c.requires.3 c.remove_at.ensures

pub returns : goal.returns
returns c =
    pass_all c.args.book.now c.requires.0 c.args.sheet.now c.args.n c.loop-k.k (omega arith) c.loop-k.invariant
