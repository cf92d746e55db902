-- `refreshing::fill_if_stale` meets its contract: a machine of another level, one that is not stale, one that can be filled. Assumes nothing.
use mathlib.Core.Path.{◌∙◌}
use Rattle.refreshing.proofs.Order.{step_fillable}
use Rattle.refreshing.proofs.fill_if_stale.Goals as goal

pub fill_machine-requires : goal.fill_machine-requires
fill_machine-requires c =
    let p = c.requires in (
      p.0,
      p.1,
      p.4,
      step_fillable p.1 p.0.sound c.stale.ensures c.if-stale-ne1.false p.3
          (c.word.ensures ∙ p.2.at c.args.m p.4) c.if-word-l.false,
      p.5,
    )
