-- `walking::step_walker` meets its contract, by what Step says of the walker's state. Assumes nothing.
use mathlib.Core.Path.{sym, ◌∙◌}
use Rattle.walking.proofs.Says.{leads_in_range, crowded, steps}
use Rattle.walking.proofs.step_walker.Goals as goal

pub exceeds-requires : goal.exceeds-requires
exceeds-requires c = (
  c.requires.1,
  c.requires.1.sound.node_range c.args.w.state c.requires.0.0.0 c.requires.0.0.1,
  leads_in_range c.args.book.now c.requires.1 c.args.w.state c.args.x c.requires.0 c.requires.2 c.in_ok-moved.ensures,
)

pub returns-then-exceeds : goal.returns-then-exceeds
returns-then-exceeds c =
    crowded c.args.book.now c.requires.1 c.args.w.state c.args.x c.requires.0 c.requires.2 c.args.n c.args.full c.in_ok-moved.ensures
    (sym c.exceeds.ensures ∙ c.if-exceeds.true)

pub returns : goal.returns
returns c =
    steps c.args.book.now c.requires.1 c.args.w.state c.args.x c.requires.0 c.requires.2 c.args.n c.args.full c.in_ok-moved.ensures
    (sym c.exceeds.ensures ∙ c.if-exceeds.false)
