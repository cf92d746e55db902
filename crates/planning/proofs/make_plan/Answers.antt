-- `planning::make_plan` meets its contract: where b has a distance the expanded names are a plan, and where not there is no way. Assumes
-- nothing.
use mathlib.Core.Path.{refl}
use native.Mathlib.Omega.{arith}
use Rattle.planning.proofs.Laws.{no_way, cost_fits, names_lead, list_fits, planned}
use Rattle.planning.proofs.make_plan.Goals as goal

pub returns-then-cost : goal.returns-then-cost
returns-then-cost c =
    no_way c.requires.0 c.cross.ensures c.args.buffer.now c.if-cost.true

pub expand-count-requires : goal.expand-count-requires
expand-count-requires c = (
  record { well_formed = c.requires.0.formed; true_sheet = c.requires.0.true_sheet; fresh = c.requires.0.fresh },
  c.cross.ensures.room.before_room,
  c.cross.ensures.room.by_room,
  names_lead c.requires.0 c.cross.ensures c.if-cost.false,
  list_fits c.requires.0 c.cross.ensures c.if-cost.false c.requires.1,
)

pub overflow_cast-result : goal.overflow_cast-result
overflow_cast-result c =
    omega (arith, cost_fits c.requires.0 c.cross.ensures c.if-cost.false)

pub returns : goal.returns
returns c =
    planned c.requires.0 c.cross.ensures c.if-cost.false refl c.expand-count.ensures.0 c.expand-count.ensures.1
