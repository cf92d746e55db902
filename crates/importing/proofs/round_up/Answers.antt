-- `importing::round_up` meets its contract: without its fraction x is the least whole number not below it, or one less. Assumes nothing.
use Rattle.std.proofs.Common.{◌∙◌}
use Rattle.importing.proofs.Rounding.{low_enough, high_enough, cut, cut_small, round_next, round_here}
use Rattle.importing.proofs.round_up.Goals as goal

pub truncating_f64_to_u64-whole-requires : goal.truncating_f64_to_u64-whole-requires
truncating_f64_to_u64-whole-requires c = record { lower_bound = low_enough c.args.x c.requires.0; upper_bound = high_enough c.args.x c.requires.0 c.requires.1 }

pub overflow_cast-whole : goal.overflow_cast-whole
overflow_cast-whole c =
    record { fits = rw (c.truncating_f64_to_u64-whole.ensures ∙ cut c.args.x c.requires.0 c.requires.1) (cut_small c.args.x c.requires.1) }

pub returns-then-back-x : goal.returns-then-back-x
returns-then-back-x c =
    round_next c.args.x c.truncating_f64_to_u64-whole.result c.requires.0 c.requires.1 c.truncating_f64_to_u64-whole.ensures c.if-back-x.true

pub returns : goal.returns
returns c =
    round_here c.args.x c.truncating_f64_to_u64-whole.result c.requires.0 c.requires.1 c.truncating_f64_to_u64-whole.ensures c.if-back-x.false
