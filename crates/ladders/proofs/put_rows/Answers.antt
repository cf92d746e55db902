-- `ladders::put_rows` meets its contract: its pieces are the rows. Assumes nothing.
use Rattle.std.proofs.Common.{rules, arith, ◌+◌, ◌^◌, ◌<◌}
use Rattle.definitions.specs.Ladder.{ladder_row, ladder_rows}
use Rattle.storing.proofs.Pieces.{joined_short}
use Rattle.ladders.proofs.put_rows.Goals as goal

pub put_each-requires : goal.put_each-requires
put_each-requires c = (
  ladder_row c.args.c,
  λ i p out more place. let short = joined_short 3 i (ladder_row c.args.c) (λ j. omega arith) in let room : p + 3 < 2 ^ 64 = omega arith in search rules,
  λ i p end out out' more place e. search rules,
)

pub returns : goal.returns
unfolding ladder_rows
returns c = c.put_each.ensures (ladder_row c.args.c) (λ i p end out out' more place e. search rules)
