-- `ladders::ladder` meets its contract: there is room for the rows, or there is not. Assumes nothing.
use mathlib.Core.Path.{refl}
use mathlib.Core.Logic.{inl, inr}
use native.Mathlib.Omega.{arith}
use Rattle.opening.proofs.Ladder.{rows_length}
use Rattle.ladders.proofs.Laws.{doubled_small, rows_count, rows_given}
use Rattle.ladders.proofs.ladder.Goals as goal

pub returns-then-out-c : goal.returns-then-out-c
returns-then-out-c c =
    inr (
      (omega arith, omega arith),
      inl (omega (arith, rows_count c.args.depth c.machine_count-c.result c.machine_count-c.ensures), (refl, refl)),
    )

pub put_rows-n-requires : goal.put_rows-n-requires
put_rows-n-requires c =
    omega (arith, c.machine_count-c.ensures, doubled_small c.args.depth (omega arith))

pub overflow_cast-result : goal.overflow_cast-result
overflow_cast-result c =
    omega (arith, c.put_rows-n.ensures.place, rows_length c.machine_count-c.result, c.machine_count-c.ensures, doubled_small c.args.depth (omega arith))

pub returns : goal.returns
returns c =
    inr (
      (omega arith, omega arith),
      rows_given c.args.depth c.machine_count-c.result c.machine_count-c.ensures c.put_rows-n.ensures (omega arith),
    )
