-- `loading::run_stream` meets its contract: what the rest of the stream leaves of what stands is what the whole stream leaves, and each turn
-- takes a byte at least. Assumes nothing.
use mathlib.Core.Path.{subst}
use Prim.Native.Nat.{ℕ}
use native.Mathlib.Omega.{arith}
use lib.ListN.{drop}
use Rattle.std.proofs.Common.{Option, Ok}
use Rattle.loading.specs.Loading.{TookNext, Turned}
use Rattle.loading.proofs.Turns.{turn_size, underway_on, underway_ends}
use Rattle.loading.proofs.run_stream.Goals.{In-Ok-Some}
use Rattle.loading.proofs.run_stream.Goals as goal

-- the command that is done
took : (c : In-Ok-Some)
    → let l = c.loop-size in
    let n = c.take_next in
    TookNext l.book l.sheet (drop l.taken c.args.stream.now) c.in-Ok-Some.size n.new.book n.new.sheet
took c =
    let l = c.loop-size in
    let n = c.take_next in
    subst (λ (o : Option ℕ). Turned l.book l.sheet (drop l.taken c.args.stream.now) (Ok o) n.new.book n.new.sheet) c.in-Ok-Some.field-0-is c.in-Ok-Some.ensures

pub overflow_add-taken : goal.overflow_add-taken
overflow_add-taken c = omega (arith, turn_size c.loop-size.invariant (took c))

pub loop-size-smaller : goal.loop-size-smaller
loop-size-smaller c = omega (arith, turn_size c.loop-size.invariant (took (goal.at.loop-size-smaller c).In-Ok-Some))

pub loop-size-preserved : goal.loop-size-preserved
loop-size-preserved c = underway_on c.loop-size.invariant (took (goal.at.loop-size-preserved c).In-Ok-Some)

pub returns-in-Ok-None : goal.returns-in-Ok-None
returns-in-Ok-None c =
    let l = c.loop-size in
    let n = c.take_next in
    underway_ends l.invariant
    (subst (λ (o : Option ℕ). Turned l.book l.sheet (drop l.taken c.args.stream.now) (Ok o) n.new.book n.new.sheet) c.in-Ok-None.field-0-is c.in-Ok-None.ensures)

pub returns-in-Err : goal.returns-in-Err
returns-in-Err c = underway_ends c.loop-size.invariant c.in-Err.ensures
