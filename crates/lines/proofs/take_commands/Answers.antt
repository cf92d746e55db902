-- `lines::take_commands` meets its contract: commands are taken from the first offset to the one in hand, and each turn takes a byte at least.
-- Assumes nothing.
use mathlib.Core.Path.{subst}
use Prim.Native.Nat.{ℕ}
use native.Mathlib.Omega.{arith}
use lib.ListN.{drop}
use Rattle.std.proofs.Common.{Option, Ok}
use Rattle.loading.specs.Loading.{TookNext, Turned}
use Rattle.lines.proofs.Turns.{taken_starts, taken_size, taken_on, taken_halts}
use Rattle.lines.proofs.take_commands.Goals.{In-Ok-Some}
use Rattle.lines.proofs.take_commands.Goals as goal

-- the command that is done
took : (c : In-Ok-Some)
    → let l = c.loop-size in
    let n = c.take_next in
    TookNext l.book l.sheet (drop l.to c.args.input.now) c.in-Ok-Some.size n.new.book n.new.sheet
took c =
    let l = c.loop-size in
    let n = c.take_next in
    subst (λ (o : Option ℕ). Turned l.book l.sheet (drop l.to c.args.input.now) (Ok o) n.new.book n.new.sheet) c.in-Ok-Some.field-0-is c.in-Ok-Some.ensures

pub loop-size-init : goal.loop-size-init
loop-size-init c = let p = c.requires in taken_starts p.0 p.1 p.2

pub overflow_add-to : goal.overflow_add-to
overflow_add-to c = omega (arith, taken_size c.loop-size.invariant (took c))

pub loop-size-smaller : goal.loop-size-smaller
loop-size-smaller c = omega (arith, taken_size c.loop-size.invariant (took (goal.at.loop-size-smaller c).In-Ok-Some))

pub loop-size-preserved : goal.loop-size-preserved
loop-size-preserved c = taken_on c.loop-size.invariant (took (goal.at.loop-size-preserved c).In-Ok-Some)

pub returns-in-Ok-None : goal.returns-in-Ok-None
returns-in-Ok-None c =
    let l = c.loop-size in
    let n = c.take_next in
    taken_halts l.invariant
    (subst (λ (o : Option ℕ). Turned l.book l.sheet (drop l.to c.args.input.now) (Ok o) n.new.book n.new.sheet) c.in-Ok-None.field-0-is c.in-Ok-None.ensures)

pub returns-in-Err : goal.returns-in-Err
returns-in-Err c = taken_halts c.loop-size.invariant c.in-Err.ensures
