-- `choosing::used_part` meets its contract: what is used from the state in hand on, with the commands passed before it, is what is used of
-- the whole list. Assumes nothing.
use mathlib.Core.Path.{◌≡◌, sym, subst}
use mathlib.Core.Option.{Option, some}
use Prim.Native.Nat.{ℕ, ◌+◌, ◌*◌, ◌≤◌}
use native.Mathlib.Omega.{arith}
use lib.ListN.{length}
use Rattle.std.proofs.Common.{Result}
use Rattle.definitions.specs.Limits.{largest_step_cost}
use Rattle.definitions.specs.Book.{tree_of}
use Rattle.definitions.specs.Calls.{StepSays}
use Rattle.definitions.specs.Choose.{Used, used_of}
use Rattle.definitions.proofs.Answers.{StepDone, step_done, done_moved, done_stopped}
use Rattle.refusals.specs.declared.Refusal.{Refusal}
use Rattle.stepping.specs.Meaning.{answer_of}
use Rattle.stepping.specs.declared.Moved.{Moved}
use Rattle.choosing.proofs.Laws.{Upto, upto_arrives, upto_ends, upto_over, upto_stops, upto_moves, upto_fits}
use Rattle.choosing.proofs.used_part.Goals.{After-step_from, After-from-cost}
use Rattle.choosing.proofs.used_part.Goals as goal

-- the step, by Step's own promise
done : (c : After-step_from) (r : Result Moved Refusal) → c.step_from.result ≡ r
    → StepDone (tree_of c.args.book.now) c.loop-i.s c.from-command.result (answer_of r)
done c r same =
    step_done c.args.book.now c.requires.0 c.loop-i.invariant.used c.if-command-ge-COMMANDS.false c.loop-i.invariant.plain
    (subst (λ (z : Result Moved Refusal). StepSays c.args.book.now c.loop-i.s c.from-command.result (answer_of z)) same c.step_from.ensures)

-- after one command more
next : (c : After-from-cost)
    → Upto (tree_of c.args.book.now) c.args.a c.args.b c.looked_at-looked.result.now c.in-Ok.moved.state (c.loop-i.i + 1) (c.loop-i.cost + c.from-cost.result)
    × (c.loop-i.cost + c.from-cost.result ≤ 65536 * largest_step_cost)
next c =
    let moved = done_moved (tree_of c.args.book.now) c.loop-i.s c.from-command.result
    (step_done c.args.book.now c.requires.0 c.loop-i.invariant.used c.if-command-ge-COMMANDS.false c.loop-i.invariant.plain
    (subst (λ (z : Result Moved Refusal). StepSays c.args.book.now c.loop-i.s c.from-command.result (answer_of z)) c.in-Ok.is c.step_from.ensures)) in
    let told = c.from-cost.ensures in (
      subst (λ (z : ℕ). Upto (tree_of c.args.book.now) c.args.a c.args.b c.looked_at-looked.result.now c.in-Ok.moved.state (c.loop-i.i + 1) (c.loop-i.cost + z)) (sym told)
          (upto_moves c.requires.0.sound c.args.list.now c.looked_at-looked.ensures c.loop-i.invariant c.if-s-b.false c.loop-i-test.true c.from-command.result c.from-command.ensures c.if-command-ge-COMMANDS.false moved),
      omega (
        arith,
        told,
        upto_fits c.requires.0.sound c.args.list.now c.looked_at-looked.ensures c.loop-i.invariant c.if-s-b.false c.loop-i-test.true c.from-command.result c.from-command.ensures c.if-command-ge-COMMANDS.false moved,
      ),
    )

pub returns-then-s-b : goal.returns-then-s-b
returns-then-s-b c = upto_arrives c.requires.0.sound c.args.list.now c.looked_at-looked.ensures c.loop-i.invariant c.if-s-b.true

pub returns-then-command-ge-COMMANDS : goal.returns-then-command-ge-COMMANDS
returns-then-command-ge-COMMANDS c =
    upto_over c.requires.0.sound c.args.list.now c.looked_at-looked.ensures c.loop-i.invariant c.if-s-b.false c.loop-i-test.true c.from-command.result
    c.from-command.ensures c.if-command-ge-COMMANDS.true

pub returns-in_default : goal.returns-in_default
returns-in_default c =
    upto_stops c.requires.0.sound c.args.list.now c.looked_at-looked.ensures c.loop-i.invariant c.if-s-b.false c.loop-i-test.true c.from-command.result
    c.from-command.ensures c.if-command-ge-COMMANDS.false
    (done_stopped (tree_of c.args.book.now) c.loop-i.s c.from-command.result (done (goal.at.returns-in_default c).After-step_from _ c.in_default.is))

pub overflow_add-cost : goal.overflow_add-cost
overflow_add-cost c = omega (arith, (next (goal.at.overflow_add-cost c).After-from-cost).1)

pub loop-i-preserved : goal.loop-i-preserved
loop-i-preserved c = (next (goal.at.loop-i-preserved c).After-from-cost).0

pub returns-then-s-b-2 : goal.returns-then-s-b-2
returns-then-s-b-2 c = upto_ends c.requires.0.sound c.args.list.now c.looked_at-looked.ensures c.loop-i.invariant c.if-s-b-2.true c.loop-i-test.false

pub returns : goal.returns
returns c =
    let all : c.loop-i.i ≡ length c.looked_at-looked.result.now = omega arith in
    let is : ℕ → Type 0 = λ n. ◌≡◌ {A = Option Used} (some (record { count = n; cost = c.loop-i.cost })) (used_of (tree_of c.args.book.now) c.args.a c.args.b c.args.list.now) in
    subst is all (upto_arrives c.requires.0.sound c.args.list.now c.looked_at-looked.ensures c.loop-i.invariant c.if-s-b-2.false)
