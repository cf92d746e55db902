-- `exiting::exit` meets its contract: each way out shows its refusal, or that none holds. Assumes nothing.
use mathlib.Core.List.{[]}
use mathlib.Core.Path.{refl}
use Rattle.definitions.specs.Calls.{sheet_refusals}
use Rattle.definitions.proofs.Answers.{Passed}
use Rattle.refusals.proofs.Judging.{judged_ok}
use Rattle.exiting.proofs.Says.{says_unused, says_no_way, says_costs}
use Rattle.exiting.proofs.exit.Goals.{Else-command-ge-COMMANDS}
use Rattle.exiting.proofs.exit.Goals as goal

-- the book is well formed and the sheet is true past the first three refusals
lent : (c : Else-command-ge-COMMANDS) → Passed (sheet_refusals c.args.book.now c.args.sheet.now [])
lent c = judged_ok (sheet_refusals c.args.book.now c.args.sheet.now []) c.judge.ensures c.in_ok-judge.was refl

pub returns-then-start-eq-ABSENT : goal.returns-then-start-eq-ABSENT
returns-then-start-eq-ABSENT c =
    says_unused c.args.book.now c.args.sheet.now c.args.machine c.args.command (lent (goal.at.returns-then-start-eq-ABSENT c).Else-command-ge-COMMANDS)
    (c.if-machine-ge-MACHINES.false, c.if-command-ge-COMMANDS.false) c.start.ensures c.if-start-eq-ABSENT.true

pub returns-then-cost : goal.returns-then-cost
returns-then-cost c =
    says_no_way c.args.book.now c.args.sheet.now c.args.machine c.args.command (lent (goal.at.returns-then-cost c).Else-command-ge-COMMANDS)
    (c.if-machine-ge-MACHINES.false, c.if-command-ge-COMMANDS.false) c.start.ensures c.if-start-eq-ABSENT.false c.stale.ensures c.if-stale-eq1.false
    c.exit-cost.ensures c.if-cost.true

pub returns : goal.returns
returns c =
    says_costs c.args.book.now c.args.sheet.now c.args.machine c.args.command (lent (goal.at.returns c).Else-command-ge-COMMANDS)
    (c.if-machine-ge-MACHINES.false, c.if-command-ge-COMMANDS.false) c.start.ensures c.if-start-eq-ABSENT.false c.stale.ensures c.if-stale-eq1.false
    c.exit-cost.ensures c.if-cost.false
